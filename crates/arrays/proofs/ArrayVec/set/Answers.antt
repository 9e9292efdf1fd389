use Rattle.std.proofs.Common.{arith}
use Rattle.std.proofs.Math.Seq.{take-set-lt}
use Rattle.std.proofs.lemmas.List.{length-take}
use Rattle.arrays.proofs.ArrayVec.set.Goals as goal

pub offset_bounds-self-i : goal.offset_bounds-self-i
offset_bounds-self-i g c =
    let v = c.args.self.now in
    omega (arith, v.fits, c.requires, length-take v.len v.items)

pub returns : goal.returns
returns g c =
    let v = c.args.self.now in
    take-set-lt v.len v.items c.args.i c.args.x (omega (arith, c.requires, length-take v.len v.items))
