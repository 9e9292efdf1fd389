use Rattle.std.proofs.Common.{arith}
use Rattle.std.proofs.lemmas.List.{length-take}
use Rattle.arrays.proofs.Fronts.{opened}
use Rattle.arrays.proofs.ArrayVec.insert.Goals as goal

pub returns : goal.returns
returns g c =
    let v = c.args.self.now in
    let n = length-take v.len v.items in
    opened v.len c.args.i c.args.x v.items _ (omega (arith, c.requires.place)) (omega (arith, c.requires.room, v.fits, v.long)) c.rotate_right.ensures.after
