use Rattle.std.proofs.Common.{sym, arith}
use Rattle.std.proofs.lemmas.List.{length-take, take-take}
use Rattle.arrays.proofs.ArrayVec.truncate.Goals as goal

pub invariant_of-self : goal.invariant_of-self
invariant_of-self g c =
    let v = c.args.self.now in
    record { fits = omega (arith, v.fits, c.requires, length-take v.len v.items); long = v.long }

pub returns : goal.returns
returns g c =
    let v = c.args.self.now in
    sym (take-take c.args.n v.len v.items (omega (arith, c.requires, length-take v.len v.items)))
