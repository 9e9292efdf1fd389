use Rattle.std.proofs.Common.{sym, arith}
use Rattle.std.proofs.lemmas.List.{length-take-le}
use Rattle.arrays.proofs.ArrayVec.len.Goals as goal

pub returns : goal.returns
returns g c =
    let v = c.args.self.now in
    sym (length-take-le v.len v.items (omega (arith, v.fits, v.long)))
