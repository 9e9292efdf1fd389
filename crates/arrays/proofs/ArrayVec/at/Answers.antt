use Rattle.std.proofs.Common.{get_or, sym, ◌∙◌, arith}
use Rattle.std.proofs.lemmas.List.{length-take, get_or-take, get_or_default}
use Rattle.arrays.proofs.ArrayVec.at.Goals as goal

pub returns : goal.returns
returns g c =
    let v = c.args.self.now in
    sym (get_or-take v.len v.items c.args.i (get_or v.items c.args.i c.index-self-i.result) (omega (arith, c.requires, length-take v.len v.items))
    ∙ get_or_default v.items c.args.i _ c.index-self-i.result (omega (arith, c.requires, v.long, length-take v.len v.items)))
