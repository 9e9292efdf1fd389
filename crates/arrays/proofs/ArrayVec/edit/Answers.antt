use Rattle.std.proofs.Common.{refl, sym, ◌∙◌, arith}
use Rattle.std.proofs.Math.Seq.{take-set-lt}
use Rattle.std.proofs.lemmas.List.{length-take, get_or-take, get_or_default}
use Rattle.arrays.proofs.ArrayVec.edit.Goals as goal

pub returns : goal.returns
returns g c = λ d.
    let v = c.args.self.now in
    let at = length-take v.len v.items in
    let read = get_or_default v.items c.args.i c.index-self-i.result d (omega (arith, c.requires.place, v.long, v.fits, at)) ∙ sym (get_or-take v.len v.items c.args.i d (omega (arith, c.requires.place, at))) in
    (_, record { shown = _; shows = read; left = _; met = c.how.ensures; leaves = refl }, take-set-lt v.len v.items c.args.i _ (omega (arith, c.requires.place, at)))
