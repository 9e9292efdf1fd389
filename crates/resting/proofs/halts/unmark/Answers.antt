use Rattle.std.proofs.Common.{get_or, set, ap, ◌∙◌, arith}
use Rattle.rules.specs.Books.{nothing_at}
use Rattle.levels.specs.Sides.{levels_of}
use Rattle.resting.specs.Unmarked.{plain_level}
use Rattle.resting.proofs.Mapping.{mapped_more}
use Rattle.resting.proofs.halts.unmark.Goals as goal

pub loop-i-preserved : goal.loop-i-preserved
loop-i-preserved c =
    let ls = levels_of c.args.levels.now in
    let i = c.loop-i.i in
    let z = nothing_at 0 in
    c.unmark_level.ensures z
    ∙ ap (λ ms. set ms i (plain_level (get_or ms i z))) c.loop-i.invariant
    ∙ mapped_more plain_level ls i z (omega (arith, c.loop-i-test.true, c.len-i-end.ensures.count))
