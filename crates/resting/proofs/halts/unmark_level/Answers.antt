use Rattle.std.proofs.Common.{◌≡◌, false, length, get_or, ap, ◌∙◌, arith}
use Rattle.std.proofs.lemmas.List.{get_or-set_same, length-set}
use Rattle.rules.specs.Books.{Level, part, nothing_at}
use Rattle.levels.specs.Sides.{levels_of}
use Rattle.resting.specs.Unmarked.{plain}
use Rattle.resting.proofs.Mapping.{plain_to, plain_more, length_mapped}
use Rattle.resting.proofs.halts.unmark_level.Goals as goal

pub unmark_part-requires : goal.unmark_part-requires
unmark_part-requires c =
    let ls = levels_of c.args.levels.now in
    let i = c.args.i in
    let z = nothing_at 0 in
    let so = c.loop-k.invariant z in
    let m : Level = plain_to c.loop-k.k (get_or ls i z) in
    let now : get_or (levels_of c.loop-k.levels) i z ≡ m = ap (λ x. get_or x i z) so ∙ get_or-set_same ls i m z c.requires in
    record {
      place = omega (arith, c.requires, ap length so, length-set ls i m);
      within = omega (
        arith,
        c.loop-k-test.true,
        ap length (c.parts-n.ensures.value z),
        ap (λ (x : Level). length x.shown.parts) now,
        length_mapped plain (get_or ls i z).shown.parts c.loop-k.k,
      );
    }

pub loop-k-preserved : goal.loop-k-preserved
loop-k-preserved c = λ d.
    let ls = levels_of c.args.levels.now in
    plain_more ls (levels_of c.loop-k.levels) (levels_of c.unmark_part.new.levels) c.args.i c.loop-k.k d (part 0 0 0 false) c.requires (omega (arith, c.loop-k-test.true, ap length (c.parts-n.ensures.value d))) (c.loop-k.invariant d) (c.unmark_part.ensures d (part 0 0 0 false))
