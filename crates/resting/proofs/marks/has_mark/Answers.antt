use Rattle.std.proofs.Common.{◌&&◌, Bool, eqb, ◌∙◌, rules, tests}
use Rattle.std.proofs.lemmas.Iterator.Search.{any_from_yields_List}
use Rattle.rules.specs.Lists.{any}
use Rattle.rules.specs.Books.{Level, nothing_at}
use Rattle.levels.specs.Sides.{levels_of}
use Rattle.resting.proofs.Scans.{by_place, any_is}
use Rattle.resting.proofs.marks.has_mark.Goals as goal

pub returns : goal.returns
returns c =
    let ls = levels_of c.args.levels.now in
    let marked : Level → Bool = λ l. eqb l.price c.args.price && any (λ p. p.marked) l.shown.parts in
    any_from_yields_List marked _ _ c.any.result c.any.ensures.ran (by_place ls (nothing_at 0) c.len.result c.len.ensures.count) (λ i b q k. search (rules, tests)) ∙ any_is marked ls
