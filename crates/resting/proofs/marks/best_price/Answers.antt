use Rattle.std.proofs.Common.{◌≡◌, leb, get_or, ap, ◌∙◌, rules, tests}
use Rattle.std.specs.Option.{option_map}
use Rattle.std.proofs.lemmas.Iterator.Search.{find_from_yields_List}
use Rattle.rules.specs.Books.{Level, nothing_at}
use Rattle.rules.specs.Quantities.{displayed}
use Rattle.levels.specs.Sides.{levels_of}
use Rattle.resting.proofs.Scans.{by_place, best_is}
use Rattle.resting.proofs.marks.best_price.Goals as goal

pub returns : goal.returns
returns c =
    let ls = levels_of c.args.levels.now in
    let found = find_from_yields_List (λ l. leb c.args.lot (displayed l)) _ _ c.find.result c.find.ensures.ran (by_place ls (nothing_at 0) c.len.result c.len.ensures.count) (λ i b q k. search (rules, tests)) in
    let read : c.map.result ≡ option_map (λ l. l.price) (option_map (λ i. get_or ls i (nothing_at 0)) c.find.result) = search rules in
    read ∙ ap (option_map (λ (l : Level). l.price)) found ∙ best_is c.args.lot ls
