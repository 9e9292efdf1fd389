use Rattle.std.proofs.Common.{◌≡◌, get_or, refl, sym, ◌∙◌, subst}
use Rattle.std.specs.Option.{IsSome}
use Rattle.std.proofs.lemmas.List.{get_or_default}
use Rattle.rules.specs.Books.{ranked_by}
use Rattle.levels.specs.Sides.{levels_of}
use Rattle.orders.specs.Rows.{rows_of}
use Rattle.memory.specs.States.{book_of}
use Rattle.memory.proofs.Props.{standing}
use Rattle.giving_back.specs.Places.{RestsAt}
use Rattle.giving_back.proofs.Found.{found_at, found_somewhere}
use Rattle.giving_back.proofs.Tabled.{Known, known}
use Rattle.giving_back.proofs.offs.level_of.Goals as goal

pub unwrap-requires : goal.unwrap-requires
unwrap-requires g c =
    let s = c.args.book.now.state in
    let rank = ranked_by g.K.Ranking.initial g.K.Ranking.good in
    let stands = standing rank s c.args.book.now.stands in
    let r = c.row.result.now in
    let row : Known (book_of s) (rows_of s.orders) c.args.k r = known rank (book_of s) (rows_of s.orders) refl stands.sound stands.tallied c.args.k r c.requires c.row.ensures in
    subst (λ o. IsSome o) (sym c.find_price.ensures) (found_somewhere (book_of s) r.order row.unique rank g.met.K.Ranking.ordered stands.sound row.some (levels_of c.side.result.now) c.side.ensures)

pub returns : goal.returns
returns g c = λ d.
    let s = c.args.book.now.state in
    let rows = rows_of s.orders in
    let rank = ranked_by g.K.Ranking.initial g.K.Ranking.good in
    let stands = standing rank s c.args.book.now.stands in
    let k = c.args.k in
    let r = c.row.result.now in
    let row : Known (book_of s) rows k r = known rank (book_of s) rows refl stands.sound stands.tallied k r c.requires c.row.ensures in
    let is : r ≡ get_or rows k d = c.row.ensures ∙ get_or_default rows k r d c.requires in
    subst (λ x. RestsAt (book_of s) x.order c.unwrap.result) is
    (found_at (book_of s) r.order row.unique rank g.met.K.Ranking.ordered stands.sound row.some (levels_of c.side.result.now) c.side.ensures c.unwrap.result (sym c.find_price.ensures ∙ c.unwrap.ensures))
