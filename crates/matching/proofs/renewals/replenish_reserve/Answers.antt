use Rattle.std.proofs.Common.{List, sym, ap, ◌∙◌, subst, arith}
use Rattle.rules.specs.Books.{Book, Level, ranked_by, side, with_side}
use Rattle.levels.specs.Sides.{levels_of}
use Rattle.resting.specs.Replenished.{replenished}
use Rattle.memory.specs.States.{book_of}
use Rattle.memory.proofs.Lent.{side_lent, side_is}
use Rattle.matching.proofs.Renewing.{Ready, ready_for, renewed_is}
use Rattle.matching.proofs.renewals.replenish_reserve.Goals as goal

pub replenish-requires : goal.replenish-requires
replenish-requires g c =
    let rank = ranked_by g.K.Ranking.initial g.K.Ranking.good in
    let s = c.args.state.now in
    let b = book_of s in
    let e = c.args.order in
    let r : Ready rank b.lot e (levels_of c.side_mut-levels.result.now) =
    subst (λ (ls : List Level). Ready rank b.lot e ls) (sym (c.side_mut-levels.ensures.value ∙ side_is s e.side)) (ready_for rank g.met.K.Ranking.ordered b.lot b.orders b e c.requires.book c.requires.rests c.requires.kind) in
    record { prices = r.few; order = record { known = r.known; display = r.display }; small = r.small; parts = r.room; room = omega (arith, s.sized) }

pub returns-clause-book : goal.returns-clause-book
returns-clause-book g c =
    let rank = ranked_by g.K.Ranking.initial g.K.Ranking.good in
    let s = c.args.state.now in
    let b : Book = book_of s in
    let e = c.args.order in
    side_lent s e.side c.replenish.new.levels
    ∙ ap (λ ls. with_side e.side ls b) (c.replenish.ensures ∙ ap (replenished rank b.lot c.away.result e) (c.side_mut-levels.ensures.value ∙ side_is s e.side))
    ∙ ap (λ quote. with_side e.side (replenished rank b.lot quote e (side e.side b)) b) c.away.ensures
    ∙ sym (renewed_is rank b e c.requires.kind)
