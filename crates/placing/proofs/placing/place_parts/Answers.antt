use Rattle.std.proofs.Common.{ap, ◌∙◌}
use Rattle.rules.specs.Books.{ranked_by}
use Rattle.levels.specs.Sides.{levels_of}
use Rattle.memory.specs.States.{book_of}
use Rattle.memory.proofs.Lent.{side_lent, side_is}
use Rattle.placing.specs.Placed.{placed}
use Rattle.placing.proofs.Rests.{placed_side}
use Rattle.placing.proofs.placing.place_parts.Goals as goal

pub returns-clause-book : goal.returns-clause-book
returns-clause-book g c =
    let rank = ranked_by g.K.Ranking.initial g.K.Ranking.good in
    let s = c.args.state.now in
    let e = c.args.order in
    let n = c.args.left in
    side_lent s e.side c.place_on.new.levels
    ∙ placed_side rank e n c.away.result (book_of s) (levels_of c.place_on.new.levels) c.requires.rests c.away.ensures
    (c.place_on.ensures ∙ ap (placed rank e.kind s.lot c.away.result e n) (c.side_mut.ensures.value ∙ side_is s e.side))
