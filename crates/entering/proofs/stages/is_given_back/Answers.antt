use Rattle.std.proofs.Common.{rules, not, sym, ap, ◌∙◌}
use Rattle.rules.specs.Books.{ranked_by, good, other, away}
use Rattle.rules.specs.Marks.{quoted}
use Rattle.memory.specs.States.{book_of}
use Rattle.entering.proofs.Judged.{cannot_rest, by_quote, where_quoted}
use Rattle.entering.proofs.stages.is_given_back.Goals as goal

pub returns-then-not-can_rest : goal.returns-then-not-can_rest
returns-then-not-can_rest g c =
    ap not c.if-not-can_rest.true ∙ cannot_rest (ranked_by g.K.Ranking.initial g.K.Ranking.good) (book_of c.args.state.now) c.args.order (sym c.can_rest.ensures ∙ c.if-not-can_rest.true)

pub returns-else-not-can_rest : goal.returns-else-not-can_rest
returns-else-not-can_rest g c =
    let rank = ranked_by g.K.Ranking.initial g.K.Ranking.good in
    let b = book_of c.args.state.now in
    let e = c.args.order in
    let quote = ap (λ s. quoted (away s b)) c.opposite-side.ensures in
    where_quoted _ (away (other e.side) b) _ (λ q. good rank (other e.side) q e.price) _ (c.away.ensures ∙ quote) c.is_some_and.ensures (λ x h. search rules)
    ∙ by_quote rank b e (sym c.can_rest.ensures ∙ c.if-not-can_rest.false)
