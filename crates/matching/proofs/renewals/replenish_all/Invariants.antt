use Rattle.std.proofs.Common.{◌≡◌}
use Rattle.rules.specs.Books.{ranked_by}
use Rattle.orders.specs.Rows.{orders_of}
use Rattle.memory.specs.States.{book_of}
use Rattle.matching.proofs.Renewing.{Renewing}
use Rattle.matching.proofs.renewals.replenish_all.Given as goal

abbrev pub invariant-loop-i : goal.invariant-loop-i
invariant-loop-i g l =
    (l.state.orders ≡ l.initial.state.orders)
    × Renewing (ranked_by g.K.Ranking.initial g.K.Ranking.good) g.met.K.Ranking.ordered l.initial.state.lot (orders_of l.initial.state.orders) l.i (book_of l.initial.state) (book_of l.state)
