use Rattle.std.proofs.Common.{subst}
use Rattle.rules.specs.Books.{ranked_by}
use Rattle.orders.specs.Rows.{rows_of}
use Rattle.memory.specs.States.{Tallied}
use Rattle.memory.proofs.Props.{standing}
use Rattle.book.proofs.books.Book.orders.Goals as goal

pub returns-clause-tallied : goal.returns-clause-tallied
returns-clause-tallied g c =
    let m = c.self.inside.memory in
    subst (Tallied (rows_of m.state.orders)) c.self.view_is (standing (ranked_by g.K.Ranking.initial g.K.Ranking.good) m.state m.stands).tallied
