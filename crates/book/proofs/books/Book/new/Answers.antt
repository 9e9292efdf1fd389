use Rattle.rules.specs.Books.{ranked_by}
use Rattle.book.proofs.Making.{promises_from}
use Rattle.book.proofs.books.Book.new.Goals as goal

pub returns : goal.returns
returns g c =
    let is = c.in_ok-memory.ensures in
    record {
      book = is;
      promises = promises_from (ranked_by g.K.Ranking.initial g.K.Ranking.good) g.met.K.Ranking.ordered g.D.Dealing.meaning g.met.D.Dealing.lawful c.in_ok-memory.memory.state c.args.lot is;
    }
