use Rattle.std.proofs.Common.{◌≡◌, List, length, ap, ◌∙◌, arith, Ok, refl}
use Rattle.allocation.specs.Dealings.{Deal}
use Rattle.rules.specs.declared.orders.Order.{Order}
use Rattle.rules.specs.declared.answers.Row.{Row}
use Rattle.rules.specs.Books.{Ranking, Book, ranked_by}
use Rattle.rules.specs.Trading.{Traded}
use Rattle.rules.specs.Entering.{Outcome, trade, arrived}
use Rattle.rules.specs.Rules.{tidy}
use Rattle.trading.specs.Written.{written}
use Rattle.trading.proofs.Writing.{length_written}
use Rattle.memory.specs.States.{book_of}
use Rattle.memory.proofs.Props.{standing}
use Rattle.memory.proofs.Staying.{keeps}
use Rattle.entering.specs.Remainders.{ended}
use Rattle.entering.proofs.Ruled.{entry_fine, enough_room}
use Rattle.entering.proofs.Room.{ready, rows_few}
use Rattle.entering.proofs.Followed.{ready_at, ended_at, accepted_follows}
use Rattle.entering.proofs.entering.accept.Goals as goal

pub place-placed-requires : goal.place-placed-requires
place-placed-requires g c =
    let rank : Ranking = ranked_by g.K.Ranking.initial g.K.Ranking.good in
    let deal : Deal = g.D.Dealing.meaning in
    let e : Order = c.args.order in
    let b : Book = book_of c.args.book.now.state in
    let report : List Row = c.args.report.now in
    let t : Order → Traded Book = λ o. trade rank deal o (arrived o b) in
    let came : c.arrive-arrived.result.order ≡ e = c.arrive-arrived.ensures in
    let few = rows_few rank g.met.K.Ranking.ordered deal g.met.D.Dealing.lawful b e (standing (ranked_by g.K.Ranking.initial g.K.Ranking.good) c.args.book.now.state c.args.book.now.stands).sound in
    let room = enough_room (length report) c.requires.presentable.report in
    record {
      ready =
          ready_at e c.trade-traded.result.order (t e).left c.trade-traded.result.left (t e).rest (book_of c.trade-traded.new.state)
          (c.trade-traded.ensures.order ∙ came)
          (c.trade-traded.ensures.left ∙ ap (λ o. (t o).left) came)
          (c.trade-traded.ensures.book ∙ ap (λ o. (t o).rest) came)
          (ready rank g.met.K.Ranking.ordered deal g.met.D.Dealing.lawful b e (standing (ranked_by g.K.Ranking.initial g.K.Ranking.good) c.args.book.now.state c.args.book.now.stands).sound (entry_fine b (length report) e c.requires.presentable c.requires.allowed));
      tallied = c.trade-traded.ensures.tallied;
      room = omega (
        arith,
        few,
        room,
        c.trade-traded.ensures.rows ∙ ap (λ o. length (t o).rows) came,
        ap length (c.trade-traded.ensures.report ∙ ap (λ o. written report 0 (t o).rows) came),
        length_written report 0 (t e).rows (omega (arith, few, room)),
      );
    }

pub trade-traded-requires-clause-stands : goal.trade-traded-requires-clause-stands
trade-traded-requires-clause-stands g c = standing _ _ c.args.book.now.stands

pub invariant_of-book : goal.invariant_of-book
invariant_of-book g c =
    let rank : Ranking = ranked_by g.K.Ranking.initial g.K.Ranking.good in
    let deal : Deal = g.D.Dealing.meaning in
    let e : Order = c.args.order in
    let b : Book = book_of c.args.book.now.state in
    let report : List Row = c.args.report.now in
    let middle : List Row = c.trade-traded.new.report in
    let t : Order → Traded Book = λ o. trade rank deal o (arrived o b) in
    let o : Outcome = ended rank e (t e).left (t e).rest in
    let came : c.arrive-arrived.result.order ≡ e = c.arrive-arrived.ensures in
    let many : c.trade-traded.result.rows ≡ length (t e).rows = c.trade-traded.ensures.rows ∙ ap (λ x. length (t x).rows) came in
    let same : ended rank c.trade-traded.result.order c.trade-traded.result.left (book_of c.trade-traded.new.state) ≡ o =
    ended_at rank e c.trade-traded.result.order (t e).left c.trade-traded.result.left (t e).rest (book_of c.trade-traded.new.state)
    (c.trade-traded.ensures.order ∙ came)
    (c.trade-traded.ensures.left ∙ ap (λ x. (t x).left) came)
    (c.trade-traded.ensures.book ∙ ap (λ x. (t x).rest) came) in
    let few = rows_few rank g.met.K.Ranking.ordered deal g.met.D.Dealing.lawful b e (standing (ranked_by g.K.Ranking.initial g.K.Ranking.good) c.args.book.now.state c.args.book.now.stands).sound in
    let room = enough_room (length report) c.requires.presentable.report in
    record {
      stands = keeps rank g.met.K.Ranking.ordered deal g.met.D.Dealing.lawful (accepted_follows rank deal e c.args.book.now.state c.tidy.new.state report (Ok c.place-placed.result.reply.accepted) c.place-placed.result.reply.rows middle c.place-placed.new.report _
          c.requires.presentable
          c.requires.allowed
          (omega (arith, few, room))
          (c.trade-traded.ensures.report ∙ ap (λ x. written report 0 (t x).rows) came)
          (c.place-placed.ensures.report ∙ ap (λ k. written middle k (ended rank c.trade-traded.result.order c.trade-traded.result.left (book_of c.trade-traded.new.state)).rows) many ∙ ap (λ (x : Outcome). written middle (length (t e).rows) x.rows) same)
          refl
          (c.place-placed.ensures.answer ∙ ap (λ (x : Outcome). x.answer) same)
          (omega (arith, c.place-placed.ensures.rows, many, ap (λ (x : Outcome). length x.rows) same))
          (c.tidy.ensures.book ∙ ap tidy (c.place-placed.ensures.book ∙ ap (λ (x : Outcome). x.book) same))
          c.tidy.ensures.tallied) c.args.book.now.stands;
    }

pub returns : goal.returns
returns g c =
    let rank : Ranking = ranked_by g.K.Ranking.initial g.K.Ranking.good in
    let deal : Deal = g.D.Dealing.meaning in
    let e : Order = c.args.order in
    let b : Book = book_of c.args.book.now.state in
    let report : List Row = c.args.report.now in
    let middle : List Row = c.trade-traded.new.report in
    let t : Order → Traded Book = λ o. trade rank deal o (arrived o b) in
    let o : Outcome = ended rank e (t e).left (t e).rest in
    let came : c.arrive-arrived.result.order ≡ e = c.arrive-arrived.ensures in
    let many : c.trade-traded.result.rows ≡ length (t e).rows = c.trade-traded.ensures.rows ∙ ap (λ x. length (t x).rows) came in
    let same : ended rank c.trade-traded.result.order c.trade-traded.result.left (book_of c.trade-traded.new.state) ≡ o =
    ended_at rank e c.trade-traded.result.order (t e).left c.trade-traded.result.left (t e).rest (book_of c.trade-traded.new.state)
    (c.trade-traded.ensures.order ∙ came)
    (c.trade-traded.ensures.left ∙ ap (λ x. (t x).left) came)
    (c.trade-traded.ensures.book ∙ ap (λ x. (t x).rest) came) in
    let few = rows_few rank g.met.K.Ranking.ordered deal g.met.D.Dealing.lawful b e (standing (ranked_by g.K.Ranking.initial g.K.Ranking.good) c.args.book.now.state c.args.book.now.stands).sound in
    let room = enough_room (length report) c.requires.presentable.report in
    accepted_follows rank deal e c.args.book.now.state c.tidy.new.state report (Ok c.place-placed.result.reply.accepted) c.place-placed.result.reply.rows middle c.place-placed.new.report (Ok c.reply.result)
    c.requires.presentable
    c.requires.allowed
    (omega (arith, few, room))
    (c.trade-traded.ensures.report ∙ ap (λ x. written report 0 (t x).rows) came)
    (c.place-placed.ensures.report ∙ ap (λ k. written middle k (ended rank c.trade-traded.result.order c.trade-traded.result.left (book_of c.trade-traded.new.state)).rows) many ∙ ap (λ (x : Outcome). written middle (length (t e).rows) x.rows) same)
    (ap Ok c.reply.ensures)
    (c.place-placed.ensures.answer ∙ ap (λ (x : Outcome). x.answer) same)
    (omega (arith, c.place-placed.ensures.rows, many, ap (λ (x : Outcome). length x.rows) same))
    (c.tidy.ensures.book ∙ ap tidy (c.place-placed.ensures.book ∙ ap (λ (x : Outcome). x.book) same))
    c.tidy.ensures.tallied
