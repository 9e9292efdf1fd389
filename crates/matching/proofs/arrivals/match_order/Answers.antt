use Rattle.std.proofs.Common.{◌≡◌, ◌-◌, ◌≤◌, List, [], length, take, sym, ap, ◌∙◌, subst, arith}
use Rattle.std.specs.List.{AllByRecursion}
use Rattle.rules.specs.declared.answers.Row.{Row}
use Rattle.rules.specs.Books.{Book, ranked_by}
use Rattle.rules.specs.Reserve.{replenish}
use Rattle.rules.specs.Entering.{arrived}
use Rattle.rules.specs.Invariants.{numbers}
use Rattle.trading.specs.Written.{written}
use Rattle.orders.specs.declared.tables.OrderTable.{OrderTable}
use Rattle.orders.specs.Rows.{rows_of, orders_of}
use Rattle.orders.specs.Deducted.{taken_from, deducted, Named}
use Rattle.orders.proofs.Taken.{none_taken}
use Rattle.memory.specs.States.{book_of}
use Rattle.matching.specs.Meeting.{met}
use Rattle.matching.specs.Underway.{Underway}
use Rattle.matching.proofs.Arriving.{front_rows, fits_report, none_left, after, trade_left, trade_rows, trade_rest, opposite_ready, opposite_sorted, few_rows, rows_named, rows_enough, still_tallied, after_underway, nothing_renewed}
use Rattle.matching.proofs.arrivals.match_order.Goals as goal

pub trade_opposite-progress-requires : goal.trade_opposite-progress-requires
trade_opposite-progress-requires g c =
    let rank = ranked_by g.K.Ranking.initial g.K.Ranking.good in
    let O = g.met.K.Ranking.ordered in
    let D = g.met.D.Dealing.lawful in
    let b = book_of c.args.state.now in
    record {
      ready = opposite_ready rank O g.D.Dealing.meaning D b c.args.order c.requires.stands.sound;
      sorted = opposite_sorted rank O g.D.Dealing.meaning D b c.args.order c.requires.stands.sound;
      rows = omega (arith, c.requires.room, few_rows rank O g.D.Dealing.meaning D b c.args.order c.requires.stands.sound);
    }

pub slice_bounds-settle_trades-end : goal.slice_bounds-settle_trades-end
slice_bounds-settle_trades-end g c =
    let rank = ranked_by g.K.Ranking.initial g.K.Ranking.good in
    let rows = (met rank g.D.Dealing.meaning c.args.order (arrived c.args.order (book_of c.args.state.now))).rows in
    let t = c.trade_opposite-progress in
    let fits : t.result.rows ≤ length t.new.report = fits_report c.args.report.now rows t.new.report t.result.rows t.ensures.rows t.ensures.count in
    fits

pub settle_trades-requires : goal.settle_trades-requires
settle_trades-requires g c =
    let rank = ranked_by g.K.Ranking.initial g.K.Ranking.good in
    let O = g.met.K.Ranking.ordered in
    let deal = g.D.Dealing.meaning in
    let D = g.met.D.Dealing.lawful in
    let b = book_of c.args.state.now in
    let e = c.args.order in
    let s = c.requires.stands.sound in
    let t = c.trade_opposite-progress in
    let rows = (met rank deal e (arrived e b)).rows in
    let front : take (t.result.rows - 0) t.new.report ≡ rows = ap (take (t.result.rows - 0)) t.ensures.rows ∙ front_rows c.args.report.now rows t.result.rows t.ensures.count in
    record {
      book = subst (λ (x : Book). Underway rank x.lot x.orders 128 x) (sym t.ensures.book) (after_underway rank O deal D b e s);
      named = subst (λ (ys : List Row). AllByRecursion (Named (numbers (orders_of t.new.state.orders))) ys) (sym front) (subst (λ (tb : OrderTable). AllByRecursion (Named (numbers (orders_of tb))) rows) (sym t.ensures.orders) (rows_named rank O deal D b e s));
      enough = subst (λ (ys : List Row). AllByRecursion (λ r. taken_from r.order.number ys ≤ r.quantity) (rows_of t.new.state.orders)) (sym front)
          (subst (λ (tb : OrderTable). AllByRecursion (λ r. taken_from r.order.number rows ≤ r.quantity) (rows_of tb)) (sym t.ensures.orders) (rows_enough rank O deal D b e s (rows_of c.args.state.now.orders) c.requires.stands.tallied));
    }

pub returns-then-n-gt0 : goal.returns-then-n-gt0
returns-then-n-gt0 g c =
    let rank = ranked_by g.K.Ranking.initial g.K.Ranking.good in
    let O = g.met.K.Ranking.ordered in
    let deal = g.D.Dealing.meaning in
    let D = g.met.D.Dealing.lawful in
    let b = book_of c.args.state.now in
    let e = c.args.order in
    let s = c.requires.stands.sound in
    let t = c.trade_opposite-progress in
    let u = c.settle_trades in
    let rs = rows_of c.args.state.now.orders in
    let rows = (met rank deal e (arrived e b)).rows in
    let front : take (t.result.rows - 0) t.new.report ≡ rows = ap (take (t.result.rows - 0)) t.ensures.rows ∙ front_rows c.args.report.now rows t.result.rows t.ensures.count in
    let book : book_of u.new.state ≡ replenish rank (after rank O deal D b e s) = u.ensures.book ∙ ap (replenish rank) t.ensures.book in
    let table : rows_of u.new.state.orders ≡ deducted rows rs = u.ensures.table ∙ ap (λ ys. deducted ys (rows_of t.new.state.orders)) front ∙ ap (λ tb. deducted rows (rows_of tb)) t.ensures.orders in
    record {
      book = book ∙ sym (trade_rest rank O deal D b e s);
      left = t.ensures.left ∙ sym (trade_left rank O deal D b e s);
      rows = t.ensures.rows ∙ ap (written c.args.report.now 0) (sym (trade_rows rank O deal D b e s));
      count = t.ensures.count ∙ ap length (sym (trade_rows rank O deal D b e s));
      table = table ∙ ap (λ ys. deducted ys rs) (sym (trade_rows rank O deal D b e s));
      tallied = still_tallied rank O deal D b e s rs (rows_of u.new.state.orders) (book_of u.new.state) table book c.requires.stands.tallied;
    }

pub returns-else-n-gt0 : goal.returns-else-n-gt0
returns-else-n-gt0 g c =
    let rank = ranked_by g.K.Ranking.initial g.K.Ranking.good in
    let O = g.met.K.Ranking.ordered in
    let deal = g.D.Dealing.meaning in
    let D = g.met.D.Dealing.lawful in
    let b = book_of c.args.state.now in
    let e = c.args.order in
    let s = c.requires.stands.sound in
    let t = c.trade_opposite-progress in
    let rs = rows_of c.args.state.now.orders in
    let rows = (met rank deal e (arrived e b)).rows in
    let none : rows ≡ [] = none_left rows (omega (arith, t.ensures.count, c.if-n-gt0.false)) in
    let book : book_of t.new.state ≡ replenish rank (after rank O deal D b e s) = t.ensures.book ∙ nothing_renewed rank O deal D b e s none in
    let table : rows_of t.new.state.orders ≡ deducted rows rs = ap rows_of t.ensures.orders ∙ none_taken rs ∙ ap (λ ys. deducted ys rs) (sym none) in
    record {
      book = book ∙ sym (trade_rest rank O deal D b e s);
      left = t.ensures.left ∙ sym (trade_left rank O deal D b e s);
      rows = t.ensures.rows ∙ ap (written c.args.report.now 0) (sym (trade_rows rank O deal D b e s));
      count = t.ensures.count ∙ ap length (sym (trade_rows rank O deal D b e s));
      table = table ∙ ap (λ ys. deducted ys rs) (sym (trade_rows rank O deal D b e s));
      tallied = still_tallied rank O deal D b e s rs (rows_of t.new.state.orders) (book_of t.new.state) table book c.requires.stands.tallied;
    }
