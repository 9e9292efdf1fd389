use Rattle.std.proofs.Common.{◌≡◌, ℕ, ◌+◌, ◌-◌, true, false, List, [], ◌∷◌, length, set, sym, ap, ◌∙◌, subst, arith}
use Rattle.std.proofs.lemmas.List.{length-map}
use Rattle.rules.specs.declared.orders.Order.{Order}
use Rattle.rules.specs.declared.answers.Row.{Row}
use Rattle.rules.specs.declared.answers.Row.TheVariants.{GivenBack}
use Rattle.rules.specs.Books.{Ranking, Book, ranked_by}
use Rattle.rules.specs.Refusals.{rests}
use Rattle.rules.specs.Entering.{Outcome, done, not_placed, place, with_order}
use Rattle.rules.proofs.Effects.{placed_rests}
use Rattle.trading.specs.Written.{written}
use Rattle.trading.proofs.Writing.{written_none, written_more}
use Rattle.orders.specs.Rows.{rows_of}
use Rattle.orders.specs.declared.tables.Resting.{Resting}
use Rattle.memory.specs.States.{book_of, Tallied}
use Rattle.entering.specs.Remainders.{ended}
use Rattle.entering.proofs.Ending.{ended_none, ended_back, ended_placed, tallied_placed}
use Rattle.entering.proofs.stages.Traded.place.Goals as goal

pub returns-then-left-eq0 : goal.returns-then-left-eq0
returns-then-left-eq0 g c =
    let rank : Ranking = ranked_by g.K.Ranking.initial g.K.Ranking.good in
    let o = ended_none rank c.args.self.order c.args.self.left (book_of c.args.state.now) c.if-left-eq0.true in
    record {
      book = sym (ap (λ (x : Outcome). x.book) o);
      answer = sym (ap (λ (x : Outcome). x.answer) o);
      report = sym (ap (λ (x : Outcome). written c.args.report.now c.args.self.rows x.rows) o ∙ written_none c.args.report.now c.args.self.rows);
      rows = omega (arith, ap (λ (x : Outcome). length x.rows) o);
      tallied = c.requires.tallied;
    }

pub returns-then-is_given_back : goal.returns-then-is_given_back
returns-then-is_given_back g c =
    let rank : Ranking = ranked_by g.K.Ranking.initial g.K.Ranking.good in
    let e : Order = c.args.self.order in
    let n : ℕ = c.args.self.left in
    let b : Book = book_of c.args.state.now in
    let rs : List Row = c.args.report.now in
    let a : ℕ = c.args.self.rows in
    let row : Row = GivenBack e.number n in
    let o : ended rank e n b ≡ done (e.quantity - n) n (row ∷ []) b = ended_back rank e n b c.if-left-eq0.false (sym c.is_given_back.ensures ∙ c.if-is_given_back.true) in
    record {
      book = sym (ap (λ (x : Outcome). x.book) o);
      answer = sym (ap (λ (x : Outcome). x.answer) o);
      report = sym (written_none (set rs a row) (a + 1)) ∙ written_more rs a row [] c.requires.room ∙ sym (ap (λ (x : Outcome). written rs a x.rows) o);
      rows = omega (arith, ap (λ (x : Outcome). length x.rows) o);
      tallied = c.requires.tallied;
    }

pub place_order-requires : goal.place_order-requires
place_order-requires g c =
    let rank : Ranking = ranked_by g.K.Ranking.initial g.K.Ranking.good in
    let e : Order = c.args.self.order in
    let b : Book = book_of c.args.state.now in
    let k : rests e.kind ≡ true = placed_rests rank b e (sym c.is_given_back.ensures ∙ c.if-is_given_back.false) in
    record {
      rests = k;
      fits = record { known = c.requires.ready.known; small = omega (arith, c.requires.ready.small, c.requires.ready.left); parts = c.requires.ready.parts k; prices = c.requires.ready.prices k };
      table = omega (arith, c.requires.ready.table k, length-map (rows_of c.args.state.now.orders) (λ (r : Resting). r.order));
    }

pub returns : goal.returns
returns g c =
    let rank : Ranking = ranked_by g.K.Ranking.initial g.K.Ranking.good in
    let e : Order = c.args.self.order in
    let n : ℕ = c.args.self.left in
    let b : Book = book_of c.args.state.now in
    let rows : List Resting = rows_of c.args.state.now.orders in
    let np : not_placed rank b e ≡ false = sym c.is_given_back.ensures ∙ c.if-is_given_back.false in
    let o : ended rank e n b ≡ done (e.quantity - n) 0 [] (with_order e (place rank e.kind e n b)) = ended_placed rank e n b c.if-left-eq0.false np in
    record {
      book = c.place_order.ensures.book ∙ sym (ap (λ (x : Outcome). x.book) o);
      answer = sym (ap (λ (x : Outcome). x.answer) o);
      report = sym (ap (λ (x : Outcome). written c.args.report.now c.args.self.rows x.rows) o ∙ written_none c.args.report.now c.args.self.rows);
      rows = omega (arith, ap (λ (x : Outcome). length x.rows) o);
      tallied =
          subst (λ x. Tallied (rows_of c.place_order.new.state.orders) x) (sym c.place_order.ensures.book)
          (subst (λ rs. Tallied rs (with_order e (place rank e.kind e n b))) (sym c.place_order.ensures.table)
          (tallied_placed rank e n rows b (placed_rests rank b e np) c.requires.ready.absent c.requires.ready.unlisted c.requires.tallied));
    }
