-- A cancel, a reduction and a close in memory have done what the rules say. Assumes nothing.
use Rattle.std.proofs.Common.{◌≡◌, ℕ, ◌+◌, ◌<◌, false, List, [], ◌∷◌, ◌++◌, map, length, get_or, take, drop, set, sym, refl, ap, ◌∙◌, subst, arith, Ok, Result}
use Rattle.allocation.specs.Dealings.{Deal}
use Rattle.rules.specs.declared.calls.Call.TheVariants.{Close, Cancel, Reduce}
use Rattle.rules.specs.declared.answers.Row.{Row}
use Rattle.rules.specs.declared.answers.Row.TheVariants.{GivenBack}
use Rattle.rules.specs.declared.phases.Phase.TheVariants.{Shut}
use Rattle.rules.specs.Lists.{sum_of}
use Rattle.rules.specs.Books.{Level, Ranking, Book, side, with_sides, with_side, with_phase, with_orders}
use Rattle.rules.specs.Quantities.{resting}
use Rattle.rules.specs.TakingOff.{take_off}
use Rattle.rules.specs.Refusals.{bad_number, bad_quantity, small_report, out_of_phase}
use Rattle.rules.specs.Rules.{tidy, all_back, row_given_back}
use Rattle.trading.specs.Written.{written}
use Rattle.orders.specs.Rows.{rows_of, orders_of, less}
use Rattle.orders.specs.declared.tables.Resting.{Resting}
use Rattle.memory.specs.declared.states.State.{State}
use Rattle.rules.specs.declared.answers.Refusal.{Refusal}
use Rattle.memory.specs.declared.replies.Reply.{Reply}
use Rattle.memory.specs.States.{book_of, Tallied, Stands}
use Rattle.memory.specs.Following.{Follows}
use Rattle.giving_back.specs.Places.{RestsAt}
use Rattle.giving_back.specs.Backs.{backs}
use Rattle.giving_back.proofs.Tabled.{Known, known}
use Rattle.giving_back.proofs.OneOrder.{dropped, place_after, cancelled, cancelled_tallied, reduced, reduced_tallied}
use Rattle.giving_back.proofs.Closed.{backs_are, length_backs, shut, same_reply}
use Rattle.giving_back.proofs.Ruled.{given_back, cancel_done, reduce_done, all_given_back, close_done}
use Rattle.giving_back.proofs.Meeting.{follows}

module _ (rank : Ranking) (before : State) (stands : Stands rank before) (n k : ℕ) (r : Resting) (lt : k < length (rows_of before.orders)) (read : r ≡ get_or (rows_of before.orders) k r) (named : r.order.number ≡ n)
    (i : ℕ) (at : RestsAt (book_of before) r.order i) (d : Level) where
  abbrev book : Book
  book = book_of before

  abbrev rows : List Resting
  rows = rows_of before.orders

  row : Known book rows k r
  row = known rank book rows refl stands.sound stands.tallied k r lt read

  -- the row tells what rests
  pub row_tells : r.quantity ≡ resting n book
  row_tells = row.tells ∙ ap (λ x. resting x book) named

  pub row_some : 0 < resting n book
  row_some = subst (λ x. 0 < resting x book) named row.some

  -- the level still has its place
  pub place_kept : (m : ℕ) (b1 : Book) → b1 ≡ take_off r.order.number m book → i < length (side r.order.side b1)
  place_kept m b1 off = subst (λ x. i < length (side r.order.side x)) (sym off) (place_after rank book stands.sound rows refl stands.tallied k r lt read i at d m)

  module _ (deal : Deal) (report report_after : List Row) (after : State) (reply : Result Reply Refusal) (number : bad_number n ≡ false) (room : small_report (length report) ≡ false) where
    pub cancel_follows : out_of_phase book (Cancel n) ≡ false → (b1 b2 : Book) → b1 ≡ take_off r.order.number r.quantity book → b2 ≡ with_side r.order.side (dropped i d (side r.order.side b1)) b1
        → book_of after ≡ with_orders (orders_of after.orders) b2 → rows_of after.orders ≡ take k rows ++ drop (k + 1) rows
        → reply ≡ Ok (record { accepted = record { traded = 0; given_back = r.quantity }; rows = 1 }) → report_after ≡ written report 0 (GivenBack n r.quantity ∷ []) → Follows rank deal (Cancel n) before report after report_after reply
    cancel_follows phase b1 b2 off gone is left said wrote =
        let m : ℕ = r.quantity in
        let now' : book_of after ≡ tidy (take_off r.order.number m book) =
        is ∙ cancelled rank book stands.sound rows refl stands.tallied k r lt read i at d b1 b2 (orders_of after.orders) off gone (ap (map (λ x. x.order)) left) in
        let told : Tallied (rows_of after.orders) (book_of after) =
        subst (λ (l : List Resting). Tallied l (book_of after)) (sym left) (subst (λ (x : Book). Tallied (take k rows ++ drop (k + 1) rows) x) (sym now') (cancelled_tallied rank book stands.sound rows refl stands.tallied k r lt read i at d)) in
        follows rank deal (Cancel n) before report (given_back n m book) after report_after reply
        (cancel_done rank deal book (length report) n number room phase row_some ∙ ap (λ q. given_back n q book) (sym row_tells)) said wrote (now' ∙ ap (λ x. tidy (take_off x m book)) named) told

    pub reduce_follows : (m : ℕ) → m < r.quantity → bad_quantity m ≡ false → out_of_phase book (Reduce n m) ≡ false → (b1 : Book) → b1 ≡ take_off r.order.number m book
        → book_of after ≡ with_orders (orders_of after.orders) b1 → rows_of after.orders ≡ set rows k (less r m)
        → reply ≡ Ok (record { accepted = record { traded = 0; given_back = m }; rows = 1 }) → report_after ≡ written report 0 (GivenBack n m ∷ []) → Follows rank deal (Reduce n m) before report after report_after reply
    reduce_follows m below quantity phase b1 off is left said wrote =
        let now' : book_of after ≡ tidy (take_off r.order.number m book) =
        is ∙ reduced rank book stands.sound rows refl stands.tallied k r lt read i at d m below b1 (orders_of after.orders) off (ap (map (λ x. x.order)) left) in
        let told : Tallied (rows_of after.orders) (book_of after) =
        subst (λ (l : List Resting). Tallied l (book_of after)) (sym left) (subst (λ (x : Book). Tallied (set rows k (less r m)) x) (sym now') (reduced_tallied rank book stands.sound rows refl stands.tallied k r lt read i at d m below)) in
        follows rank deal (Reduce n m) before report (given_back n m book) after report_after reply
        (reduce_done rank deal book (length report) n m number quantity room phase (omega (arith, row_tells))) said wrote (now' ∙ ap (λ x. tidy (take_off x m book)) named) told

-- ## A close

pub close_follows : (rank : Ranking) (deal : Deal) (before : State) (stands : Stands rank before) (report report_after : List Row) (after : State) (total count : ℕ) → small_report (length report) ≡ false → out_of_phase (book_of before) Close ≡ false
    → book_of after ≡ with_phase Shut (with_orders (orders_of after.orders) (with_sides (book_of after).buys (book_of after).sells (book_of before))) → rows_of after.orders ≡ [] → (book_of after).buys ≡ [] → (book_of after).sells ≡ []
    → total ≡ sum_of row_given_back (backs (rows_of before.orders)) → count ≡ length (rows_of before.orders) → report_after ≡ written report 0 (backs (rows_of before.orders))
    → Follows rank deal Close before report after report_after (Ok (record { accepted = record { traded = 0; given_back = total }; rows = count }))
close_follows rank deal before stands report report_after after total count room phase is none buys sells sum long wrote =
    let b : Book = book_of before in
    let rows : List Resting = rows_of before.orders in
    let same : backs rows ≡ all_back b (orders_of before.orders) = backs_are b rows stands.tallied in
    follows rank deal Close before report (all_given_back b) after report_after (Ok (record { accepted = record { traded = 0; given_back = total }; rows = count })) (close_done rank deal b (length report) room phase)
    (same_reply total (sum_of row_given_back (all_back b b.orders)) count (length (all_back b b.orders)) (sum ∙ ap (sum_of row_given_back) same) (long ∙ sym (length_backs rows) ∙ ap length same))
    (wrote ∙ ap (written report 0) same)
    (is ∙ shut b (orders_of after.orders) (book_of after).buys (book_of after).sells (ap (map (λ r. r.order)) none) buys sells)
    (subst (λ (l : List Resting). Tallied l (book_of after)) (sym none) tt)
