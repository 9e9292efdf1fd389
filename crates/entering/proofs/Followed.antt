-- An enter in memory has done what its rule says. Assumes nothing.
use Rattle.std.proofs.Common.{◌≡◌, ℕ, ◌+◌, ◌≤◌, List, [], length, Some, None, Err, Result, sym, ap, ◌∙◌, subst, arith}
use Rattle.std.proofs.lemmas.List.{length-append}
use Rattle.allocation.specs.Dealings.{Deal}
use Rattle.rules.specs.declared.orders.Order.{Order}
use Rattle.rules.specs.declared.calls.Call.TheVariants.{Enter}
use Rattle.rules.specs.Codes.{Answer}
use Rattle.rules.specs.declared.answers.Refusal.{Refusal}
use Rattle.rules.specs.declared.answers.Row.{Row}
use Rattle.rules.specs.Books.{Ranking, Book}
use Rattle.rules.specs.Refusals.{first}
use Rattle.rules.specs.Trading.{Traded}
use Rattle.rules.specs.Entering.{Outcome, trade, arrived, enter}
use Rattle.rules.specs.Rules.{rule, tidy}
use Rattle.trading.specs.Written.{written}
use Rattle.trading.proofs.Writing.{written_then, written_none}
use Rattle.orders.specs.Rows.{rows_of}
use Rattle.memory.specs.declared.states.State.{State}
use Rattle.memory.specs.declared.replies.Reply.{Reply}
use Rattle.memory.specs.States.{book_of, Tallied}
use Rattle.memory.specs.Following.{Follows, reply_with, replied}
use Rattle.entering.specs.Refused.{Presentable, late_refusals}
use Rattle.entering.specs.Remainders.{ended, Ready}
use Rattle.entering.proofs.Ruled.{refused, accepted, is_open}
use Rattle.entering.proofs.Ending.{enter_answer, enter_rows, settled_book}

pub ready_at : (e f : Order) (n m : ℕ) (b c : Book) → f ≡ e → m ≡ n → c ≡ b → Ready e n b → Ready f m c
ready_at e f n m b c eo en eb r = subst (λ f. Ready f m c) (sym eo) (subst (λ m. Ready e m c) (sym en) (subst (λ c. Ready e n c) (sym eb) r))

-- what place gave, of the order that traded
pub ended_at : (rank : Ranking) (e f : Order) (n m : ℕ) (b c : Book) → f ≡ e → m ≡ n → c ≡ b → ended rank f m c ≡ ended rank e n b
ended_at rank e f n m b c eo en eb = ap (λ f. ended rank f m c) eo ∙ ap (λ m. ended rank e m c) en ∙ ap (ended rank e n) eb

module _ (rank : Ranking) (deal : Deal) (e : Order) (before after : State) (report : List Row) where
  pub refused_follows : (r : Refusal) (q : Result Reply Refusal) → q ≡ Err r → Presentable (book_of before) (length report) e → first (late_refusals (book_of before) e) ≡ Some r → Tallied (rows_of before.orders) (book_of before)
      → Follows rank deal (Enter e) before report before report q
  refused_follows r q said p h t =
      let o : rule rank deal (book_of before) (length report) (Enter e) ≡ record { answer = Err r; rows = []; book = book_of before } = refused rank deal (book_of before) (length report) e r p h in
      record {
        reply = said ∙ sym (ap replied o);
        report = sym (ap (λ (x : Outcome). written report 0 x.rows) o ∙ written_none report 0);
        book = sym (ap (λ (x : Outcome). x.book) o);
        tallied = t;
      }

  pub accepted_follows : (answer : Answer) (rows : ℕ) (middle end : List Row) (r : Result Reply Refusal) → (let b : Book = book_of before in let t : Traded Book = trade rank deal e (arrived e b) in let o : Outcome = ended rank e t.left t.rest in
      Presentable b (length report) e → first (late_refusals b e) ≡ None → length t.rows ≤ length report → middle ≡ written report 0 t.rows → end ≡ written middle (length t.rows) o.rows
      → r ≡ reply_with rows answer → answer ≡ o.answer → rows ≡ length t.rows + length o.rows → book_of after ≡ tidy o.book → Tallied (rows_of after.orders) (book_of after)
      → Follows rank deal (Enter e) before report after end r)
  accepted_follows answer rows middle end r p h room one two made same many now tallied =
      let b : Book = book_of before in
      let t : Traded Book = trade rank deal e (arrived e b) in
      let o : Outcome = ended rank e t.left t.rest in
      let x : Outcome = enter rank deal e b in
      let is = accepted rank deal b (length report) e p h in
      let count : rows ≡ length x.rows = many ∙ sym (length-append t.rows o.rows) ∙ ap length (sym (enter_rows rank deal e b)) in
      let from : length t.rows ≡ 0 + length t.rows = omega arith in
      let said : answer ≡ x.answer = same ∙ sym (enter_answer rank deal e b) in
      record {
        reply =
            made
            ∙ ap (reply_with rows) said
            ∙ ap (λ n. reply_with n x.answer) count
            ∙ sym (ap replied is);
        report =
            two
            ∙ ap (λ m. written m (length t.rows) o.rows) one
            ∙ ap (λ k. written (written report 0 t.rows) k o.rows) from
            ∙ written_then report 0 t.rows o.rows (omega (arith, room))
            ∙ ap (written report 0) (sym (enter_rows rank deal e b))
            ∙ sym (ap (λ (y : Outcome). written report 0 y.rows) is);
        book = now ∙ sym (settled_book rank deal e b (is_open b (length report) e p)) ∙ sym (ap (λ (y : Outcome). y.book) is);
        tallied = tallied;
      }
