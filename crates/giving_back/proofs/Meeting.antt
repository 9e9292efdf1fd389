-- A call has done what its rule says, once its outcome is known. Assumes nothing.
use Rattle.std.proofs.Common.{◌≡◌, List, length, sym, refl, ap, ◌∙◌, Err, Result}
use Rattle.allocation.specs.Dealings.{Deal}
use Rattle.rules.specs.declared.calls.Call.{Call}
use Rattle.rules.specs.declared.answers.Refusal.{Refusal}
use Rattle.rules.specs.declared.answers.Row.{Row}
use Rattle.rules.specs.Books.{Ranking}
use Rattle.rules.specs.Entering.{Outcome}
use Rattle.rules.specs.Rules.{rule}
use Rattle.trading.specs.Written.{written}
use Rattle.trading.proofs.Writing.{written_none}
use Rattle.orders.specs.Rows.{rows_of}
use Rattle.memory.specs.declared.states.State.{State}
use Rattle.memory.specs.declared.replies.Reply.{Reply}
use Rattle.memory.specs.States.{book_of, Tallied}
use Rattle.memory.specs.Following.{Follows, replied}
use Rattle.giving_back.proofs.Ruled.{refused}

module _ (rank : Ranking) (deal : Deal) (c : Call) (before : State) (rows : List Row) where
  -- by the outcome
  pub follows : (d : Outcome) (after : State) (rows_after : List Row) (r : Result Reply Refusal) → rule rank deal (book_of before) (length rows) c ≡ d → r ≡ replied d → rows_after ≡ written rows 0 d.rows → book_of after ≡ d.book
      → Tallied (rows_of after.orders) (book_of after) → Follows rank deal c before rows after rows_after r
  follows d after rows_after r is reply report book tallied =
      record { reply = reply ∙ ap replied (sym is); report = report ∙ ap (λ x. written rows 0 x.rows) (sym is); book = book ∙ ap (λ x. x.book) (sym is); tallied = tallied }

  -- a refused call leaves all as it was
  pub follows_refused : (x : Refusal) (r : Result Reply Refusal) → rule rank deal (book_of before) (length rows) c ≡ refused x (book_of before) → r ≡ Err x → Tallied (rows_of before.orders) (book_of before) → Follows rank deal c before rows before rows r
  follows_refused x r is reply tallied = follows (refused x (book_of before)) before rows r is reply (sym (written_none rows 0)) refl tallied
