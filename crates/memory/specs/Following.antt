-- When a call in memory has done what its rule says. Assumes nothing.
use Rattle.std.specs.Prelude.{◌≡◌, ℕ, List, length, Ok, Err, Result}
use Rattle.allocation.specs.Dealings.{Deal}
use Rattle.rules.specs.declared.calls.Call.{Call}
use Rattle.rules.specs.declared.answers.Row.{Row}
use Rattle.rules.specs.declared.answers.Refusal.{Refusal}
use Rattle.rules.specs.Codes.{Answer}
use Rattle.rules.specs.Books.{Ranking}
use Rattle.rules.specs.Entering.{Outcome}
use Rattle.rules.specs.Rules.{rule}
use Rattle.trading.specs.Written.{written}
use Rattle.orders.specs.Rows.{rows_of}
use Rattle.memory.specs.declared.states.State.{State}
use Rattle.memory.specs.declared.replies.Reply.{Reply}
use Rattle.memory.specs.States.{book_of, Tallied}

-- the reply to an answer with so many rows
abbrev pub reply_with : ℕ → Answer → Result Reply Refusal
reply_with n (Ok a) = Ok (record { accepted = a; rows = n })
reply_with n (Err r) = Err r

-- the reply to an outcome: its answer, and how many rows it has
abbrev pub replied : Outcome → Result Reply Refusal
replied d = reply_with (length d.rows) d.answer

-- reply, report and memory after a call are what the rule gives, and the table tells what rests
pub record Follows (rank : Ranking) (deal : Deal) (c : Call) (before : State) (rows : List Row) (after : State) (rows_after : List Row) (r : Result Reply Refusal) : Type 0 where
  pub reply : r ≡ replied (rule rank deal (book_of before) (length rows) c)
  -- the rows of the call stand in the front of the report; those behind are as they were
  pub report : rows_after ≡ written rows 0 (rule rank deal (book_of before) (length rows) c).rows
  pub book : book_of after ≡ (rule rank deal (book_of before) (length rows) c).book
  pub tallied : Tallied (rows_of after.orders) (book_of after)
