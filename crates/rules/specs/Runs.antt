-- Runs of calls, and what their rows count as. Assumes nothing.
use Rattle.std.specs.Prelude.{◌≡◌, ℕ, cond, ◌||◌, List, [], ◌∷◌, ◌==◌}
use Rattle.allocation.specs.Dealings.{Deal}
use Rattle.rules.specs.declared.orders.Order.{Order}
use Rattle.rules.specs.declared.calls.Call.{Call}
use Rattle.rules.specs.declared.calls.Call.TheVariants.{Enter}
use Rattle.rules.specs.declared.answers.Row.{Row}
use Rattle.rules.specs.declared.answers.Row.TheVariants.{Trade, GivenBack}
use Rattle.rules.specs.Codes.{answer_number}
use Rattle.rules.specs.Lists.{sum_of}
use Rattle.rules.specs.Books.{Ranking, Book}
use Rattle.rules.specs.Entering.{Outcome}
use Rattle.rules.specs.Rules.{rule}

-- a call, with the rows that its report has room for
abbrev pub Ask : Type 0
Ask = ℕ × Call

-- one call of a run: the book before it, the call, and what came of it
pub record Event : Type 0 where
  pub before : Book
  pub ask : Ask
  pub did : Outcome

-- the calls of a run, one after the other
abbrev pub run : Ranking → Deal → Book → List Ask → List Event
run rank deal b [] = []
run rank deal b (c ∷ cs) = let d : Outcome = rule rank deal b c.0 c.1 in record { before = b; ask = c; did = d } ∷ run rank deal d.book cs

-- the book after a run
abbrev pub final : Book → List Event → Book
final b [] = b
final b (e ∷ es) = final e.did.book es

-- the call enters the order, and is accepted
abbrev pub Entered : Event → Order → Type 0
Entered v e = (v.ask.1 ≡ Enter e) × (answer_number v.did.answer ≡ 0)

-- a trade counts for the order that rested and for the one that arrived
abbrev pub traded_in : ℕ → Row → ℕ
traded_in n (Trade s r a v q) = cond (r == n || a == n) q 0
traded_in n (GivenBack o q) = 0

-- what is given back counts for its order
abbrev pub given_back_in : ℕ → Row → ℕ
given_back_in n (Trade s r a v q) = 0
given_back_in n (GivenBack o q) = cond (o == n) q 0

-- what an order traded in a run
abbrev pub traded_by : ℕ → List Event → ℕ
traded_by n = sum_of (λ v. sum_of (traded_in n) v.did.rows)

-- what it was given back
abbrev pub given_back_to : ℕ → List Event → ℕ
given_back_to n = sum_of (λ v. sum_of (given_back_in n) v.did.rows)
