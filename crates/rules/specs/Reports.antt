-- What a call's answer and rows say of each other and of the book before it. Assumes nothing.
use Rattle.std.specs.Prelude.{◌≡◌, ℕ, ◌+◌, ◌*◌, ◌<◌, ◌≤◌, true, ◌⊎◌, [], length}
use Rattle.std.specs.List.{AllByRecursion}
use Rattle.allocation.specs.Dealings.{Deal}
use Rattle.rules.specs.declared.calls.Call.{Call}
use Rattle.rules.specs.declared.calls.Call.TheVariants.{Open, Halt, Resume, Close, Quote, Enter, Cancel, Reduce}
use Rattle.rules.specs.declared.answers.Row.{Row}
use Rattle.rules.specs.declared.answers.Row.TheVariants.{Trade, GivenBack}
use Rattle.rules.specs.Codes.{answer_number, shares_traded, shares_given_back, most_orders}
use Rattle.rules.specs.Lists.{sum_of}
use Rattle.rules.specs.Books.{Ranking, Book}
use Rattle.rules.specs.Quantities.{resting}
use Rattle.rules.specs.Entering.{Outcome}
use Rattle.rules.specs.Rules.{row_traded, row_given_back, rule}
use Rattle.rules.specs.LeadLaw.{arrives}
use Rattle.rules.specs.Invariants.{SoundBook}

-- a trade is between an order that rested and the one that arrives; what is given back is of an order that rested, or of the one that arrives
abbrev pub Names : Book → Call → Row → Type 0
Names b c (Trade s r a v q) = (0 < q) × (0 < resting r b) × (arrives c a ≡ true)
Names b c (GivenBack n q) = (0 < q) × ((0 < resting n b) ⊎ (arrives c n ≡ true))

-- how many rows a call can have
abbrev pub most_rows : Call → ℕ
most_rows Open = 0
most_rows Halt = 0
most_rows Resume = 0
most_rows Close = most_orders
most_rows (Quote bid offer) = 0
most_rows (Enter e) = 3 * most_orders + 1
most_rows (Cancel n) = 1
most_rows (Reduce n m) = 1

-- the report of one call
pub record WellReported (b : Book) (c : Call) (d : Outcome) : Type 0 where
  -- the answer's shares are the sums of the rows'
  pub traded : shares_traded d.answer ≡ sum_of row_traded d.rows
  pub given_back : shares_given_back d.answer ≡ sum_of row_given_back d.rows
  -- a refused call has no rows, and leaves the book as it was
  pub refused : 0 < answer_number d.answer → (d.book ≡ b) × (d.rows ≡ [])
  pub names : AllByRecursion (Names b c) d.rows
  -- so a report of 400 rows always suffices
  pub few : length d.rows ≤ most_rows c

-- every call of a sound book
abbrev pub ReportsWell : Ranking → Deal → Type 0
ReportsWell rank deal = (b : Book) (room : ℕ) (c : Call) → SoundBook rank b → WellReported b c (rule rank deal b room c)
