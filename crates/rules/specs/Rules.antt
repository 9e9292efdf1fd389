-- The rule of every call: what it answers, its rows, and the book afterwards. Assumes nothing.
use Rattle.std.specs.Prelude.{ℕ, Bool, true, false, cond, not, ◌&&◌, List, [], ◌∷◌, Some, None, Ok, Err, filter, Option, Result, nat_lt}
use Rattle.allocation.specs.Dealings.{Deal}
use Rattle.rules.specs.declared.orders.Order.{Order}
use Rattle.rules.specs.declared.phases.Phase.{Phase}
use Rattle.rules.specs.declared.phases.Step.{Step}
use Rattle.rules.specs.declared.calls.Call.{Call}
use Rattle.rules.specs.declared.calls.Call.TheVariants.{Open, Halt, Resume, Close, Quote, Enter, Cancel, Reduce}
use Rattle.rules.specs.declared.answers.Refusal.{Refusal}
use Rattle.rules.specs.declared.answers.Row.{Row}
use Rattle.rules.specs.declared.answers.Row.TheVariants.{Trade, GivenBack}
use Rattle.rules.specs.Codes.{refused}
use Rattle.rules.specs.Lists.{sum_of}
use Rattle.rules.specs.Books.{Level, Ranking, Book, with_sides, with_phase, with_quote}
use Rattle.rules.specs.Quantities.{resting}
use Rattle.rules.specs.Marks.{unmarked}
use Rattle.rules.specs.TakingOff.{take_off}
use Rattle.rules.specs.Refusals.{first, refusals, next_phase, phase_after, bad_lot}
use Rattle.rules.specs.Entering.{Outcome, done, enter}

-- ## What an accepted call does

-- a row for each order, lower number first
abbrev pub all_back : Book → List Order → List Row
all_back b [] = []
all_back b (e ∷ es) = GivenBack e.number (resting e.number b) ∷ all_back b es

-- the shares that a row trades
abbrev pub row_traded : Row → ℕ
row_traded (Trade s r a v q) = q
row_traded (GivenBack n q) = 0

-- the shares that a row gives back
abbrev pub row_given_back : Row → ℕ
row_given_back (Trade s r a v q) = 0
row_given_back (GivenBack n q) = q

-- A halt loses every mark. A close gives back every order. A cancel gives back all that rests of an order, a reduction m of it.
unfoldable pub effect : Ranking → Deal → Book → Call → Outcome
effect rank deal b Open = done 0 0 [] b
effect rank deal b Halt = done 0 0 [] (with_sides (unmarked b.buys) (unmarked b.sells) b)
effect rank deal b Resume = done 0 0 [] b
effect rank deal b Close = let rs : List Row = all_back b b.orders in done 0 (sum_of row_given_back rs) rs (with_sides [] [] b)
effect rank deal b (Quote bid offer) = done 0 0 [] (with_quote bid offer b)
effect rank deal b (Enter e) = enter rank deal e b
effect rank deal b (Cancel n) = done 0 (resting n b) (GivenBack n (resting n b) ∷ []) (take_off n (resting n b) b)
effect rank deal b (Reduce n m) = done 0 m (GivenBack n m ∷ []) (take_off n m b)

-- ## Tidying

-- whether a list is empty
abbrev pub empty : {A : Type 0} → List A → Bool
empty [] = true
empty (x ∷ xs) = false

-- a level with a part
abbrev pub holds : Level → Bool
holds l = not (empty l.shown.parts && empty l.hidden.parts)

-- no level without a part is kept, and no order that does not rest
unfoldable pub tidy : Book → Book
tidy b =
    record {
      lot = b.lot;
      steps = b.steps;
      phase = b.phase;
      last = b.last;
      bid = b.bid;
      offer = b.offer;
      orders = filter (λ e. nat_lt 0 (resting e.number b)) b.orders;
      buys = filter holds b.buys;
      sells = filter holds b.sells;
    }

-- ## The rule

-- the book in its next phase, tidied
abbrev pub settled : Phase → Outcome → Outcome
settled p d = record { answer = d.answer; rows = d.rows; book = tidy (with_phase p d.book) }

-- a refused call leaves the book as it was, and has no rows
abbrev pub ruled : Option Refusal → Ranking → Deal → Book → Call → Outcome
ruled (Some r) rank deal b c = record { answer = refused r; rows = []; book = b }
ruled None rank deal b c = settled (next_phase b.phase (phase_after b.phase c)) (effect rank deal b c)

-- every call, in every outcome, with a report of `room` rows
unfoldable pub rule : Ranking → Deal → Book → ℕ → Call → Outcome
rule rank deal b room c = ruled (first (refusals b room c)) rank deal b c

-- ## A new book

-- a new book with a table of steps of its own: without orders or quote
abbrev pub new_with : ℕ → List Step → Book
new_with lot table = record { lot = lot; steps = table; phase = Phase.New; last = 0; bid = 0; offer = 0; orders = []; buys = []; sells = [] }

-- the table of steps: the marked part first, then the displayed parts, then those that are not
abbrev pub steps : List Step
steps = Step.Setter ∷ Step.Displayed ∷ Step.Hidden ∷ []

-- a new book
abbrev pub new_book : ℕ → Book
new_book lot = new_with lot steps

-- making a book: refused for a round lot that is not 1 to 1,000
abbrev pub make : ℕ → Result Book Refusal
make lot = cond (bad_lot lot) (Err Refusal.RoundLot) (Ok (new_book lot))
