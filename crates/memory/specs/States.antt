-- The book that a memory stands for. Assumes nothing.
use Rattle.std.specs.Prelude.{◌≡◌, List, Ok, Err, Result}
use Rattle.std.specs.List.{AllByRecursion}
use Rattle.rules.specs.declared.answers.Refusal.{Refusal}
use Rattle.rules.specs.Books.{Ranking, Book}
use Rattle.rules.specs.Quantities.{resting}
use Rattle.rules.specs.Invariants.{SoundBook}
use Rattle.levels.specs.Sides.{levels_of}
use Rattle.orders.specs.Rows.{rows_of, orders_of}
use Rattle.orders.specs.declared.tables.Resting.{Resting}
use Rattle.memory.specs.declared.states.State.{State}

-- the rules' book: the same numbers, the orders of the table, the levels of both sides
abbrev pub book_of : State → Book
book_of s =
    record {
      lot = s.lot;
      steps = s.steps;
      phase = s.phase;
      last = s.last;
      bid = s.bid;
      offer = s.offer;
      orders = orders_of s.orders;
      buys = levels_of s.sides.buys;
      sells = levels_of s.sides.sells;
    }

-- each row of the table tells how many shares of its order rest
abbrev pub Tallied : List Resting → Book → Type 0
Tallied rows b = AllByRecursion (λ r. r.quantity ≡ resting r.order.number b) rows

-- what is so of a memory between calls: its book is sound, and its table tells what rests
pub record Stands (rank : Ranking) (s : State) : Type 0 where
  pub sound : SoundBook rank (book_of s)
  pub tallied : Tallied (rows_of s.orders) (book_of s)

-- the rules' book in a memory that was made, or the refusal
abbrev pub made : {M : Type 0} → (M → State) → Result M Refusal → Result Book Refusal
made state (Ok m) = Ok (book_of (state m))
made state (Err r) = Err r
