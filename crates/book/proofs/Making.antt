-- What is promised of a book that is made. Assumes nothing.
use Rattle.std.proofs.Common.{◌≡◌, ℕ, ◌<◌, Bool, true, false, cond, leb, Ok, Err, Result, sym, refl, ap, subst, arith}
use Rattle.std.proofs.lemmas.Bool.{leb-true, and_parts, not-false}
use Rattle.allocation.specs.Rankings.{TotalOrder}
use Rattle.allocation.specs.Dealings.{Deal, Lawful}
use Rattle.rules.specs.declared.answers.Refusal.{Refusal}
use Rattle.rules.specs.Books.{Ranking, Book}
use Rattle.rules.specs.Refusals.{bad_lot, within}
use Rattle.rules.specs.Rules.{make, new_book, steps}
use Rattle.rules.proofs.Whole.{laws}
use Rattle.book.specs.Promises.{Promises}
use Rattle.memory.specs.States.{book_of}
use Rattle.memory.specs.declared.states.State.{State}

abbrev book_in : Book → Result Book Refusal → Book
book_in d (Ok b) = b
book_in d (Err r) = d

pub book_made : (s : State) (lot : ℕ) → Ok (book_of s) ≡ make lot → book_of s ≡ new_book lot
book_made s lot e = go (bad_lot lot) e
  where
    go : (t : Bool) → Ok (book_of s) ≡ cond t (Err Refusal.RoundLot) (Ok (new_book lot)) → book_of s ≡ new_book lot
    go false e = ap (book_in (new_book lot)) e
    go true e = ap (book_in (new_book lot)) e

abbrev is_made : Result Book Refusal → ℕ
is_made (Ok b) = 1
is_made (Err r) = 0

lot_good : (x : Book) (lot : ℕ) → Ok x ≡ make lot → 0 < lot
lot_good x lot e = go (bad_lot lot) refl e
  where
    go : (t : Bool) → bad_lot lot ≡ t → Ok x ≡ cond t (Err Refusal.RoundLot) (Ok (new_book lot)) → 0 < lot
    go false fine e = omega (arith, leb-true 1 lot (and_parts (leb 1 lot) (leb lot 1000) (not-false (within 1 1000 lot) fine)).0)
    go true bad e = let z : ◌≡◌ {A = ℕ} 1 0 = ap is_made e in omega arith

pub promises_from : (rank : Ranking) → TotalOrder rank.good → (deal : Deal) → Lawful deal → (s : State) (lot : ℕ) → Ok (book_of s) ≡ make lot → Promises rank deal (book_of s)
promises_from rank O deal D s lot e =
    let pos = lot_good (book_of s) lot e in
    let all = laws rank O deal D in
    subst (Promises rank deal) (sym (book_made s lot e))
    (record {
      shares_add_up = λ asks. all.sum lot pos steps asks;
      better_first = λ asks. all.order lot pos steps all.table asks;
      nobody_leads_by_more_than_a_lot = λ is earlier later w p q. all.lead is lot pos steps all.table earlier later w p q;
    })
