-- Which refusal comes first, and what a refused call leaves.
use Rattle.std.proofs.Common.{◌≡◌, ℕ, Bool, true, false, cond, eqb, leb, List, [], ◌∷◌, ◌++◌, length, Some, None, Option, sym, refl, ap, ◌∙◌, subst, Err, Result}
use Rattle.std.specs.List.{AllByRecursion}
use Rattle.allocation.specs.Dealings.{Deal}
use Rattle.rules.specs.declared.calls.Call.{Call}
use Rattle.rules.specs.declared.calls.Call.TheVariants.{Open, Halt, Resume, Close, Quote, Enter, Cancel, Reduce}
use Rattle.rules.specs.declared.orders.Order.{Order}
use Rattle.rules.specs.declared.answers.Refusal.{Refusal}
use Rattle.rules.specs.declared.answers.Row.{Row}
use Rattle.rules.specs.Books.{Ranking, Book}
use Rattle.rules.specs.Quantities.{resting}
use Rattle.rules.specs.Refusals.{first, refusals, phase_after, out_of_phase, no_place, no_opposite, none}
use Rattle.rules.specs.Rules.{rule, ruled}
use Rattle.rules.proofs.Rulings.{none_applies}
use Rattle.trading.specs.Written.{written}
use Rattle.trading.proofs.Writing.{written_none}
use Rattle.memory.specs.States.{book_of, Stands}
use Rattle.memory.specs.Following.{Follows, replied}
use Rattle.memory.specs.declared.states.State.{State}
use Rattle.memory.specs.declared.replies.Reply.{Reply}
use Rattle.calls.specs.Inputs.{inputs, entry_inputs}

-- the refusals of the book's state that come after the phase's
abbrev later : Book → Call → List (Refusal × Bool)
later b Open = []
later b Halt = []
later b Resume = []
later b Close = []
later b (Quote bid offer) = []
later b (Enter e) = (Refusal.OldNumber, leb e.number b.last) ∷ (Refusal.BookFull, no_place b e) ∷ (Refusal.NoOppositePrice, no_opposite b e) ∷ []
later b (Cancel n) = (Refusal.NoSuchOrder, eqb (resting n b) 0) ∷ []
later b (Reduce n m) = (Refusal.NoSuchOrder, eqb (resting n b) 0) ∷ (Refusal.ReductionTooLarge, leb (resting n b) m) ∷ []

-- first what the caller gave, then the phase, then the rest of the state
in_turn : (b : Book) (room : ℕ) (c : Call) → refusals b room c ≡ inputs b.lot room c ++ ((Refusal.Phase, out_of_phase b c) ∷ later b c)
unfolding refusals
in_turn b room Open = refl
in_turn b room Halt = refl
in_turn b room Resume = refl
in_turn b room Close = refl
in_turn b room (Quote bid offer) = refl
in_turn b room (Enter e) = refl
in_turn b room (Cancel n) = refl
in_turn b room (Reduce n m) = refl

-- the first of two lists, one after the other
abbrev either : Option Refusal → Option Refusal → Option Refusal
either None o = o
either (Some r) o = Some r

first_append : (xs ys : List (Refusal × Bool)) → first (xs ++ ys) ≡ either (first xs) (first ys)
first_append [] ys = refl
first_append (x ∷ xs) ys = go x.1 (first_append xs ys)
  where
    go : (t : Bool) → first (xs ++ ys) ≡ either (first xs) (first ys) → cond t (Some x.0) (first (xs ++ ys)) ≡ either (cond t (Some x.0) (first xs)) (first ys)
    go true ih = refl
    go false ih = ih

first_of : (b : Book) (room : ℕ) (c : Call) → first (refusals b room c) ≡ either (first (inputs b.lot room c)) (first ((Refusal.Phase, out_of_phase b c) ∷ later b c))
first_of b room c = ap first (in_turn b room c) ∙ first_append (inputs b.lot room c) ((Refusal.Phase, out_of_phase b c) ∷ later b c)

-- what the caller gave is refused first
pub refused_input : (b : Book) (room : ℕ) (c : Call) (r : Refusal) → first (inputs b.lot room c) ≡ Some r → first (refusals b room c) ≡ Some r
refused_input b room c r e = first_of b room c ∙ ap (λ o. either o (first ((Refusal.Phase, out_of_phase b c) ∷ later b c))) e

-- then a call that the phase does not allow
pub refused_phase : (b : Book) (room : ℕ) (c : Call) → first (inputs b.lot room c) ≡ None → phase_after b.phase c ≡ None → first (refusals b room c) ≡ Some Refusal.Phase
refused_phase b room c e p = first_of b room c ∙ ap (λ o. either o (first ((Refusal.Phase, out_of_phase b c) ∷ later b c))) e ∙ ap (λ o. first ((Refusal.Phase, none o) ∷ later b c)) p

-- a refused call leaves memory and report as they were
pub refused_follows : (rank : Ranking) (deal : Deal) (c : Call) (s : State) (rows : List Row) (r : Refusal) → Stands rank s → first (refusals (book_of s) (length rows) c) ≡ Some r → Follows rank deal c s rows s rows (Err r)
unfolding rule
refused_follows rank deal c s rows r stands e =
    let is : rule rank deal (book_of s) (length rows) c ≡ record { answer = Err r; rows = []; book = book_of s } = ap (λ o. ruled o rank deal (book_of s) c) e in
    record {
      reply = ap replied (sym is);
      report = sym (ap (λ d. written rows 0 d.rows) is ∙ written_none rows 0);
      book = sym (ap (λ d. d.book) is);
      tallied = stands.tallied;
    }

-- a call by another name
pub for_call : {rank : Ranking} {deal : Deal} {before after : State} {rows rows' : List Row} {r : Result Reply Refusal} (c d : Call) → c ≡ d → Follows rank deal d before rows after rows' r → Follows rank deal c before rows after rows' r
for_call {rank} {deal} {before} {after} {rows} {rows'} {r} c d e f = subst (λ x. Follows rank deal x before rows after rows' r) (sym e) f

-- the same reply
pub for_reply : {rank : Ranking} {deal : Deal} {c : Call} {before after : State} {rows rows' : List Row} {r q : Result Reply Refusal} → r ≡ q → Follows rank deal c before rows after rows' q → Follows rank deal c before rows after rows' r
for_reply {rank} {deal} {c} {before} {after} {rows} {rows'} {r} {q} e f = subst (λ x. Follows rank deal c before rows after rows' x) (sym e) f

-- what an order says is fine, test by test
pub entry_fine : (lot room : ℕ) (e : Order) → first (entry_inputs lot room e) ≡ None → AllByRecursion (λ x. x.1 ≡ false) (entry_inputs lot room e)
entry_fine lot room e h = none_applies (entry_inputs lot room e) h
