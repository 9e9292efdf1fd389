-- The rules of a cancel, a reduction and a close, where the caller's part is fine. Assumes nothing.
use Rattle.std.proofs.Common.{◌≡◌, ℕ, ◌<◌, ◌≤◌, false, cond, eqb, leb, [], ◌∷◌, Some, None, sym, refl, ap, ◌∙◌, arith, Err}
use mathlib.Core.Bool.{false≢true}
use Rattle.std.proofs.lemmas.Bool.{eq-eqb, ne_eqb, le-leb, lt-leb}
use Rattle.allocation.specs.Dealings.{Deal}
use Rattle.rules.specs.declared.phases.Phase.{Phase}
use Rattle.rules.specs.declared.calls.Call.TheVariants.{Close, Cancel, Reduce}
use Rattle.rules.specs.Codes.{accepted}
use Rattle.rules.specs.declared.answers.Refusal.{Refusal}
use Rattle.rules.specs.declared.answers.Row.TheVariants.{GivenBack}
use Rattle.rules.specs.Lists.{sum_of}
use Rattle.rules.specs.Books.{Ranking, Book, with_sides, with_phase}
use Rattle.rules.specs.Quantities.{resting}
use Rattle.rules.specs.TakingOff.{take_off}
use Rattle.rules.specs.Refusals.{first, refusals, none, phase_after, next_phase, out_of_phase, bad_number, bad_quantity, small_report}
use Rattle.rules.specs.Entering.{Outcome}
use Rattle.rules.specs.Rules.{tidy, effect, ruled, rule, all_back, row_given_back}

-- a refused call
abbrev pub refused : Refusal → Book → Outcome
refused x b = record { answer = Err x; rows = []; book = b }

-- m shares of the order n are given back
abbrev pub given_back : ℕ → ℕ → Book → Outcome
given_back n m b = record { answer = accepted 0 m; rows = GivenBack n m ∷ []; book = tidy (take_off n m b) }

-- ## Phases

cancel_phase : (p : Phase) (n : ℕ) → none (phase_after p (Cancel n)) ≡ false → next_phase p (phase_after p (Cancel n)) ≡ p
cancel_phase Phase.New n h = absurd (false≢true (sym h))
cancel_phase Phase.Open n h = refl
cancel_phase Phase.Halted n h = refl
cancel_phase Phase.Shut n h = absurd (false≢true (sym h))

reduce_phase : (p : Phase) (n m : ℕ) → none (phase_after p (Reduce n m)) ≡ false → next_phase p (phase_after p (Reduce n m)) ≡ p
reduce_phase Phase.New n m h = absurd (false≢true (sym h))
reduce_phase Phase.Open n m h = refl
reduce_phase Phase.Halted n m h = refl
reduce_phase Phase.Shut n m h = absurd (false≢true (sym h))

close_phase : (p : Phase) → none (phase_after p Close) ≡ false → next_phase p (phase_after p Close) ≡ Phase.Shut
close_phase Phase.New h = absurd (false≢true (sym h))
close_phase Phase.Open h = refl
close_phase Phase.Halted h = refl
close_phase Phase.Shut h = absurd (false≢true (sym h))

same_phase : (n m : ℕ) (b : Book) → with_phase b.phase (take_off n m b) ≡ take_off n m b
unfolding take_off
same_phase n m b = refl

-- ## A cancel

module _ (rank : Ranking) (deal : Deal) (b : Book) (room n : ℕ) (number : bad_number n ≡ false) (report : small_report room ≡ false) (phase : out_of_phase b (Cancel n) ≡ false) where
  cancel_first : first (refusals b room (Cancel n)) ≡ cond (eqb (resting n b) 0) (Some Refusal.NoSuchOrder) None
  unfolding refusals
  cancel_first = rw (number, report, phase)

  pub cancel_refused : resting n b ≡ 0 → rule rank deal b room (Cancel n) ≡ refused Refusal.NoSuchOrder b
  unfolding rule
  cancel_refused gone = ap (λ x. ruled x rank deal b (Cancel n)) (cancel_first ∙ ap (λ t. cond t (Some Refusal.NoSuchOrder) None) (eq-eqb (resting n b) 0 gone))

  pub cancel_done : 0 < resting n b → rule rank deal b room (Cancel n) ≡ given_back n (resting n b) b
  unfolding rule effect
  cancel_done some =
      ap (λ x. ruled x rank deal b (Cancel n)) (cancel_first ∙ ap (λ t. cond t (Some Refusal.NoSuchOrder) None) (ne_eqb (resting n b) 0 (λ e. omega arith)))
      ∙ ap {B = Outcome} (λ p. record { answer = accepted 0 (resting n b); rows = GivenBack n (resting n b) ∷ []; book = tidy (with_phase p (take_off n (resting n b) b)) }) (cancel_phase b.phase n phase)
      ∙ ap {B = Outcome} (λ c. record { answer = accepted 0 (resting n b); rows = GivenBack n (resting n b) ∷ []; book = tidy c }) (same_phase n (resting n b) b)

-- ## A reduction

module _ (rank : Ranking) (deal : Deal) (b : Book) (room n m : ℕ) (number : bad_number n ≡ false) (quantity : bad_quantity m ≡ false) (report : small_report room ≡ false) (phase : out_of_phase b (Reduce n m) ≡ false) where
  reduce_first : first (refusals b room (Reduce n m)) ≡ cond (eqb (resting n b) 0) (Some Refusal.NoSuchOrder) (cond (leb (resting n b) m) (Some Refusal.ReductionTooLarge) None)
  unfolding refusals
  reduce_first = rw (number, quantity, report, phase)

  pub reduce_unknown : resting n b ≡ 0 → rule rank deal b room (Reduce n m) ≡ refused Refusal.NoSuchOrder b
  unfolding rule
  reduce_unknown gone = ap (λ x. ruled x rank deal b (Reduce n m)) (reduce_first ∙ ap (λ t. cond t (Some Refusal.NoSuchOrder) (cond (leb (resting n b) m) (Some Refusal.ReductionTooLarge) None)) (eq-eqb (resting n b) 0 gone))

  reduce_some : 0 < resting n b → first (refusals b room (Reduce n m)) ≡ cond (leb (resting n b) m) (Some Refusal.ReductionTooLarge) None
  reduce_some some = reduce_first ∙ ap (λ t. cond t (Some Refusal.NoSuchOrder) (cond (leb (resting n b) m) (Some Refusal.ReductionTooLarge) None)) (ne_eqb (resting n b) 0 (λ e. omega arith))

  pub reduce_too_large : 0 < resting n b → resting n b ≤ m → rule rank deal b room (Reduce n m) ≡ refused Refusal.ReductionTooLarge b
  unfolding rule
  reduce_too_large some le = ap (λ x. ruled x rank deal b (Reduce n m)) (reduce_some some ∙ ap (λ t. cond t (Some Refusal.ReductionTooLarge) None) (le-leb (resting n b) m le))

  pub reduce_done : m < resting n b → rule rank deal b room (Reduce n m) ≡ given_back n m b
  unfolding rule effect
  reduce_done lt =
      ap (λ x. ruled x rank deal b (Reduce n m)) (reduce_some (omega arith) ∙ ap (λ t. cond t (Some Refusal.ReductionTooLarge) None) (lt-leb (resting n b) m lt))
      ∙ ap {B = Outcome} (λ p. record { answer = accepted 0 m; rows = GivenBack n m ∷ []; book = tidy (with_phase p (take_off n m b)) }) (reduce_phase b.phase n m phase)
      ∙ ap {B = Outcome} (λ c. record { answer = accepted 0 m; rows = GivenBack n m ∷ []; book = tidy c }) (same_phase n m b)

-- ## A close

-- every order is given back
abbrev pub all_given_back : Book → Outcome
all_given_back b = record { answer = accepted 0 (sum_of row_given_back (all_back b b.orders)); rows = all_back b b.orders; book = tidy (with_phase Phase.Shut (with_sides [] [] b)) }

close_first : (b : Book) (room : ℕ) → small_report room ≡ false → out_of_phase b Close ≡ false → first (refusals b room Close) ≡ None
unfolding refusals
close_first b room report phase = rw (report, phase)

pub close_done : (rank : Ranking) (deal : Deal) (b : Book) (room : ℕ) → small_report room ≡ false → out_of_phase b Close ≡ false → rule rank deal b room Close ≡ all_given_back b
unfolding rule effect
close_done rank deal b room report phase =
    ap (λ x. ruled x rank deal b Close) (close_first b room report phase)
    ∙ ap {B = Outcome} (λ p. record { answer = accepted 0 (sum_of row_given_back (all_back b b.orders)); rows = all_back b b.orders; book = tidy (with_phase p (with_sides [] [] b)) }) (close_phase b.phase phase)
