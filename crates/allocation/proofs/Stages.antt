-- Turns one after another, and that enough of them end a dealing. Assumes nothing.
use Rattle.std.proofs.Common.{◌≡◌, ℕ, zero, suc, ◌+◌, ◌-◌, ◌<◌, ◌≤◌, Bool, true, false, cond, eqb, sym, refl, ap, ◌∙◌, subst, ⊎_elim, suc-add, zero-add, arith}
use Rattle.std.proofs.lemmas.Bool.{cond_both, cond-true, or_parts, cases_lt}
use Rattle.allocation.specs.Wheels.{no_seat}
use Rattle.allocation.specs.Turns.{Stage, turn, over, turns}
use Rattle.allocation.specs.Dealings.{Seated}
use Rattle.allocation.specs.Turning.{turn_seated, turn_takes, turns_end}

-- once it is over no turn changes anything
pub turns_over : (R n m : ℕ) (s : Stage) → n ≤ m → over (turns R n s) ≡ true → turns R m s ≡ turns R n s
turns_over R zero zero s h done = refl
turns_over R zero (suc m) s h done = cond-true (over s) s (turns R m (turn R s)) done
turns_over R (suc n) zero s h done = absurd (omega arith)
turns_over R (suc n) (suc m) s h done = at (over s) (turns_over R n m (turn R s) (omega arith)) done
  where
    at : (b : Bool) → (over (turns R n (turn R s)) ≡ true → turns R m (turn R s) ≡ turns R n (turn R s)) → over (cond b s (turns R n (turn R s))) ≡ true → cond b s (turns R m (turn R s)) ≡ cond b s (turns R n (turn R s))
    at true ih done = refl
    at false ih done = ih done

-- turns after turns
pub turns_add : (R n m : ℕ) (s : Stage) → turns R (n + m) s ≡ turns R m (turns R n s)
turns_add R zero m s = ap (λ k. turns R k s) (zero-add m)
turns_add R (suc n) m s = ap (λ k. turns R k s) (suc-add n m) ∙ at (over s) refl (turns_add R n m (turn R s))
  where
    at : (b : Bool) → over s ≡ b → turns R (n + m) (turn R s) ≡ turns R m (turns R n (turn R s)) → cond b s (turns R (n + m) (turn R s)) ≡ turns R m (cond b s (turns R n (turn R s)))
    at true e ih = sym (turns_over R 0 m s (omega arith) e)
    at false e ih = ih

-- one turn is a run of turns
pub turns_one : (R : ℕ) (s : Stage) → over s ≡ false → turn R s ≡ turns R 1 s
turns_one R s going = sym (ap (λ b. cond b s (turn R s)) going)

pub turns_seated : (R n : ℕ) (s : Stage) → Seated R s.wheel s.interests → Seated R (turns R n s).wheel (turns R n s).interests
turns_seated R zero s h = h
turns_seated R (suc n) s h =
    cond_both (over s) s (turns R n (turn R s)) (λ t. Seated R t.wheel t.interests)
    (λ _. h)
    (λ e. turns_seated R n (turn R s) (turn_seated R s (or_parts (eqb s.quantity 0) (no_seat s.wheel.seats) e).1 h))

-- a turn for each share is enough
turns_enough : (R n : ℕ) (s : Stage) → Seated R s.wheel s.interests → s.quantity ≤ n → over (turns R n s) ≡ true
turns_enough R n s h small = (turns_end R s.wheel.seats s.interests h.once n s (λ k. omega arith) small h).done

-- wherever a dealing has come to by turns, it ends alike from there
pub same_end : (R n : ℕ) (s t : Stage) → Seated R s.wheel s.interests → t ≡ turns R n s → turns R t.quantity t ≡ turns R s.quantity s
same_end R n s t h e =
    let there : Seated R t.wheel t.interests = subst (λ (x : Stage). Seated R x.wheel x.interests) (sym e) (turns_seated R n s h) in
    let joined : turns R t.quantity t ≡ turns R (n + t.quantity) s = ap (turns R t.quantity) e ∙ sym (turns_add R n t.quantity s) in
    let done : over (turns R (n + t.quantity) s) ≡ true = ap over (sym joined) ∙ turns_enough R t.quantity t there (omega arith) in
    let ended = turns_enough R s.quantity s h (omega arith) in
    joined ∙ ⊎_elim (λ l. sym (turns_over R (n + t.quantity) s.quantity s (omega arith) done)) (λ l. turns_over R s.quantity (n + t.quantity) s l ended) (cases_lt (n + t.quantity) s.quantity)

-- at the end nothing is left to come
pub at_end : (R : ℕ) (s : Stage) → over s ≡ true → turns R s.quantity s ≡ s
at_end R s done = turns_over R 0 s.quantity s (omega arith) done

-- a turn leaves less to deal
pub turn_less : (R : ℕ) (s t : Stage) → Seated R s.wheel s.interests → over s ≡ false → t ≡ turn R s → t.quantity < s.quantity
turn_less R s t h going e = omega (arith, turn_takes R s going h, ap (λ x. x.quantity) e)

-- what was taken is what is claimed no more
pub ended_at : (s t : Stage) (start taken : ℕ → ℕ) → s ≡ t → ((p : ℕ) → taken p + s.interests p ≡ start p) → (p : ℕ) → taken p ≡ start p - t.interests p
ended_at s t start taken e sums p = omega (arith, sums p, ap (λ x. x.interests p) e)
