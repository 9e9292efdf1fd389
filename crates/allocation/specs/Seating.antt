-- Who sits, when a seat is taken, kept or lost. Assumes nothing.
use Rattle.std.specs.Prelude.{◌≡◌, ℕ, ◌<◌, min, Bool, true, false, cond, List, [], ◌∷◌, length, filter, ◌==◌, ◌≢◌, nat_lt, refl}
use Rattle.std.proofs.Common.{sym, ap, ◌∙◌, subst, ⊎_elim, arith}
use Rattle.std.proofs.lemmas.List.{length_push}
use Rattle.std.proofs.lemmas.Bool.{cases_eq, eq-eqb, ne_eqb, ltb-true, ltb-false, cond_both}
use Rattle.allocation.specs.Wheels.{Wheel, seats_of, first_stays, retain, other_than, take_last_seat, lose_seat, ensure_seat}
use Rattle.allocation.specs.Dealings.{Seated}
use Rattle.allocation.specs.Counts.{seats_append}

kept_same : (b : Bool) (k p : ℕ) (hs ps : List ℕ) → seats_of k hs ≡ cond b (seats_of k ps) 0 → seats_of k (cond b (p ∷ hs) hs) ≡ cond b (seats_of k (p ∷ ps)) 0
kept_same true k p hs ps h = omega (arith, h)
kept_same false k p hs ps h = h

kept_other : (b d : Bool) (k p : ℕ) (hs ps : List ℕ) → (k == p) ≡ false → seats_of k hs ≡ cond d (seats_of k ps) 0 → seats_of k (cond b (p ∷ hs) hs) ≡ cond d (seats_of k (p ∷ ps)) 0
kept_other true true k p hs ps n h = omega (arith, h)
kept_other true false k p hs ps n h = rw n (omega (arith, h))
kept_other false true k p hs ps n h = rw n (omega (arith, h))
kept_other false false k p hs ps n h = h

pub seats_kept : (t : ℕ → Bool) (k : ℕ) (ps : List ℕ) → seats_of k (filter t ps) ≡ cond (t k) (seats_of k ps) 0
seats_kept t k [] = cond_both (t k) 0 0 (λ n. 0 ≡ n) (λ _. refl) (λ _. refl)
seats_kept t k (p ∷ ps) =
    let ih = seats_kept t k ps in
    let P : Bool → Type 0 = λ b. seats_of k (cond b (p ∷ filter t ps) (filter t ps)) ≡ cond (t k) (seats_of k (p ∷ ps)) 0 in
    ⊎_elim
    (λ e. subst P (ap t e) (kept_same (t k) k p (filter t ps) ps ih))
    (λ n. kept_other (t p) (t k) k p (filter t ps) ps (ne_eqb k p n) ih)
    (cases_eq k p)

-- where nobody stays, used is 0
pub retain_empty : (t : ℕ → Bool) (ps : List ℕ) (u : ℕ) → filter t ps ≡ [] → cond (first_stays t ps) u 0 ≡ 0
retain_empty t [] u e = refl
retain_empty t (p ∷ ps) u e = go (t p) e
  where
    go : (b : Bool) → cond b (p ∷ filter t ps) (filter t ps) ≡ [] → cond b u 0 ≡ 0
    go true e = let z : ◌≡◌ {A = ℕ} 0 1 = cc in absurd (omega arith)
    go false e = refl

-- those who pass are those with interest
pub retain_seated : (R : ℕ) (w : Wheel) (f g : ℕ → ℕ) (t : ℕ → Bool) → Seated R w f → ((k : ℕ) → cond (t k) (min 1 (f k)) 0 ≡ min 1 (g k)) → Seated R (retain t w) g
retain_seated R w f g t s h =
    record {
      once = λ k. seats_kept t k w.seats ∙ ap (λ n. cond (t k) n 0) (s.once k) ∙ h k;
      below = cond_both (first_stays t w.seats) w.used 0 (λ n. n < R) (λ _. s.below) (λ _. omega (arith, s.below));
      empty = retain_empty t w.seats w.used;
    }

-- p's interest became positive, and no other changed
pub seated_join : (R : ℕ) (w : Wheel) (f g : ℕ → ℕ) (p : ℕ) → Seated R w f → f p ≡ 0 → 0 < g p → ((k : ℕ) → (k ≢ p) → g k ≡ f k) → Seated R (take_last_seat w p) g
seated_join R w f g p s was is others =
    record {
      once = λ k. ⊎_elim
          (λ e. omega (arith, seats_append k w.seats (p ∷ []), s.once k, bit k (λ b. cond b 1 0) e, ap f e, ap g e))
          (λ n. omega (arith, seats_append k w.seats (p ∷ []), s.once k, others k n, miss k n))
          (cases_eq k p);
      below = s.below;
      empty = λ e. absurd (omega (arith, length_push w.seats p, ap length e));
    }
  where
    bit : (k : ℕ) (h : Bool → ℕ) → k ≡ p → h (k == p) ≡ h true
    bit k h e = ap h (eq-eqb k p e)

    miss : (k : ℕ) → (k ≢ p) → ◌≡◌ {A = ℕ} (cond (k == p) 1 0) 0
    miss k n = ap (λ b. cond b 1 0) (ne_eqb k p n)

-- p's interest is gone, and no other changed
pub seated_leave : (R : ℕ) (w : Wheel) (f g : ℕ → ℕ) (p : ℕ) → Seated R w f → g p ≡ 0 → ((k : ℕ) → (k ≢ p) → g k ≡ f k) → Seated R (lose_seat w p) g
seated_leave R w f g p s gone others =
    retain_seated R w f g (other_than p) s
    (λ k. ⊎_elim
    (λ e. rw (eq-eqb p k e) (omega (arith, gone, ap g e)))
    (λ n. rw (ne_eqb p k n) (omega (arith, others k (λ e. n (sym e)))))
    (cases_eq p k))

-- whoever had interest has some, and no one else
pub seated_same : (R : ℕ) (w : Wheel) (f g : ℕ → ℕ) → Seated R w f → ((k : ℕ) → min 1 (g k) ≡ min 1 (f k)) → Seated R w g
seated_same R w f g s h = record { once = λ k. s.once k ∙ sym (h k); below = s.below; empty = s.empty }

-- p has interest now, and no other changed
pub seated_ensure : (R : ℕ) (w : Wheel) (f g : ℕ → ℕ) (p : ℕ) → Seated R w f → 0 < g p → ((k : ℕ) → (k ≢ p) → g k ≡ f k) → Seated R (ensure_seat w p) g
seated_ensure R w f g p s is others =
    cond_both (nat_lt 0 (seats_of p w.seats)) w (take_last_seat w p) (λ v. Seated R v g)
    (λ e. seated_same R w f g s
    (λ k. ⊎_elim
    (λ eq. omega (arith, ltb-true 0 (seats_of p w.seats) e, s.once p, ap f eq, ap g eq))
    (λ n. omega (arith, others k n))
    (cases_eq k p)))
    (λ e. seated_join R w f g p s (omega (arith, ltb-false 0 (seats_of p w.seats) e, s.once p)) is others)
