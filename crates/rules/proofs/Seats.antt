-- Seats lost and taken keep a wheel seated. Assumes nothing.
use Rattle.std.proofs.Common.{◌≡◌, ℕ, ◌+◌, ◌<◌, ◌≤◌, min, cond, eqb, ltb, List, [], ◌∷◌, ◌++◌, refl, ap, arith}
use Rattle.std.proofs.lemmas.Bool.{eq-eqb, ne_eqb, ltb-true, ltb-false, cond_both}
use Rattle.allocation.specs.Wheels.{Wheel, retain, ensure_seat}
use Rattle.allocation.specs.Dealings.{Seated, interest}
use Rattle.allocation.specs.declared.claims.Claim.{Claim}
use Rattle.allocation.specs.Seating.{retain_seated, seated_ensure}
use Rattle.rules.specs.Books.{no_seats}
use Rattle.rules.specs.Quantities.{claim}

kept_once : (i f : ℕ) → f ≤ i → cond (ltb 0 f) (min 1 i) 0 ≡ min 1 f
kept_once i f h = cond_both (ltb 0 f) (min 1 i) 0 (λ n. n ≡ min 1 f) (λ e. omega (arith, ltb-true 0 f e)) (λ e. omega (arith, ltb-false 0 f e))

-- interests fall, and who has none left loses its seat
pub seated_settled : (lot : ℕ) (w : Wheel) (f g : ℕ → ℕ) → Seated lot w f → ((p : ℕ) → g p ≤ f p) → Seated lot (retain (λ p. ltb 0 (g p)) w) g
seated_settled lot w f g s le = retain_seated lot w f g (λ p. ltb 0 (g p)) s (λ p. kept_once (f p) (g p) (le p))

pub interest_push : (q : ℕ) (cs : List Claim) (p n : ℕ) → interest q (cs ++ (claim p n ∷ [])) ≡ interest q cs + cond (eqb q p) n 0
interest_push q [] p n = omega arith
interest_push q (c ∷ cs) p n = omega (arith, interest_push q cs p n)

-- one more claim, and its participant sits
pub seated_joined : (lot : ℕ) (w : Wheel) (cs : List Claim) (p n : ℕ) → Seated lot w (λ q. interest q cs) → 0 < n → Seated lot (ensure_seat w p) (λ q. interest q (cs ++ (claim p n ∷ [])))
seated_joined lot w cs p n s pos =
    seated_ensure lot w (λ q. interest q cs) (λ q. interest q (cs ++ (claim p n ∷ []))) p s
    (omega (arith, interest_push p cs p n, ap (λ t. cond t n 0) (eq-eqb p p refl)))
    (λ k ne. omega (arith, interest_push k cs p n, ap (λ t. cond t n 0) (ne_eqb k p ne)))

pub nobody_seated : (lot : ℕ) → 0 < lot → Seated lot no_seats (λ p. 0)
nobody_seated lot pos = record { once = λ p. refl; below = pos; empty = λ h. refl }
