-- What amounts along parts come to. Assumes nothing.
use Rattle.std.proofs.Common.{◌≡◌, ℕ, ◌+◌, ◌≤◌, Bool, cond, eqb, List, [], ◌∷◌, map, refl, arith}
use Rattle.std.proofs.lemmas.Bool.Decides.{nat_tests}
use Rattle.allocation.specs.Dealings.{interest, claims_left, Within}
use Rattle.allocation.specs.declared.claims.Claim.{Claim}
use Rattle.rules.specs.declared.orders.Part.{Part}
use Rattle.rules.specs.Quantities.{of_order, claims}
use Rattle.rules.specs.Changes.{lowered}
use Rattle.allocation.proofs.InOrder.{Under}

abbrev pub AtMost : List ℕ → List Part → Type 0
AtMost [] ps = Unit {0}
AtMost (x ∷ xs) [] = ⊥
AtMost (x ∷ xs) (p ∷ ps) = (x ≤ p.quantity) × AtMost xs ps

-- what of the amounts goes to parts of the order n
abbrev pub hit : ℕ → List Part → List ℕ → ℕ
hit n [] xs = 0
hit n (p ∷ ps) [] = 0
hit n (p ∷ ps) (x ∷ xs) = cond (eqb p.order n) x 0 + hit n ps xs

pub lowered_of : (n : ℕ) (ps : List Part) (xs : List ℕ) → AtMost xs ps → of_order n ps ≡ of_order n (lowered ps xs) + hit n ps xs
lowered_of n [] xs h = refl
lowered_of n (p ∷ ps) [] h = omega arith
lowered_of n (p ∷ ps) (x ∷ xs) h = let ih = lowered_of n ps xs h.1 in let h0 = h.0 in grind (arith, nat_tests)

pub interest_lowered : (q : ℕ) (ps : List Part) (xs : List ℕ) → interest q (claims (lowered ps xs)) ≡ interest q (claims_left (claims ps) xs)
interest_lowered q [] xs = refl
interest_lowered q (p ∷ ps) [] = refl
interest_lowered q (p ∷ ps) (x ∷ xs) = let ih = interest_lowered q ps xs in grind (arith, nat_tests)

pub interest_lower_le : (q : ℕ) (cs : List Claim) (xs : List ℕ) → interest q (claims_left cs xs) ≤ interest q cs
interest_lower_le q [] xs = omega arith
interest_lower_le q (c ∷ cs) [] = omega arith
interest_lower_le q (c ∷ cs) (x ∷ xs) = let ih = interest_lower_le q cs xs in grind (arith, nat_tests)

pub within_at_most : (xs : List ℕ) (ps : List Part) → Within xs (claims ps) → AtMost xs ps
within_at_most [] ps h = tt
within_at_most (x ∷ xs) [] h = h
within_at_most (x ∷ xs) (p ∷ ps) h = (h.0, within_at_most xs ps h.1)

-- amounts under sizes that are the parts' or 0
pub mask_at_most : (f : Part → Bool) (xs : List ℕ) (ps : List Part) → Under xs (map (λ p. cond (f p) p.quantity 0) ps) → AtMost xs ps
mask_at_most f [] ps h = tt
mask_at_most f (x ∷ xs) [] h = h
mask_at_most f (x ∷ xs) (p ∷ ps) h = (let h0 = h.0 in grind (arith, nat_tests), mask_at_most f xs ps h.1)
