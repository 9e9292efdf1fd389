-- What the place of the first item with a number says. Assumes nothing.
use Rattle.std.proofs.Common.{◌≡◌, ℕ, zero, suc, ◌<◌, ◌≤◌, false, eqb, None, Some, List, [], ◌∷◌, length, get_or, take, take_all, arith}
use Rattle.std.specs.List.{AllByRecursion, position, position_or_len}
use Rattle.std.proofs.lemmas.Bool.{eqb-false, eqb-true}
use Rattle.std.proofs.lemmas.List.Quantifiers.{position-Some}
use Rattle.std.proofs.lemmas.List.Sums.{fails_before_first}

module _ {X : Type 0} (number : X → ℕ) (n : ℕ) where
  -- the first item with the number n stands at i
  pub record FirstAt (xs : List X) (i : ℕ) : Type 0 where
    pub within : i < length xs
    pub found : (d : X) → number (get_or xs i d) ≡ n
    pub others : AllByRecursion (λ x. (number x ≡ n → ⊥)) (take i xs)

  differs : (xs : List X) (i : ℕ) → i ≤ length xs → ((k : ℕ) (d : X) → k < i → eqb (number (get_or xs k d)) n ≡ false) → AllByRecursion (λ x. (number x ≡ n → ⊥)) (take i xs)
  differs xs zero le h = tt
  differs [] (suc i) le h = tt
  differs (x ∷ xs) (suc i) le h = (eqb-false (number x) n (h 0 x (omega arith)), differs xs i (omega arith) (λ k d lt. h (suc k) d (omega arith)))

  pub first_at : (xs : List X) (i : ℕ) → position (λ x. eqb (number x) n) xs ≡ Some i → FirstAt xs i
  first_at [] i e = absurd (grind (arith, e))
  first_at (x ∷ xs) i e =
      let h = position-Some (λ x. eqb (number x) n) (x ∷ xs) i x e in
      record {
        within = h.0;
        found = λ d. eqb-true (number (get_or (x ∷ xs) i d)) n (position-Some (λ x. eqb (number x) n) (x ∷ xs) i d e).1;
        others = differs (x ∷ xs) i (omega (arith, h.0)) (λ k d lt. (position-Some (λ x. eqb (number x) n) (x ∷ xs) i d e).2 k lt);
      }

  pub nowhere : (xs : List X) → position (λ x. eqb (number x) n) xs ≡ None → AllByRecursion (λ x. (number x ≡ n → ⊥)) xs
  nowhere xs e =
      let le : length xs ≤ position_or_len (λ x. eqb (number x) n) xs = grind (arith, e) in
      rw (take_all (length xs) xs (omega arith)) at (differs xs (length xs) (omega arith) (λ k d lt. fails_before_first (λ x. eqb (number x) n) xs k d (omega (arith, le, lt))))
