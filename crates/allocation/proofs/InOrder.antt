-- Shares in order: one quantity for sizes in a row. Assumes nothing.
use Rattle.std.proofs.Common.{◌≡◌, ℕ, ◌-◌, ◌≤◌, min, List, [], ◌∷◌, ◌++◌, map, length, sym, refl, ap, ◌∙◌, arith}
use Rattle.std.specs.List.{AllByRecursion}
use Rattle.allocation.specs.ByTime.{less, time_shares, shares_in_order}
use Rattle.allocation.specs.Dealings.{sum}
use Rattle.allocation.proofs.Drawn.{one_group_same}

one_group : (ns : List ℕ) → AllByRecursion {X = ℕ × ℕ} (λ c. c.0 ≡ 0) (map (λ n. (0, n)) ns)
one_group [] = tt
one_group (n ∷ ns) = (refl, one_group ns)

-- the first takes what it can, and the others the rest
pub in_order_cons : (q n : ℕ) (ns : List ℕ) → shares_in_order q (n ∷ ns) ≡ min q n ∷ shares_in_order (q - n) ns
in_order_cons q n ns = ap (λ l. min q n ∷ l) (one_group_same (map (λ n. (0, n)) ns) (less (λ _. q) 0 n) (λ _. q - n) (one_group ns) refl)

pub sum_in_order : (q : ℕ) (ns : List ℕ) → sum (shares_in_order q ns) ≡ min q (sum ns)
sum_in_order q [] = omega arith
sum_in_order q (n ∷ ns) = omega (arith, ap sum (in_order_cons q n ns), sum_in_order (q - n) ns)

pub in_order_append : (q : ℕ) (ms ns : List ℕ) → shares_in_order q (ms ++ ns) ≡ shares_in_order q ms ++ shares_in_order (q - sum ms) ns
in_order_append q [] ns = ap (λ k. shares_in_order k ns) (omega arith)
in_order_append q (m ∷ ms) ns =
    in_order_cons q m (ms ++ ns) ∙ ap (λ l. min q m ∷ l) (in_order_append (q - m) ms ns ∙ ap (λ k. shares_in_order (q - m) ms ++ shares_in_order k ns) (omega arith)) ∙ sym (ap (λ l. l ++ shares_in_order (q - sum (m ∷ ms)) ns) (in_order_cons q m ms))

pub length_in_order : (q : ℕ) (ns : List ℕ) → length (shares_in_order q ns) ≡ length ns
length_in_order q [] = refl
length_in_order q (n ∷ ns) = omega (arith, ap length (in_order_cons q n ns), length_in_order (q - n) ns)

-- each amount is at most its size
abbrev pub Under : List ℕ → List ℕ → Type 0
Under [] [] = Unit {0}
Under [] (y ∷ ys) = ⊥
Under (x ∷ xs) [] = ⊥
Under (x ∷ xs) (y ∷ ys) = (x ≤ y) × Under xs ys

pub in_order_under : (q : ℕ) (ns : List ℕ) → Under (shares_in_order q ns) ns
in_order_under q ns = go (λ _. q) ns
  where
    go : (f : ℕ → ℕ) (ns : List ℕ) → Under (time_shares f (map (λ n. (0, n)) ns)) ns
    go f [] = tt
    go f (n ∷ ns) = (omega arith, go (less f 0 n) ns)
