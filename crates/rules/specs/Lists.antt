-- Numbers along a list. Assumes nothing.
use Rattle.std.specs.Prelude.{◌≡◌, ℕ, ◌+◌, Bool, false, cond, ◌||◌, List, [], ◌∷◌, ◌==◌, nat_eq}
use Rattle.allocation.specs.Dealings.{sum}

-- the sum of f over a list
abbrev pub sum_of : {A : Type 0} → (A → ℕ) → List A → ℕ
sum_of f [] = 0
sum_of f (x ∷ xs) = f x + sum_of f xs

-- whether some member passes
abbrev pub any : {A : Type 0} → (A → Bool) → List A → Bool
any t [] = false
any t (x ∷ xs) = t x || any t xs

-- whether n is a member
abbrev pub has : ℕ → List ℕ → Bool
has n = any (λ x. nat_eq x n)

-- no number stands twice
abbrev pub Distinct : List ℕ → Type 0
Distinct [] = Unit {0}
Distinct (n ∷ ns) = (has n ns ≡ false) × Distinct ns

-- the last of the sizes that is not 0, and 0 in place of those before it
abbrev pub last_alone : List ℕ → List ℕ
last_alone [] = []
last_alone (x ∷ xs) = cond (sum xs == 0) (x ∷ xs) (0 ∷ last_alone xs)
