-- What a ranking of prices is. Assumes nothing.
use Rattle.std.specs.Prelude.{◌≡◌, ℕ, Bool, true, ◌⊎◌, nat_le}

-- A total order, by the test that the first price is at least as good as the second:
-- prices as good as each other are the same, any two compare, and it passes along a chain.
pub record TotalOrder (good : ℕ → ℕ → Bool) : Type 0 where
  pub same : (a b : ℕ) → good a b ≡ true → good b a ≡ true → a ≡ b
  pub either : (a b : ℕ) → (good a b ≡ true) ⊎ (good b a ≡ true)
  pub along : (a b c : ℕ) → good a b ≡ true → good b c ≡ true → good a c ≡ true

-- turned round, for the opposite side, it is a total order too
abbrev pub TurnedRoundItRanksToo : Type 0
TurnedRoundItRanksToo = (good : ℕ → ℕ → Bool) → TotalOrder good → TotalOrder (λ a b. good b a)

-- buyers: the higher price is at least as good
abbrev pub higher_is_better : ℕ → ℕ → Bool
higher_is_better a b = nat_le b a

-- sellers: the lower price is at least as good
abbrev pub lower_is_better : ℕ → ℕ → Bool
lower_is_better a b = nat_le a b

-- the letters of the two, B and S
abbrev pub buyers_letter : ℕ
buyers_letter = 66

abbrev pub sellers_letter : ℕ
sellers_letter = 83
