-- By time: each claim in order takes what it can of what is allotted to its group.
-- Assumes nothing.
use Rattle.std.specs.Prelude.{ℕ, ◌-◌, min, cond, List, [], ◌∷◌, map, ◌==◌}

-- what is left to each group once n is taken from group k
abbrev pub less : (ℕ → ℕ) → ℕ → ℕ → ℕ → ℕ
less allotted k n j = cond (j == k) (allotted j - n) (allotted j)

-- a claim counts here by its group and its size
abbrev pub time_shares : (ℕ → ℕ) → List (ℕ × ℕ) → List ℕ
time_shares allotted [] = []
time_shares allotted (c ∷ cs) = min (allotted c.0) c.1 ∷ time_shares (less allotted c.0 c.1) cs

-- all in one group: one quantity for sizes in order
abbrev pub shares_in_order : ℕ → List ℕ → List ℕ
shares_in_order q sizes = time_shares (λ _. q) (map (λ n. (0, n)) sizes)
