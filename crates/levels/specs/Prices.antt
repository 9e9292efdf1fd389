-- Where a price stands among levels. Assumes nothing.
use Rattle.std.specs.Prelude.{ℕ, Bool, true, false, List, [], ◌∷◌, ◌==◌}
use Rattle.rules.specs.Books.{Level, Ranking, good}
use Rattle.rules.specs.declared.orders.Side.{Side}

-- whether the first level is at this price
abbrev pub first_at : ℕ → List Level → Bool
first_at v [] = false
first_at v (l ∷ ls) = l.price == v

-- whether the first level, if there is one, is no better
abbrev pub no_better : Ranking → Side → ℕ → List Level → Bool
no_better rank s v [] = true
no_better rank s v (l ∷ ls) = good rank s v l.price
