-- Which prices an arriving order reaches. Assumes nothing.
use Rattle.std.specs.Prelude.{ℕ, Bool, true, ◌&&◌, Some, None, Option}
use Rattle.rules.specs.Books.{Ranking, good}
use Rattle.rules.specs.declared.orders.Side.{Side}
use Rattle.trading.specs.declared.states.Reach.{Reach}

-- a price that is at least as good as a bound that there may be: with none, every price is
abbrev pub within : Ranking → Side → ℕ → Option ℕ → Bool
within rank s v None = true
within rank s v (Some w) = good rank s v w

-- a price that is at least as good as the limit, if there is one, and as the away price, if there is one
abbrev pub reached : Ranking → Reach → ℕ → Bool
reached rank r v = within rank r.side v r.limit && within rank r.side v r.away
