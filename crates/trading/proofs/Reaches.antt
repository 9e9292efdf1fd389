-- A bound that there may be, as a test beside a number. Assumes nothing.
use Rattle.std.proofs.Common.{◌≡◌, ℕ, Bool, true, false, cond, ◌||◌, eqb, Some, None, refl}
use Rattle.std.specs.Bool.{then_some}
use Rattle.rules.specs.declared.orders.Side.{Side}
use Rattle.rules.specs.Books.{Ranking, good}
use Rattle.rules.specs.Marks.{quoted}
use Rattle.trading.specs.Reached.{within}

module _ (rank : Ranking) (s : Side) (v w : ℕ) where
  -- a limit that only some orders have
  pub within_limit : (t : Bool) → within rank s v (then_some t w) ≡ cond t (good rank s v w) true
  within_limit true = refl
  within_limit false = refl

  -- an away price of 0 is none
  pub within_quoted : within rank s v (quoted w) ≡ (eqb w 0 || good rank s v w)
  within_quoted = go (eqb w 0)
    where
      go : (z : Bool) → within rank s v (cond z None (Some w)) ≡ (z || good rank s v w)
      go true = refl
      go false = refl
