-- The setter mark, by the levels of the side alone. Assumes nothing.
use Rattle.std.specs.Prelude.{ℕ, Bool, not, ◌&&◌, List, Option, nat_le}
use Rattle.rules.specs.declared.orders.Side.{Side}
use Rattle.rules.specs.Books.{Level, Ranking}
use Rattle.rules.specs.Quantities.{best}
use Rattle.rules.specs.Marks.{beats, mark_at}

-- whether a part of n shares that is shown at v is marked, with the round lot and the side's away price, if there is one
abbrev pub earned : Ranking → Side → ℕ → ℕ → ℕ → Option ℕ → List Level → Bool
earned rank s v n lot away ls = nat_le lot n && beats rank s v (best lot ls) && beats rank s v away && not (mark_at v ls)
