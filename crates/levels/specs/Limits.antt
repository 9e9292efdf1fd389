-- What every part in memory keeps. Assumes nothing.
use Rattle.std.specs.Prelude.{◌<◌, ◌≤◌, Bool, true, ◌&&◌, List, [], ◌∷◌, length, nat_le, nat_lt}
use Rattle.std.specs.List.{AllByRecursion}
use Rattle.rules.specs.declared.orders.Part.{Part}

-- a participant from the venue's 24, and no more shares than an order can have
abbrev pub WithinLimits : Part → Type 0
WithinLimits p = (p.participant < 25) × (p.quantity ≤ 500000)

-- parts that can be dealt to: all within the limits, and few enough that their sizes add up to a 32-bit number
pub record Dealable (ps : List Part) : Type 0 where
  pub limits : AllByRecursion WithinLimits ps
  pub short : length ps ≤ 384

-- all parts within the limits, as a test
abbrev pub within_limits : List Part → Bool
within_limits [] = true
within_limits (p ∷ ps) = (nat_lt p.participant 25 && nat_le p.quantity 500000) && within_limits ps
