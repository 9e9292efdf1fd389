-- The two sides in memory, and what a side that is lent leaves. Assumes nothing.
use Rattle.std.specs.Prelude.{List}
use Rattle.std.specs.Borrow.{Lends, MutBor, Fml}
use Rattle.rules.specs.declared.orders.Side.{Side}
use Rattle.rules.specs.declared.orders.Side.TheVariants.{Buy, Sell}
use Rattle.rules.specs.Books.{Level}
use Rattle.levels.specs.Sides.{levels_of}
use Rattle.levels.specs.declared.sides.Levels.{Levels}
use Rattle.levels.specs.contracts.sides.Levels.{the_row as levels_row}
use Rattle.memory.specs.declared.states.Sides.{Sides}
use Rattle.memory.specs.contracts.states.Sides.{the_row}

-- the rules' levels of a side
abbrev pub levels_on : Side → Sides → List Level
levels_on Buy s = levels_of s.buys
levels_on Sell s = levels_of s.sells

-- other levels on a side
abbrev pub with_levels : Sides → Side → Levels → Sides
with_levels s Buy w = record s { buys = w }
with_levels s Sell w = record s { sells = w }

-- the sides end with what was last in the one that was lent
abbrev pub LendsSide : MutBor Sides → Side → MutBor Levels → Fml
LendsSide s side r = Lends the_row levels_row s r (with_levels s.now side)
