-- The book of a memory whose side was lent. Assumes nothing.
use Rattle.std.proofs.Common.{◌≡◌, refl}
use Rattle.rules.specs.declared.orders.Side.{Side}
use Rattle.rules.specs.declared.orders.Side.TheVariants.{Buy, Sell}
use Rattle.rules.specs.Books.{Book, side, with_side, with_sides}
use Rattle.levels.specs.Sides.{levels_of}
use Rattle.levels.specs.declared.sides.Levels.{Levels}
use Rattle.memory.specs.declared.states.Sides.{Sides}
use Rattle.memory.specs.declared.states.State.{State}
use Rattle.memory.specs.Sides.{levels_on, with_levels}
use Rattle.memory.specs.States.{book_of}

-- the book with other sides
abbrev pub book_with : Sides → Book → Book
book_with s b = with_sides (levels_of s.buys) (levels_of s.sells) b

-- other levels on one side
pub side_lent : (s : State) (t : Side) (w : Levels) → book_with (with_levels s.sides t w) (book_of s) ≡ with_side t (levels_of w) (book_of s)
side_lent s Buy w = refl
side_lent s Sell w = refl

-- the side that is lent
pub side_is : (s : State) (t : Side) → levels_on t s.sides ≡ side t (book_of s)
side_is s Buy = refl
side_is s Sell = refl
