-- Where an order rests. Assumes nothing.
use Rattle.std.specs.Prelude.{ℕ, ◌<◌, length}
use Rattle.std.specs.List.{AllByRecursion}
use Rattle.rules.specs.declared.orders.Order.{Order}
use Rattle.rules.specs.Books.{Book, side, other}
use Rattle.resting.specs.Alone.{Without, Alone}

-- an order rests at the level at i of its side, and nowhere else
pub record RestsAt (b : Book) (e : Order) (i : ℕ) : Type 0 where
  pub place : i < length (side e.side b)
  pub alone : Alone b.lot e.number i (side e.side b)
  pub elsewhere : AllByRecursion (Without b.lot e.number) (side (other e.side) b)
