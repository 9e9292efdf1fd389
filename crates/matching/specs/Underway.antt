-- A book while an order arrives. Assumes nothing.
use Rattle.std.specs.Prelude.{◌≡◌, ℕ, ◌<◌, ◌≤◌, List, length}
use Rattle.std.specs.List.{AllByRecursion}
use Rattle.rules.specs.declared.orders.Side.TheVariants.{Buy, Sell}
use Rattle.rules.specs.declared.orders.Order.{Order}
use Rattle.rules.specs.Lists.{Distinct}
use Rattle.rules.specs.Books.{Ranking, Book}
use Rattle.rules.specs.Quantities.{resting}
use Rattle.rules.specs.Tables.{GoodTable}
use Rattle.rules.specs.Codes.{most_orders}
use Rattle.rules.specs.Invariants.{SoundLevel, Orderly, BestFirst, prices, numbers, Admitted}

-- Between its trades and the end of its reserve's renewal a book with the round lot and the orders of a sound one has settled
-- levels, best price first, and no more than so many on a side. Reserve may run low, and levels may be empty.
pub record Underway (rank : Ranking) (lot : ℕ) (es : List Order) (most : ℕ) (b : Book) : Type 0 where
  pub is : b.lot ≡ lot
  pub orders : b.orders ≡ es
  pub positive : 0 < lot
  pub table : GoodTable b.steps
  pub sound_buys : AllByRecursion (SoundLevel lot) b.buys
  pub sound_sells : AllByRecursion (SoundLevel lot) b.sells
  pub sorted_buys : BestFirst rank Buy (prices b.buys)
  pub sorted_sells : BestFirst rank Sell (prices b.sells)
  pub orderly_buys : AllByRecursion (Orderly es Buy) b.buys
  pub orderly_sells : AllByRecursion (Orderly es Sell) b.sells
  pub few_buys : length b.buys ≤ most
  pub few_sells : length b.sells ≤ most
  pub once : Distinct (numbers es)
  pub few : length es ≤ most_orders
  pub admitted : AllByRecursion (Admitted lot) es
  pub resting : AllByRecursion (λ e. resting e.number b ≤ e.quantity) es
