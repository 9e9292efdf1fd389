-- How much room a sound book needs. Assumes nothing.
use Rattle.std.specs.Prelude.{ℕ, ◌+◌, ◌*◌, ◌<◌, ◌≤◌, List, length}
use Rattle.std.specs.List.{AllByRecursion}
use Rattle.rules.specs.declared.orders.Part.{Part}
use Rattle.rules.specs.Lists.{sum_of}
use Rattle.rules.specs.Books.{Level, Ranking, Book}
use Rattle.rules.specs.Invariants.{SoundBook}
use Rattle.rules.specs.Codes.{most_orders, most_shares}

-- how many parts there are at a price
abbrev pub parts_at : Level → ℕ
parts_at l = length l.shown.parts + length l.hidden.parts

-- and on a side
abbrev pub parts_on : List Level → ℕ
parts_on = sum_of parts_at

-- the participant is one of 24, and the quantity at most 500,000
abbrev pub SmallPart : Part → Type 0
SmallPart p = ((0 < p.participant) × (p.participant < 25)) × (p.quantity ≤ most_shares)

-- so of all parts at a price
abbrev pub SmallParts : Level → Type 0
SmallParts l = AllByRecursion SmallPart l.shown.parts × AllByRecursion SmallPart l.hidden.parts

-- a book is small
pub record Small (b : Book) : Type 0 where
  -- three parts an order
  pub parts : parts_on b.buys + parts_on b.sells ≤ 3 * most_orders
  -- a price an order
  pub levels : length b.buys + length b.sells ≤ most_orders
  pub buys : AllByRecursion SmallParts b.buys
  pub sells : AllByRecursion SmallParts b.sells

-- every sound book is small
abbrev pub SoundBooksAreSmall : Ranking → Type 0
SoundBooksAreSmall rank = (b : Book) → SoundBook rank b → Small b
