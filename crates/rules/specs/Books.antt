-- What a book holds. A queue holds its parts in the order of their working times, so a new part goes last: there is no clock.
-- Assumes nothing.
use Rattle.std.specs.Prelude.{ℕ, Bool, true, false, cond, not, List, [], ◌==◌}
use Rattle.allocation.specs.Wheels.{Wheel, wheel_with}
use Rattle.rules.specs.declared.orders.Side.{Side}
use Rattle.rules.specs.declared.orders.Side.TheVariants.{Buy, Sell}
use Rattle.rules.specs.declared.orders.Order.{Order}
use Rattle.rules.specs.declared.orders.Part.{Part}
use Rattle.rules.specs.declared.phases.Phase.{Phase}
use Rattle.rules.specs.declared.phases.Step.{Step}
use Rattle.rules.specs.Codes.{side_letter}

-- the parts of a side, price and category by working time, and their wheel
pub record Queue : Type 0 where
  pub parts : List Part
  pub wheel : Wheel

-- a price of a side, with its displayed parts and those that are not
pub record Level : Type 0 where
  pub price : ℕ
  pub shown : Queue
  pub hidden : Queue

-- which of two prices is at least as good on the side of the letter; the other side turns it round
pub record Ranking : Type 0 where
  pub letter : Side
  pub good : ℕ → ℕ → Bool

-- a book of orders
pub record Book : Type 0 where
  -- the round lot
  pub lot : ℕ
  -- the steps of trading at a price, in their order
  pub steps : List Step
  pub phase : Phase
  -- the number of the last accepted order
  pub last : ℕ
  -- the away quote; 0 means none
  pub bid : ℕ
  pub offer : ℕ
  -- the orders that rest, by rising number
  pub orders : List Order
  -- the levels of each side, best price first
  pub buys : List Level
  pub sells : List Level

-- a part of an order, with its quantity
abbrev pub part : ℕ → ℕ → ℕ → Bool → Part
part order participant quantity marked = record { order = order; participant = participant; quantity = quantity; marked = marked }

-- parts by working time, and their wheel
abbrev pub queue : List Part → Wheel → Queue
queue ps w = record { parts = ps; wheel = w }

-- a price with its two queues
abbrev pub level : ℕ → Queue → Queue → Level
level v shown hidden = record { price = v; shown = shown; hidden = hidden }

-- a wheel that nobody sits at
abbrev pub no_seats : Wheel
no_seats = wheel_with [] 0

-- a price without parts
abbrev pub nothing_at : ℕ → Level
nothing_at v = level v (queue [] no_seats) (queue [] no_seats)

-- ## Sides and prices

-- whether two sides are the same
abbrev pub same_side : Side → Side → Bool
same_side Buy Buy = true
same_side Buy Sell = false
same_side Sell Buy = false
same_side Sell Sell = true

-- the opposite side
abbrev pub other : Side → Side
other Buy = Sell
other Sell = Buy

-- the ranking with a letter, B or S, and an order of prices
abbrev pub ranked_by : ℕ → (ℕ → ℕ → Bool) → Ranking
ranked_by letter good = record { letter = cond (letter == side_letter Buy) Buy Sell; good = good }

-- on a side, a is at least as good as b
abbrev pub good : Ranking → Side → ℕ → ℕ → Bool
good rank s a b = cond (same_side s rank.letter) (rank.good a b) (rank.good b a)

-- on a side, a is better than b
abbrev pub better : Ranking → Side → ℕ → ℕ → Bool
better rank s a b = not (good rank s b a)

-- the first for buys, the second for sells
abbrev pub pick : {A : Type 0} → Side → A → A → A
pick Buy x y = x
pick Sell x y = y

-- the levels of a side
abbrev pub side : Side → Book → List Level
side s b = pick s b.buys b.sells

-- the away price of a side
abbrev pub away : Side → Book → ℕ
away s b = pick s b.bid b.offer

-- ## The book with one thing changed

-- other levels on both sides
abbrev pub with_sides : List Level → List Level → Book → Book
with_sides bs ss b = record { lot = b.lot; steps = b.steps; phase = b.phase; last = b.last; bid = b.bid; offer = b.offer; orders = b.orders; buys = bs; sells = ss }

-- other levels on one side
abbrev pub with_side : Side → List Level → Book → Book
with_side s ls b = with_sides (pick s ls b.buys) (pick s b.sells ls) b

-- another phase
abbrev pub with_phase : Phase → Book → Book
with_phase p b = record { lot = b.lot; steps = b.steps; phase = p; last = b.last; bid = b.bid; offer = b.offer; orders = b.orders; buys = b.buys; sells = b.sells }

-- another away quote
abbrev pub with_quote : ℕ → ℕ → Book → Book
with_quote bid offer b = record { lot = b.lot; steps = b.steps; phase = b.phase; last = b.last; bid = bid; offer = offer; orders = b.orders; buys = b.buys; sells = b.sells }

-- another last number
abbrev pub with_last : ℕ → Book → Book
with_last n b = record { lot = b.lot; steps = b.steps; phase = b.phase; last = n; bid = b.bid; offer = b.offer; orders = b.orders; buys = b.buys; sells = b.sells }

-- other orders
abbrev pub with_orders : List Order → Book → Book
with_orders os b = record { lot = b.lot; steps = b.steps; phase = b.phase; last = b.last; bid = b.bid; offer = b.offer; orders = os; buys = b.buys; sells = b.sells }
