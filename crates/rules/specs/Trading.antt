-- An arrival trades with the other side: prices best first, at each the steps of the table. Assumes nothing.
use Rattle.std.specs.Prelude.{ℕ, zero, suc, ◌-◌, Bool, true, false, cond, ◌&&◌, ◌||◌, List, [], ◌∷◌, ◌++◌, map, ◌==◌, nat_le}
use Rattle.allocation.specs.Wheels.{Wheel}
use Rattle.allocation.specs.ByTime.{shares_in_order}
use Rattle.allocation.specs.Dealings.{Deal, Dealt, sum}
use Rattle.rules.specs.declared.orders.Side.{Side}
use Rattle.rules.specs.declared.orders.Kind.{Kind}
use Rattle.rules.specs.declared.orders.Order.{Order}
use Rattle.rules.specs.declared.orders.Part.{Part}
use Rattle.rules.specs.declared.phases.Step.{Step}
use Rattle.rules.specs.declared.answers.Row.{Row}
use Rattle.rules.specs.declared.answers.Row.TheVariants.{Trade}
use Rattle.rules.specs.Books.{Queue, Level, Ranking, Book, queue, level, good, other, away}
use Rattle.rules.specs.Quantities.{claims, displayed}
use Rattle.rules.specs.Changes.{lowered, settle}

-- ## Reach

-- a market order has no limit
abbrev pub has_limit : Kind → Bool
has_limit Kind.Limit = true
has_limit Kind.Hidden = true
has_limit Kind.Reserve = true
has_limit Kind.Immediate = true
has_limit Kind.Market = false

-- An opposite price is in reach if it is at least as good, by its own side's order, as the arrival's limit and as that side's away price.
-- A market order has no limit, and an away price of 0 binds nobody.
unfoldable pub in_reach : Ranking → Book → Order → ℕ → Bool
in_reach rank b e v =
    let s : Side = other e.side in
    cond (has_limit e.kind) (good rank s v e.price) true && (away s b == 0 || good rank s v (away s b))

-- ## A step at a price

-- the queue that a step trades with
abbrev pub queue_of : Step → Level → Queue
queue_of Step.Setter l = l.shown
queue_of Step.Displayed l = l.shown
queue_of Step.Hidden l = l.hidden

-- the level with another queue for a step
abbrev pub with_queue : Step → Queue → Level → Level
with_queue Step.Setter k l = level l.price k l.hidden
with_queue Step.Displayed k l = level l.price k l.hidden
with_queue Step.Hidden k l = level l.price l.shown k

-- shares for the parts of a queue, and its wheel afterwards
abbrev pub dealt : List ℕ → Wheel → Dealt
dealt xs w = record { shares = xs; wheel = w }

-- the setter step is taken if the displayed quantity at the price is at least the round lot
abbrev pub taken : ℕ → Level → Bool
taken lot l = nat_le lot (displayed l)

-- if it is taken, the marked part trades as far as it can; no wheel turns, but seats can be lost
abbrev pub setter_shares : Bool → ℕ → Queue → Dealt
setter_shares false q k = dealt [] k.wheel
setter_shares true q k =
    let xs : List ℕ = shares_in_order q (map (λ p. cond p.marked p.quantity 0) k.parts) in
    dealt xs (settle k.wheel (lowered k.parts xs))

-- a dealing is asked only where there are parts
abbrev pub dealing_shares : Deal → ℕ → ℕ → Wheel → List Part → Dealt
dealing_shares deal lot q w [] = dealt [] w
dealing_shares deal lot q w (p ∷ ps) = deal q w lot (claims (p ∷ ps))

-- what a step gives the parts of its queue; nothing without quantity
unfoldable pub step_shares : Deal → ℕ → ℕ → Step → Level → Dealt
step_shares deal lot zero s l = dealt [] (queue_of s l).wheel
step_shares deal lot (suc q) Step.Setter l = setter_shares (taken lot l) (suc q) l.shown
step_shares deal lot (suc q) Step.Displayed l = dealing_shares deal lot (suc q) l.shown.wheel l.shown.parts
step_shares deal lot (suc q) Step.Hidden l = dealing_shares deal lot (suc q) l.hidden.wheel l.hidden.parts

-- a row for each part that trades, by working time
abbrev pub rows_of : Step → ℕ → ℕ → List Part → List ℕ → List Row
rows_of s arriving v [] xs = []
rows_of s arriving v (p ∷ ps) [] = []
rows_of s arriving v (p ∷ ps) (x ∷ xs) = cond (x == 0) (rows_of s arriving v ps xs) (Trade s p.order arriving v x ∷ rows_of s arriving v ps xs)

-- ## A price, and a side

-- what trading leaves: the quantity still to trade, its rows, and what it traded with
pub record Traded (X : Type 0) : Type 0 where
  pub left : ℕ
  pub rows : List Row
  pub rest : X

-- quantity left, rows, and the rest
abbrev pub traded : {X : Type 0} → ℕ → List Row → X → Traded X
traded n rs x = record { left = n; rows = rs; rest = x }

-- trading at one price: step after step
unfoldable pub trade_price : Deal → ℕ → ℕ → List Step → ℕ → Level → Traded Level
trade_price deal lot arriving [] q l = traded q [] l
trade_price deal lot arriving (s ∷ ss) q l =
    let d : Dealt = step_shares deal lot q s l in
    let k : Queue = queue_of s l in
    let r : Traded Level = trade_price deal lot arriving ss (q - sum d.shares) (with_queue s (queue (lowered k.parts d.shares) d.wheel) l) in
    traded r.left (rows_of s arriving l.price k.parts d.shares ++ r.rows) r.rest

-- only a price in reach is traded at
abbrev pub trade_reached : Deal → ℕ → ℕ → List Step → Bool → ℕ → Level → Traded Level
trade_reached deal lot arriving ss true q l = trade_price deal lot arriving ss q l
trade_reached deal lot arriving ss false q l = traded q [] l

-- trading with a side: price after price
unfoldable pub trade_side : Deal → ℕ → ℕ → List Step → (ℕ → Bool) → ℕ → List Level → Traded (List Level)
trade_side deal lot arriving ss reaches q [] = traded q [] []
trade_side deal lot arriving ss reaches q (l ∷ ls) =
    let r : Traded Level = trade_reached deal lot arriving ss (reaches l.price) q l in
    let t : Traded (List Level) = trade_side deal lot arriving ss reaches r.left ls in
    traded t.left (r.rows ++ t.rows) (r.rest ∷ t.rest)
