-- What the table of orders stands for. Assumes nothing.
use Rattle.std.specs.Prelude.{ℕ, ◌-◌, List, map}
use Rattle.arrays.specs.Items.{items}
use Rattle.rules.specs.declared.orders.Order.{Order}
use Rattle.orders.specs.declared.tables.Resting.{Resting}
use Rattle.orders.specs.declared.tables.OrderTable.{OrderTable}

-- the rows in use
abbrev pub rows_of : OrderTable → List Resting
rows_of t = items t.rows

-- the orders at rest
abbrev pub orders_of : OrderTable → List Order
orders_of t = map (λ r. r.order) (rows_of t)

-- a row with fewer shares at rest
abbrev pub less : Resting → ℕ → Resting
less r n = record { order = r.order; quantity = r.quantity - n }
