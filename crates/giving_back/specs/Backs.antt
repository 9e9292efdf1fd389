-- The rows of a close, by the table of orders. Assumes nothing.
use Rattle.std.specs.Prelude.{List, map}
use Rattle.rules.specs.declared.answers.Row.{Row}
use Rattle.rules.specs.declared.answers.Row.TheVariants.{GivenBack}
use Rattle.orders.specs.declared.tables.Resting.{Resting}

-- each order is given back all that its row says
abbrev pub backs : List Resting → List Row
backs = map (λ r. GivenBack r.order.number r.quantity)
