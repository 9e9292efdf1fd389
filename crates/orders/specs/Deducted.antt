-- What trades take off the orders at rest. Assumes nothing.
use Rattle.std.specs.Prelude.{◌≡◌, ℕ, true, cond, List, map, ◌==◌}
use Rattle.rules.specs.Lists.{sum_of, has}
use Rattle.rules.specs.declared.answers.Row.{Row}
use Rattle.rules.specs.declared.answers.Row.TheVariants.{Trade, GivenBack}
use Rattle.orders.specs.declared.tables.Resting.{Resting}
use Rattle.orders.specs.Rows.{less}

-- what a row takes from the order n: a trade takes its quantity from the order that rested
abbrev pub takes : ℕ → Row → ℕ
takes n (Trade s r a v q) = cond (r == n) q 0
takes n (GivenBack o q) = 0

-- what rows take from the order n
abbrev pub taken_from : ℕ → List Row → ℕ
taken_from n = sum_of (takes n)

-- each row of the table less what one row of a report takes from its order
abbrev pub deducted_by : Row → List Resting → List Resting
deducted_by x = map (λ r. less r (takes r.order.number x))

-- less what all rows of a report take
abbrev pub deducted : List Row → List Resting → List Resting
deducted xs = map (λ r. less r (taken_from r.order.number xs))

-- a trade's resting order is one of these
abbrev pub Named : List ℕ → Row → Type 0
Named ns (Trade s r a v q) = has r ns ≡ true
Named ns (GivenBack o q) = Unit {0}
