-- How many shares rest, of an order and at a price, and the best price of a side. Assumes nothing.
use Rattle.std.specs.Prelude.{ℕ, ◌+◌, cond, List, [], ◌∷◌, map, Some, None, Option, ◌==◌, nat_le}
use Rattle.allocation.specs.declared.claims.Claim.{Claim}
use Rattle.rules.specs.declared.orders.Part.{Part}
use Rattle.rules.specs.Lists.{sum_of}
use Rattle.rules.specs.Books.{Level, Book}

-- a part claims its quantity for its participant
abbrev pub claim : ℕ → ℕ → Claim
claim participant size = record { participant = participant; size = size }

-- the claims of parts, at their places
abbrev pub claims : List Part → List Claim
claims = map (λ p. claim p.participant p.quantity)

-- what a part counts for the order n
abbrev pub of_part : ℕ → Part → ℕ
of_part n p = cond (p.order == n) p.quantity 0

-- the sizes of one order's parts at their places, 0 in place of the others
abbrev pub pieces : ℕ → List Part → List ℕ
pieces n = map (of_part n)

-- what an order has in some parts
abbrev pub of_order : ℕ → List Part → ℕ
of_order n = sum_of (of_part n)

-- at a price
abbrev pub of_level : ℕ → Level → ℕ
of_level n l = of_order n l.shown.parts + of_order n l.hidden.parts

-- on a side
abbrev pub of_side : ℕ → List Level → ℕ
of_side n = sum_of (of_level n)

-- what rests of an order
abbrev pub resting : ℕ → Book → ℕ
resting n b = of_side n b.buys + of_side n b.sells

-- the displayed quantity at a price
abbrev pub displayed : Level → ℕ
displayed l = sum_of (λ p. p.quantity) l.shown.parts

-- the best price of a side is its best price at which the displayed quantity comes to the round lot
abbrev pub best : ℕ → List Level → Option ℕ
best lot [] = None
best lot (l ∷ ls) = cond (nat_le lot (displayed l)) (Some l.price) (best lot ls)
