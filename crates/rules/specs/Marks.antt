-- The setter mark. Assumes nothing.
use Rattle.std.specs.Prelude.{ℕ, Bool, true, false, cond, not, ◌&&◌, List, map, Some, None, Option, ◌==◌, nat_le}
use Rattle.rules.specs.declared.orders.Side.{Side}
use Rattle.rules.specs.Lists.{any}
use Rattle.rules.specs.Books.{Level, Ranking, Book, part, queue, level, better, side, away}
use Rattle.rules.specs.Quantities.{best}

-- better than a price that there may be: none is worse than any
abbrev pub beats : Ranking → Side → ℕ → Option ℕ → Bool
beats rank s v None = true
beats rank s v (Some w) = better rank s v w

-- an away price of 0 is none
abbrev pub quoted : ℕ → Option ℕ
quoted q = cond (q == 0) None (Some q)

-- whether a part at the price is marked
abbrev pub mark_at : ℕ → List Level → Bool
mark_at v = any (λ l. (l.price == v) && any (λ p. p.marked) l.shown.parts)

-- Whether a part of n shares that is shown at v, beside what the side has, is marked: it is at least the round lot,
-- better than the best price of its side without it and than its side's away price, and no part at that price is marked.
unfoldable pub earns_mark : Ranking → Side → ℕ → ℕ → Book → Bool
earns_mark rank s v n b = nat_le b.lot n && beats rank s v (best b.lot (side s b)) && beats rank s v (quoted (away s b)) && not (mark_at v (side s b))

-- every mark of a side is lost
abbrev pub unmarked : List Level → List Level
unmarked = map (λ l. level l.price (queue (map (λ p. part p.order p.participant p.quantity false) l.shown.parts) l.shown.wheel) l.hidden)
