-- Parts come, lose shares and go, and their wheel follows. Assumes nothing.
use Rattle.std.specs.Prelude.{ℕ, ◌-◌, cond, List, [], ◌∷◌, ◌++◌, ◌==◌, nat_le, nat_lt}
use Rattle.allocation.specs.Wheels.{Wheel, ensure_seat, retain}
use Rattle.allocation.specs.Dealings.{interest}
use Rattle.rules.specs.declared.orders.Side.{Side}
use Rattle.rules.specs.declared.orders.Part.{Part}
use Rattle.rules.specs.Books.{Queue, Level, Ranking, part, queue, level, nothing_at, good}
use Rattle.rules.specs.Quantities.{claims}

-- each part less its amount; a part at 0 is gone, and one without an amount stays
abbrev pub lowered : List Part → List ℕ → List Part
lowered [] xs = []
lowered (p ∷ ps) [] = p ∷ ps
lowered (p ∷ ps) (x ∷ xs) = cond (nat_le p.quantity x) (lowered ps xs) (part p.order p.participant (p.quantity - x) p.marked ∷ lowered ps xs)

-- who has no interest left loses its seat
abbrev pub settle : Wheel → List Part → Wheel
settle w ps = retain (λ p. nat_lt 0 (interest p (claims ps))) w

-- parts lose amounts, and participants without interest left their seats
unfoldable pub lose : List ℕ → Queue → Queue
lose xs k = let ps : List Part = lowered k.parts xs in queue ps (settle k.wheel ps)

-- a part with a new working time; its participant has a seat, or takes the last one
unfoldable pub put : Part → Queue → Queue
put p k = queue (k.parts ++ (p ∷ [])) (ensure_seat k.wheel p.participant)

-- a change at one price of a side; the level is found, or made at its place
unfoldable pub on_price : Ranking → Side → ℕ → (Level → Level) → List Level → List Level
on_price rank s v f [] = f (nothing_at v) ∷ []
on_price rank s v f (l ∷ ls) = cond (l.price == v) (f l ∷ ls) (cond (good rank s v l.price) (f (nothing_at v) ∷ l ∷ ls) (l ∷ on_price rank s v f ls))

-- a new part that is displayed
abbrev pub put_shown : Part → Level → Level
put_shown p l = level l.price (put p l.shown) l.hidden

-- a new part that is not
abbrev pub put_hidden : Part → Level → Level
put_hidden p l = level l.price l.shown (put p l.hidden)
