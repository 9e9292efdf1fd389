-- What replenishing keeps. Assumes nothing.
use Rattle.std.proofs.Common.{◌≡◌, ℕ, zero, suc, ◌+◌, ◌-◌, ◌<◌, ◌≤◌, Bool, true, false, cond, ◌&&◌, eqb, leb, List, [], ◌∷◌, length, get_or, refl, ap, arith}
use Rattle.allocation.specs.Dealings.{sum}
use Rattle.rules.specs.declared.orders.Side.{Side}
use Rattle.rules.specs.declared.orders.Order.{Order}
use Rattle.rules.specs.declared.orders.Part.{Part}
use Rattle.rules.specs.Lists.{last_alone}
use Rattle.rules.specs.Books.{Level, Ranking, good, nothing_at, part, level, queue}
use Rattle.rules.specs.Changes.{lowered, lose, on_price}
use Rattle.rules.specs.Quantities.{pieces, of_level, of_side}
use Rattle.rules.specs.Reserve.{raised, runs_low, shows_two, join_hidden}
use Rattle.levels.specs.Heads.{count}
use Rattle.resting.specs.Replenished.{RoomToShow}

pub level_of_side : (n : ℕ) (ls : List Level) (i : ℕ) (d : Level) → i < length ls → of_level n (get_or ls i d) ≤ of_side n ls
level_of_side n [] i d lt = absurd (omega arith)
level_of_side n (l ∷ ls) zero d lt = omega arith
level_of_side n (l ∷ ls) (suc i) d lt = omega (arith, level_of_side n ls i d (omega arith))

pub length_on_price : (rank : Ranking) (s : Side) (v : ℕ) (f : Level → Level) (ls : List Level) → length (on_price rank s v f ls) ≤ length ls + 1
unfolding on_price
length_on_price rank s v f [] = omega arith
length_on_price rank s v f (l ∷ ls) = go (eqb l.price v) (good rank s v l.price) (length_on_price rank s v f ls)
  where
    go : (t u : Bool) → length (on_price rank s v f ls) ≤ length ls + 1 → length (cond t (f l ∷ ls) (cond u (f (nothing_at v) ∷ l ∷ ls) (l ∷ on_price rank s v f ls))) ≤ suc (length ls) + 1
    go true u h = omega arith
    go false true h = omega arith
    go false false h = omega arith

-- ## Parts counted

abbrev parts_in : Level → ℕ
parts_in l = length l.shown.parts + length l.hidden.parts

-- a change that adds no part to a level adds none to a side
pub count_on_price : (rank : Ranking) (s : Side) (v : ℕ) (f : Level → Level) → ((l : Level) → parts_in (f l) ≤ parts_in l) → (ls : List Level) → count (on_price rank s v f ls) ≤ count ls
unfolding on_price
count_on_price rank s v f few [] = omega (arith, few (nothing_at v))
count_on_price rank s v f few (l ∷ ls) = go (eqb l.price v) (good rank s v l.price) (count_on_price rank s v f few ls)
  where
    go : (t u : Bool) → count (on_price rank s v f ls) ≤ count ls → count (cond t (f l ∷ ls) (cond u (f (nothing_at v) ∷ l ∷ ls) (l ∷ on_price rank s v f ls))) ≤ parts_in l + count ls
    go true u h = omega (arith, few l)
    go false true h = omega (arith, few (nothing_at v))
    go false false h = omega arith

length_lowered : (ps : List Part) (xs : List ℕ) → length (lowered ps xs) ≤ length ps
length_lowered [] xs = omega arith
length_lowered (p ∷ ps) [] = omega arith
length_lowered (p ∷ ps) (x ∷ xs) = go (leb p.quantity x) (length_lowered ps xs)
  where
    go : (t : Bool) → length (lowered ps xs) ≤ length ps → length (cond t (lowered ps xs) (part p.order p.participant (p.quantity - x) p.marked ∷ lowered ps xs)) ≤ suc (length ps)
    go true h = omega arith
    go false h = omega arith

length_raised : (n m : ℕ) (ps : List Part) → length (raised n m ps) ≡ length ps
length_raised n m [] = refl
length_raised n m (p ∷ ps) = go (eqb p.order n) (length_raised n m ps)
  where
    go : (t : Bool) → length (raised n m ps) ≡ length ps → length (cond t (part p.order p.participant (p.quantity + m) p.marked ∷ ps) (p ∷ raised n m ps)) ≡ suc (length ps)
    go true h = refl
    go false h = ap suc h

pub join_few : (lot n : ℕ) (l : Level) → parts_in (join_hidden lot n l) ≤ parts_in l
unfolding join_hidden lose
join_few lot n l = go (runs_low lot n l && shows_two n l)
  where
    xs : List ℕ
    xs = last_alone (pieces n l.shown.parts)

    go : (t : Bool) → parts_in (cond t (level l.price (lose xs l.shown) (queue (raised n (sum xs) l.hidden.parts) l.hidden.wheel)) l) ≤ parts_in l
    go true = omega (arith, length_lowered l.shown.parts xs, length_raised n (sum xs) l.hidden.parts)
    go false = omega arith

-- where a side has room for a part more in any case, it has room where the order runs low
pub room_to_show : (rank : Ranking) (lot : ℕ) (e : Order) (ls : List Level) → count ls < 384 → RoomToShow rank lot e ls
room_to_show rank lot e ls room = λ low. omega (arith, room, count_on_price rank e.side e.price (join_hidden lot e.number) (join_few lot e.number) ls)
