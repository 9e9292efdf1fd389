-- A side stays good, and what an order has on it: taking off, a change at one price, reserve. Assumes nothing.
use Rattle.std.proofs.Common.{◌≡◌, ℕ, ◌+◌, ◌-◌, ◌<◌, min, Bool, true, false, cond, eqb, ltb, List, [], ◌∷◌, refl, arith}
use Rattle.std.specs.List.{AllByRecursion}
use Rattle.std.proofs.lemmas.Bool.{ltb-true, and_parts}
use Rattle.std.proofs.lemmas.Bool.Decides.{nat_tests}
use Rattle.allocation.specs.ByTime.{shares_in_order}
use Rattle.allocation.specs.Dealings.{interest, sum}
use Rattle.rules.specs.declared.orders.Side.{Side}
use Rattle.rules.specs.declared.orders.Order.{Order}
use Rattle.rules.specs.declared.orders.Part.{Part}
use Rattle.rules.specs.Lists.{last_alone}
use Rattle.rules.specs.Books.{good, Level, nothing_at, Ranking, part, Queue, queue}
use Rattle.rules.specs.Quantities.{of_level, of_side, claims, of_order, pieces}
use Rattle.rules.specs.Changes.{on_price}
use Rattle.rules.specs.TakingOff.{take_off_side}
use Rattle.rules.specs.Reserve.{raised, join_hidden, runs_low, shows_two, show_anew}
use Rattle.rules.specs.Invariants.{SoundLevel, SoundQueue}
use Rattle.rules.proofs.Renewed.{joined_by, anew_by}
use Rattle.rules.proofs.Seats.{nobody_seated}
use Rattle.allocation.proofs.InOrder.{in_order_under, sum_in_order}
use Rattle.rules.proofs.Queues.{last_under, sum_pieces, lose_sound, lose_of, put_sound, put_of, take_off_level_good, take_off_level_of}
use Rattle.allocation.specs.Seating.{seated_same}

pub take_off_side_good : (lot n m : ℕ) (ls : List Level) → AllByRecursion (SoundLevel lot) ls → AllByRecursion (SoundLevel lot) (take_off_side n m ls)
unfolding take_off_side
take_off_side_good lot n m [] h = tt
take_off_side_good lot n m (l ∷ ls) h = (take_off_level_good lot n m l h.0, take_off_side_good lot n (m - of_level n l) ls h.1)

pub take_off_side_of : (k n m : ℕ) (ls : List Level) → of_side k ls ≡ of_side k (take_off_side n m ls) + cond (eqb n k) (min m (of_side n ls)) 0
unfolding take_off_side
take_off_side_of k n m [] = grind (arith, nat_tests)
take_off_side_of k n m (l ∷ ls) = let a = take_off_level_of k n m l in let b = take_off_side_of k n (m - of_level n l) ls in grind (arith, nat_tests)

-- ## A change at one price

pub empty_good : (lot v : ℕ) → 0 < lot → SoundLevel lot (nothing_at v)
empty_good lot v pos = (record { positive = tt; seated = nobody_seated lot pos }, record { positive = tt; seated = nobody_seated lot pos })

pub on_price_good : (rank : Ranking) (s : Side) (lot v : ℕ) (f : Level → Level) (ls : List Level) → 0 < lot → ((l : Level) → SoundLevel lot l → SoundLevel lot (f l)) → AllByRecursion (SoundLevel lot) ls → AllByRecursion (SoundLevel lot) (on_price rank s v f ls)
unfolding on_price
on_price_good rank s lot v f [] pos step h = (step (nothing_at v) (empty_good lot v pos), tt)
on_price_good rank s lot v f (l ∷ ls) pos step h = go (eqb l.price v) (good rank s v l.price) (on_price_good rank s lot v f ls pos step h.1)
  where
    go : (t u : Bool) → AllByRecursion (SoundLevel lot) (on_price rank s v f ls) → AllByRecursion (SoundLevel lot) (cond t (f l ∷ ls) (cond u (f (nothing_at v) ∷ l ∷ ls) (l ∷ on_price rank s v f ls)))
    go true u ih = (step l h.0, h.1)
    go false true ih = (step (nothing_at v) (empty_good lot v pos), h)
    go false false ih = (h.0, ih)

-- every level gains d of the order n
pub on_price_of : (rank : Ranking) (s : Side) (n d v : ℕ) (f : Level → Level) (ls : List Level) → ((l : Level) → of_level n (f l) ≡ of_level n l + d) → of_side n (on_price rank s v f ls) ≡ of_side n ls + d
unfolding on_price
on_price_of rank s n d v f [] step = omega (arith, step (nothing_at v))
on_price_of rank s n d v f (l ∷ ls) step = go (eqb l.price v) (good rank s v l.price) (on_price_of rank s n d v f ls step)
  where
    go : (t u : Bool) → of_side n (on_price rank s v f ls) ≡ of_side n ls + d → of_side n (cond t (f l ∷ ls) (cond u (f (nothing_at v) ∷ l ∷ ls) (l ∷ on_price rank s v f ls))) ≡ of_side n (l ∷ ls) + d
    go true u ih = omega (arith, step l)
    go false true ih = omega (arith, step (nothing_at v))
    go false false ih = omega arith

-- ## Kind.Reserve

raised_positive : (n m : ℕ) (ps : List Part) → AllByRecursion (λ p. 0 < p.quantity) ps → AllByRecursion (λ p. 0 < p.quantity) (raised n m ps)
raised_positive n m [] h = tt
raised_positive n m (p ∷ ps) h = go (eqb p.order n) (raised_positive n m ps h.1)
  where
    go : (t : Bool) → AllByRecursion (λ p. 0 < p.quantity) (raised n m ps) → AllByRecursion (λ p. 0 < p.quantity) (cond t (part p.order p.participant (p.quantity + m) p.marked ∷ ps) (p ∷ raised n m ps))
    go true ih = (omega (arith, h.0), h.1)
    go false ih = (h.0, ih)

-- nobody comes or goes
pub raised_interest : (q n m : ℕ) (ps : List Part) → AllByRecursion (λ p. 0 < p.quantity) ps → min 1 (interest q (claims (raised n m ps))) ≡ min 1 (interest q (claims ps))
raised_interest q n m [] h = refl
raised_interest q n m (p ∷ ps) h = go (eqb p.order n) (eqb q p.participant) h.0 (raised_interest q n m ps h.1)
  where
    go : (t u : Bool) → 0 < p.quantity → min 1 (interest q (claims (raised n m ps))) ≡ min 1 (interest q (claims ps))
        → min 1 (interest q (claims (cond t (part p.order p.participant (p.quantity + m) p.marked ∷ ps) (p ∷ raised n m ps)))) ≡ min 1 (interest q (claims (p ∷ ps)))
    go true u some ih = grind arith
    go false u some ih = grind arith

raised_sound : (lot n m : ℕ) (k : Queue) → SoundQueue lot k → SoundQueue lot (queue (raised n m k.parts) k.wheel)
raised_sound lot n m k s =
    record {
      positive = raised_positive n m k.parts s.positive;
      seated = seated_same lot k.wheel (λ p. interest p (claims k.parts)) (λ p. interest p (claims (raised n m k.parts))) s.seated (λ p. raised_interest p n m k.parts s.positive);
    }

pub raised_of : (k n m : ℕ) (ps : List Part) → 0 < of_order n ps → of_order k (raised n m ps) ≡ of_order k ps + cond (eqb n k) m 0
raised_of k n m [] h = omega arith
raised_of k n m (p ∷ ps) h = go (eqb p.order n) refl h (raised_of k n m ps)
  where
    go : (t : Bool) → eqb p.order n ≡ t → 0 < cond t p.quantity 0 + of_order n ps → (0 < of_order n ps → of_order k (raised n m ps) ≡ of_order k ps + cond (eqb n k) m 0)
        → of_order k (cond t (part p.order p.participant (p.quantity + m) p.marked ∷ ps) (p ∷ raised n m ps)) ≡ of_order k (p ∷ ps) + cond (eqb n k) m 0
    go true e h ih = grind (arith, nat_tests)
    go false e h ih = omega (arith, ih (omega arith))

pub join_hidden_good : (lot n : ℕ) (l : Level) → SoundLevel lot l → SoundLevel lot (join_hidden lot n l)
join_hidden_good lot n l g =
    let xs : List ℕ = last_alone (pieces n l.shown.parts) in
    joined_by (SoundLevel lot) lot n l g (λ _. (lose_sound lot xs l.shown g.0, raised_sound lot n (sum xs) l.hidden g.1))

pub low_hides : (lot n : ℕ) (l : Level) → runs_low lot n l ≡ true → 0 < of_order n l.hidden.parts
low_hides lot n l e = ltb-true 0 (of_order n l.hidden.parts) (and_parts (ltb (of_order n l.shown.parts) lot) (ltb 0 (of_order n l.hidden.parts)) e).1

pub join_hidden_of : (k lot n : ℕ) (l : Level) → of_level k (join_hidden lot n l) ≡ of_level k l
join_hidden_of k lot n l =
    let xs : List ℕ = last_alone (pieces n l.shown.parts) in
    joined_by (λ m. of_level k m ≡ of_level k l) lot n l refl (λ e.
    omega (
      arith,
      lose_of k n xs l.shown (last_under (pieces n l.shown.parts)),
      raised_of k n (sum xs) l.hidden.parts (low_hides lot n l (and_parts (runs_low lot n l) (shows_two n l) e).0),
    ))

pub show_anew_good : (lot : ℕ) (e : Order) (mark : Bool) (l : Level) → 0 < e.display → SoundLevel lot l → SoundLevel lot (show_anew lot e mark l)
show_anew_good lot e mark l pos g =
    let n : ℕ = min e.display (of_order e.number l.hidden.parts) in
    anew_by (SoundLevel lot) lot e mark l (λ _. g) (λ low. (
      put_sound lot (part e.number e.participant n mark) l.shown g.0 (omega (arith, low_hides lot e.number l low)),
      lose_sound lot (shares_in_order n (pieces e.number l.hidden.parts)) l.hidden g.1,
    ))

pub show_anew_of : (k lot : ℕ) (e : Order) (mark : Bool) (l : Level) → of_level k (show_anew lot e mark l) ≡ of_level k l
show_anew_of k lot e mark l =
    let ps : List ℕ = pieces e.number l.hidden.parts in
    let n : ℕ = min e.display (of_order e.number l.hidden.parts) in
    anew_by (λ m. of_level k m ≡ of_level k l) lot e mark l (λ _. refl) (λ _.
    (let a = put_of k (part e.number e.participant n mark) l.shown in
    let b = lose_of k e.number (shares_in_order n ps) l.hidden (in_order_under n ps) in
    let c = sum_in_order n ps in
    let d = sum_pieces e.number l.hidden.parts in
    grind (arith, nat_tests)))
