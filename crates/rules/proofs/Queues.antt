-- A queue stays sound, and what an order has there. Assumes nothing.
use Rattle.std.proofs.Common.{◌≡◌, ℕ, ◌+◌, ◌-◌, ◌<◌, ◌≤◌, min, Bool, true, false, cond, eqb, leb, List, [], ◌∷◌, ◌++◌, reverse, length, take, drop, refl, arith}
use mathlib.Core.List.{reverse-cons}
use Rattle.std.specs.List.{AllByRecursion}
use Rattle.std.proofs.lemmas.List.{map_push, take_at, drop_at, reverse-reverse}
use Rattle.std.proofs.ByRecursion.{All-push}
use Rattle.std.proofs.lemmas.Bool.{leb-false}
use Rattle.std.proofs.lemmas.Bool.Decides.{nat_tests}
use Rattle.allocation.specs.ByTime.{shares_in_order}
use Rattle.allocation.specs.Dealings.{sum, interest}
use Rattle.rules.specs.declared.orders.Part.{Part}
use Rattle.rules.specs.Lists.{last_alone}
use Rattle.rules.specs.Books.{part, Queue, Level}
use Rattle.rules.specs.Quantities.{pieces, of_order, claims, claim, of_level}
use Rattle.rules.specs.Changes.{lowered, lose, put}
use Rattle.rules.specs.TakingOff.{take_off_level}
use Rattle.rules.specs.Invariants.{SoundQueue, SoundLevel}
use Rattle.rules.proofs.Amounts.{AtMost, hit, lowered_of, interest_lowered, interest_lower_le}
use Rattle.rules.proofs.Seats.{seated_settled, seated_joined}
use Rattle.allocation.proofs.InOrder.{Under, in_order_under, in_order_append, length_in_order, sum_in_order}

-- ## Amounts under sizes

zero_under : (ys : List ℕ) → Under ys ys
zero_under [] = tt
zero_under (y ∷ ys) = (omega arith, zero_under ys)

pub last_under : (ys : List ℕ) → Under (last_alone ys) ys
last_under [] = tt
last_under (y ∷ ys) = go (eqb (sum ys) 0) (last_under ys)
  where
    go : (t : Bool) → Under (last_alone ys) ys → Under (cond t (y ∷ ys) (0 ∷ last_alone ys)) (y ∷ ys)
    go true h = zero_under (y ∷ ys)
    go false h = (omega arith, h)

under_push : (xs ys : List ℕ) (x y : ℕ) → Under xs ys → x ≤ y → Under (xs ++ (x ∷ [])) (ys ++ (y ∷ []))
under_push [] [] x y h l = (l, tt)
under_push [] (b ∷ ys) x y h l = absurd h
under_push (a ∷ xs) [] x y h l = absurd h
under_push (a ∷ xs) (b ∷ ys) x y h l = (h.0, under_push xs ys x y h.1 l)

under_reverse : (xs ys : List ℕ) → Under xs ys → Under (reverse xs) (reverse ys)
under_reverse [] [] h = tt
under_reverse [] (b ∷ ys) h = absurd h
under_reverse (a ∷ xs) [] h = absurd h
under_reverse (a ∷ xs) (b ∷ ys) h = rw (reverse-cons a xs, reverse-cons b ys) (under_push (reverse xs) (reverse ys) a b (under_reverse xs ys h.1) h.0)

sum_push : (xs : List ℕ) (x : ℕ) → sum (xs ++ (x ∷ [])) ≡ sum xs + x
sum_push [] x = omega arith
sum_push (a ∷ xs) x = omega (arith, sum_push xs x)

pub sum_reverse : (xs : List ℕ) → sum (reverse xs) ≡ sum xs
sum_reverse [] = refl
sum_reverse (x ∷ xs) = rw (reverse-cons x xs) (omega (arith, sum_push (reverse xs) x, sum_reverse xs))

pub sum_pieces : (n : ℕ) (ps : List Part) → sum (pieces n ps) ≡ of_order n ps
sum_pieces n [] = refl
sum_pieces n (p ∷ ps) = omega (arith, sum_pieces n ps)

pub under_at_most : (n : ℕ) (xs : List ℕ) (ps : List Part) → Under xs (pieces n ps) → AtMost xs ps
under_at_most n [] ps h = tt
under_at_most n (x ∷ xs) [] h = h
under_at_most n (x ∷ xs) (p ∷ ps) h = (let h0 = h.0 in grind (arith, nat_tests), under_at_most n xs ps h.1)

hit_under : (m n : ℕ) (xs : List ℕ) (ps : List Part) → Under xs (pieces n ps) → hit m ps xs ≡ cond (eqb n m) (sum xs) 0
hit_under m n [] [] h = grind (arith, nat_tests)
hit_under m n [] (p ∷ ps) h = absurd h
hit_under m n (x ∷ xs) [] h = absurd h
hit_under m n (x ∷ xs) (p ∷ ps) h = let ih = hit_under m n xs ps h.1 in let h0 = h.0 in grind (arith, nat_tests)

-- an order's parts lose amounts under their sizes
pub lowered_pieces : (m n : ℕ) (ps : List Part) (xs : List ℕ) → Under xs (pieces n ps) → of_order m ps ≡ of_order m (lowered ps xs) + cond (eqb n m) (sum xs) 0
lowered_pieces m n ps xs h = omega (arith, lowered_of m ps xs (under_at_most n xs ps h), hit_under m n xs ps h)

-- ## Sound queues

pub positive_lowered : (ps : List Part) (xs : List ℕ) → AllByRecursion (λ p. 0 < p.quantity) ps → AllByRecursion (λ p. 0 < p.quantity) (lowered ps xs)
positive_lowered [] xs h = tt
positive_lowered (p ∷ ps) [] h = h
positive_lowered (p ∷ ps) (x ∷ xs) h = go (leb p.quantity x) refl (positive_lowered ps xs h.1)
  where
    go : (t : Bool) → leb p.quantity x ≡ t → AllByRecursion (λ p. 0 < p.quantity) (lowered ps xs) → AllByRecursion (λ p. 0 < p.quantity) (cond t (lowered ps xs) (part p.order p.participant (p.quantity - x) p.marked ∷ lowered ps xs))
    go true e ih = ih
    go false e ih = (omega (arith, leb-false p.quantity x e), ih)

pub lose_sound : (lot : ℕ) (xs : List ℕ) (k : Queue) → SoundQueue lot k → SoundQueue lot (lose xs k)
unfolding lose
lose_sound lot xs k s =
    record {
      positive = positive_lowered k.parts xs s.positive;
      seated = seated_settled lot k.wheel (λ p. interest p (claims k.parts)) (λ p. interest p (claims (lowered k.parts xs))) s.seated
          (λ p. omega (arith, interest_lowered p k.parts xs, interest_lower_le p (claims k.parts) xs));
    }

pub put_sound : (lot : ℕ) (p : Part) (k : Queue) → SoundQueue lot k → 0 < p.quantity → SoundQueue lot (put p k)
unfolding put
put_sound lot p k s pos =
    record {
      positive = All-push (λ p. 0 < p.quantity) k.parts p s.positive pos;
      seated = rw (map_push (λ p. claim p.participant p.quantity) k.parts p) (seated_joined lot k.wheel (claims k.parts) p.participant p.quantity s.seated pos);
    }

pub of_push : (n : ℕ) (ps : List Part) (p : Part) → of_order n (ps ++ (p ∷ [])) ≡ of_order n ps + cond (eqb p.order n) p.quantity 0
of_push n [] p = omega arith
of_push n (x ∷ ps) p = omega (arith, of_push n ps p)

pub put_of : (n : ℕ) (p : Part) (k : Queue) → of_order n (put p k).parts ≡ of_order n k.parts + cond (eqb p.order n) p.quantity 0
unfolding put
put_of n p k = of_push n k.parts p

pub lose_of : (m n : ℕ) (xs : List ℕ) (k : Queue) → Under xs (pieces n k.parts) → of_order m k.parts ≡ of_order m (lose xs k).parts + cond (eqb n m) (sum xs) 0
unfolding lose
lose_of m n xs k h = lowered_pieces m n k.parts xs h

-- ## Taking off

off_hidden : (m : ℕ) (h r : List ℕ) → take (length h) (shares_in_order m (h ++ r)) ≡ shares_in_order m h
off_hidden m h r = rw (in_order_append m h r) (take_at (shares_in_order m h) (shares_in_order (m - sum h) r) (length h) (length_in_order m h))

off_shown : (m : ℕ) (h r : List ℕ) → drop (length h) (shares_in_order m (h ++ r)) ≡ shares_in_order (m - sum h) r
off_shown m h r = rw (in_order_append m h r) (drop_at (shares_in_order m h) (shares_in_order (m - sum h) r) (length h) (length_in_order m h))

pub take_off_level_good : (lot n m : ℕ) (l : Level) → SoundLevel lot l → SoundLevel lot (take_off_level n m l)
unfolding take_off_level
take_off_level_good lot n m l g = (lose_sound lot _ l.shown g.0, lose_sound lot _ l.hidden g.1)

pub take_off_hidden_of : (k n m : ℕ) (l : Level) → of_order k l.hidden.parts ≡ of_order k (take_off_level n m l).hidden.parts + cond (eqb n k) (min m (of_order n l.hidden.parts)) 0
unfolding take_off_level
take_off_hidden_of k n m l =
    let h : List ℕ = pieces n l.hidden.parts in
    let s : List ℕ = pieces n l.shown.parts in
    rw (off_hidden m h (reverse s))
    (let b = lose_of k n (shares_in_order m h) l.hidden (in_order_under m h) in
    let f = sum_in_order m h in
    let j = sum_pieces n l.hidden.parts in
    grind (arith, nat_tests))

pub take_off_shown_of : (k n m : ℕ) (l : Level) → of_order k l.shown.parts ≡ of_order k (take_off_level n m l).shown.parts + cond (eqb n k) (min (m - of_order n l.hidden.parts) (of_order n l.shown.parts)) 0
unfolding take_off_level
take_off_shown_of k n m l =
    let h : List ℕ = pieces n l.hidden.parts in
    let s : List ℕ = pieces n l.shown.parts in
    let m' : ℕ = m - sum h in
    let us : Under (reverse (shares_in_order m' (reverse s))) s = rw (reverse-reverse s) at (under_reverse (shares_in_order m' (reverse s)) (reverse s) (in_order_under m' (reverse s))) in
    rw (off_shown m h (reverse s))
    (let a = lose_of k n (reverse (shares_in_order m' (reverse s))) l.shown us in
    let c = sum_reverse (shares_in_order m' (reverse s)) in
    let d = sum_in_order m' (reverse s) in
    let e = sum_reverse s in
    let i = sum_pieces n l.shown.parts in
    let j = sum_pieces n l.hidden.parts in
    grind (arith, nat_tests))

pub take_off_level_of : (k n m : ℕ) (l : Level) → of_level k l ≡ of_level k (take_off_level n m l) + cond (eqb n k) (min m (of_level n l)) 0
take_off_level_of k n m l = let a = take_off_hidden_of k n m l in let b = take_off_shown_of k n m l in grind (arith, nat_tests)
