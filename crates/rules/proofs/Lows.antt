-- When an order runs low at a price, and when it does not. Assumes nothing.
use Rattle.std.proofs.Common.{◌≡◌, ℕ, zero, suc, ◌-◌, ◌<◌, ◌≤◌, min, Bool, true, false, ◌&&◌, eqb, ltb, List, [], ◌∷◌, map, sym, refl, ap, ◌∙◌, subst, arith}
use mathlib.Core.Bool.{false≢true}
use Rattle.std.proofs.lemmas.Bool.Decides.{nat_tests}
use Rattle.std.proofs.lemmas.Bool.{eqb-true, eq-eqb, ltb-false, lt-ltb, le-ltb}
use Rattle.allocation.specs.ByTime.{shares_in_order}
use Rattle.allocation.specs.Dealings.{sum}
use Rattle.rules.specs.declared.orders.Order.{Order}
use Rattle.rules.specs.declared.orders.Part.{Part}
use Rattle.rules.specs.Lists.{last_alone}
use Rattle.rules.specs.Books.{Level, part, level, queue, Ranking, Book}
use Rattle.rules.specs.Quantities.{pieces, of_order}
use Rattle.rules.specs.Changes.{put, lose, put_shown, put_hidden}
use Rattle.rules.specs.TakingOff.{take_off_level}
use Rattle.rules.specs.Reserve.{runs_low, show_anew, raised, join_hidden}
use Rattle.rules.specs.Entering.{two_parts, shown_part, hidden_part}
use Rattle.allocation.proofs.InOrder.{in_order_under, sum_in_order}
use Rattle.rules.proofs.Renewed.{joined_by, anew_by, two_parts_by}
use Rattle.rules.proofs.Queues.{lose_of, put_of, last_under, sum_pieces, take_off_hidden_of, take_off_shown_of}
use Rattle.rules.proofs.Effects.{unmark_of}

-- it shows enough, or hides nothing
pub not_low : (lot s h : ℕ) → (0 < h → lot ≤ s) → (ltb s lot && ltb 0 h) ≡ false
not_low lot s zero e = and_no (ltb s lot)
  where
    and_no : (t : Bool) → (t && ltb 0 0) ≡ false
    and_no true = refl
    and_no false = refl
not_low lot s (suc h) e = let k = e (omega arith) in let f : ltb s lot ≡ false = le-ltb s lot k in rw f

low_not : (lot s h : ℕ) → (ltb s lot && ltb 0 h) ≡ false → 0 < h → lot ≤ s
low_not lot s h e pos = go (ltb s lot) refl e
  where
    go : (t : Bool) → ltb s lot ≡ t → (t && ltb 0 h) ≡ false → lot ≤ s
    go true z k = absurd (false≢true (sym k ∙ lt-ltb 0 h pos))
    go false z k = ltb-false s lot z

same_low : (lot s s' h h' : ℕ) → s' ≡ s → h' ≡ h → (ltb s' lot && ltb 0 h') ≡ (ltb s lot && ltb 0 h)
same_low lot s s' h h' a b = rw (a, b)

-- ## Showing anew

pub shown_anew_not_low : (lot : ℕ) (e : Order) (mark : Bool) (l : Level) → lot ≤ e.display → runs_low lot e.number (show_anew lot e mark l) ≡ false
shown_anew_not_low lot e mark l enough =
    let ps : List ℕ = pieces e.number l.hidden.parts in
    let q : ℕ = min e.display (of_order e.number l.hidden.parts) in
    anew_by (λ m. runs_low lot e.number m ≡ false) lot e mark l (λ low. low) (λ low.
    (let z = eq-eqb e.number e.number refl in
    let a = rw z at (put_of e.number (part e.number e.participant q mark) l.shown) in
    let b = rw z at (lose_of e.number e.number (shares_in_order q ps) l.hidden (in_order_under q ps)) in
    let c = sum_in_order q ps in
    let d = sum_pieces e.number l.hidden.parts in
    not_low lot (of_order e.number (put (part e.number e.participant q mark) l.shown).parts) (of_order e.number (lose (shares_in_order q ps) l.hidden).parts) (λ some. omega arith)))

pub shown_anew_other : (lot k i : ℕ) (e : Order) (mark : Bool) (l : Level) → eqb e.number k ≡ false → runs_low lot k (show_anew i e mark l) ≡ runs_low lot k l
shown_anew_other lot k i e mark l ne =
    let ps : List ℕ = pieces e.number l.hidden.parts in
    let q : ℕ = min e.display (of_order e.number l.hidden.parts) in
    anew_by (λ m. runs_low lot k m ≡ runs_low lot k l) i e mark l (λ _. refl) (λ _.
    (let a = rw ne at (put_of k (part e.number e.participant q mark) l.shown) in
    let b = rw ne at (lose_of k e.number (shares_in_order q ps) l.hidden (in_order_under q ps)) in
    same_low lot (of_order k l.shown.parts) (of_order k (put (part e.number e.participant q mark) l.shown).parts) (of_order k l.hidden.parts) (of_order k (lose (shares_in_order q ps) l.hidden).parts) (omega arith) (omega arith)))

raised_other : (k n m : ℕ) (ps : List Part) → eqb n k ≡ false → of_order k (raised n m ps) ≡ of_order k ps
raised_other k n m [] ne = refl
raised_other k n m (p ∷ ps) ne = let ih = raised_other k n m ps ne in grind (arith, nat_tests)

pub joined_other : (lot k i n : ℕ) (l : Level) → eqb n k ≡ false → runs_low lot k (join_hidden i n l) ≡ runs_low lot k l
joined_other lot k i n l ne =
    let xs : List ℕ = last_alone (pieces n l.shown.parts) in
    joined_by (λ m. runs_low lot k m ≡ runs_low lot k l) i n l refl (λ _.
    (let a = rw ne at (lose_of k n xs l.shown (last_under (pieces n l.shown.parts))) in
    same_low lot (of_order k l.shown.parts) (of_order k (lose xs l.shown).parts) (of_order k l.hidden.parts) (of_order k (raised n (sum xs) l.hidden.parts)) (omega arith) (raised_other k n (sum xs) l.hidden.parts ne)))

-- ## Taking off: the hidden part goes first

pub taken_not_low : (lot k n m : ℕ) (l : Level) → runs_low lot k l ≡ false → runs_low lot k (take_off_level n m l) ≡ false
taken_not_low lot k n m l h = not_low lot (of_order k (take_off_level n m l).shown.parts) (of_order k (take_off_level n m l).hidden.parts) (go (eqb n k) refl)
  where
    own : runs_low lot n l ≡ false → 0 < of_order n (take_off_level n m l).hidden.parts → lot ≤ of_order n (take_off_level n m l).shown.parts
    own h some =
        let z = eq-eqb n n refl in
        let a = rw z at (take_off_shown_of n n m l) in
        let b = rw z at (take_off_hidden_of n n m l) in
        let c = low_not lot (of_order n l.shown.parts) (of_order n l.hidden.parts) h (omega arith) in
        omega arith

    go : (t : Bool) → eqb n k ≡ t → 0 < of_order k (take_off_level n m l).hidden.parts → lot ≤ of_order k (take_off_level n m l).shown.parts
    go true e = subst (λ i. 0 < of_order i (take_off_level n m l).hidden.parts → lot ≤ of_order i (take_off_level n m l).shown.parts) (eqb-true n k e) (own (subst (λ i. runs_low lot i l ≡ false) (sym (eqb-true n k e)) h))
    go false e = λ some.
        let a = rw e at (take_off_shown_of k n m l) in
        let b = rw e at (take_off_hidden_of k n m l) in
        let c = low_not lot (of_order k l.shown.parts) (of_order k l.hidden.parts) h (omega arith) in
        omega arith

pub unmarked_low : (lot k : ℕ) (l : Level) → runs_low lot k l ≡ false → runs_low lot k (level l.price (queue (map (λ p. part p.order p.participant p.quantity false) l.shown.parts) l.shown.wheel) l.hidden) ≡ false
unmarked_low lot k l h = ap (λ s. ltb s lot && ltb 0 (of_order k l.hidden.parts)) (unmark_of k l.shown.parts) ∙ h

-- ## Placing

pub put_shown_other : (lot k : ℕ) (x : Part) (l : Level) → eqb x.order k ≡ false → runs_low lot k (put_shown x l) ≡ runs_low lot k l
put_shown_other lot k x l ne = let a = rw ne at (put_of k x l.shown) in same_low lot (of_order k l.shown.parts) (of_order k (put x l.shown).parts) (of_order k l.hidden.parts) (of_order k l.hidden.parts) (omega arith) refl

pub put_hidden_other : (lot k : ℕ) (x : Part) (l : Level) → eqb x.order k ≡ false → runs_low lot k (put_hidden x l) ≡ runs_low lot k l
put_hidden_other lot k x l ne = let a = rw ne at (put_of k x l.hidden) in same_low lot (of_order k l.shown.parts) (of_order k l.shown.parts) (of_order k l.hidden.parts) (of_order k (put x l.hidden).parts) refl (omega arith)

pub two_parts_other : (rank : Ranking) (b : Book) (lot k : ℕ) (e : Order) (n : ℕ) (l : Level) → eqb e.number k ≡ false → runs_low lot k (two_parts rank b e n l) ≡ runs_low lot k l
two_parts_other rank b lot k e n l ne =
    let shown = put_shown_other lot k (shown_part rank b e (min e.display n)) l ne in
    two_parts_by (λ m. runs_low lot k m ≡ runs_low lot k l) rank b e n l (λ _. shown) (λ _. put_hidden_other lot k (hidden_part e (n - min e.display n)) (put_shown (shown_part rank b e (min e.display n)) l) ne ∙ shown)

-- a new reserve order
pub two_parts_not_low : (rank : Ranking) (b : Book) (lot : ℕ) (e : Order) (n : ℕ) (l : Level) → lot ≤ e.display → of_order e.number l.hidden.parts ≡ 0 → runs_low lot e.number (two_parts rank b e n l) ≡ false
two_parts_not_low rank b lot e n l enough none_hidden = two_parts_by (λ m. runs_low lot e.number m ≡ false) rank b e n l one both
  where
    d : ℕ
    d = min e.display n

    x : Part
    x = shown_part rank b e d

    y : Part
    y = hidden_part e (n - d)

    one : n - d ≡ 0 → runs_low lot e.number (put_shown x l) ≡ false
    one none = not_low lot (of_order e.number (put x l.shown).parts) (of_order e.number l.hidden.parts) (λ some. omega arith)

    both : 0 < n - d → runs_low lot e.number (put_hidden y (put_shown x l)) ≡ false
    both more =
        let a = rw (eq-eqb e.number e.number refl) at (put_of e.number x l.shown) in
        not_low lot (of_order e.number (put x l.shown).parts) (of_order e.number (put y l.hidden).parts) (λ some. omega (arith, more))
