-- Taking shares off an order leaves the levels alone that have nothing of it. Assumes nothing.
use Rattle.std.proofs.Common.{◌≡◌, ℕ, zero, suc, ◌+◌, ◌-◌, ◌<◌, ◌≤◌, Bool, true, cond, ltb, List, [], ◌∷◌, reverse, length, get_or, drop, set, filter, sym, refl, ap, ◌∙◌, subst, arith}
use Rattle.std.specs.List.{AllByRecursion}
use Rattle.std.proofs.lemmas.Bool.{lt-leb, lt-ltb, eq-eqb}
use Rattle.allocation.specs.ByTime.{shares_in_order}
use Rattle.allocation.specs.Wheels.{Wheel, wheel_with, seats_of, first_stays}
use Rattle.allocation.specs.Dealings.{Seated, interest, sum}
use Rattle.rules.specs.Books.{Level, Queue, queue, level, part}
use Rattle.rules.specs.Changes.{lowered, settle, lose}
use Rattle.rules.specs.Quantities.{claims, pieces, of_order, of_level}
use Rattle.rules.specs.TakingOff.{take_off_level, take_off_side}
use Rattle.rules.specs.declared.orders.Part.{Part}
use Rattle.allocation.proofs.InOrder.{in_order_cons}
use Rattle.amounts.proofs.Loops.{late, late_is}
use Rattle.resting.specs.Alone.{Without, Alone}
use Rattle.resting.proofs.Off.{off_both}
use Rattle.rules.specs.Invariants.{SoundQueue}

abbrev Zeros : List ℕ → Type 0
Zeros xs = AllByRecursion (λ x. x ≡ 0) xs

-- ## Nothing to take

pieces_none : (n : ℕ) (ps : List Part) → of_order n ps ≡ 0 → Zeros (pieces n ps)
pieces_none n [] e = tt
pieces_none n (p ∷ ps) e = (omega arith, pieces_none n ps (omega arith))

in_order_none : (q : ℕ) (ns : List ℕ) → Zeros ns → Zeros (shares_in_order q ns)
in_order_none q [] z = tt
in_order_none q (n ∷ ns) z = subst (λ (l : List ℕ). Zeros l) (sym (in_order_cons q n ns)) (omega (arith, z.0), in_order_none (q - n) ns z.1)

late_none : (q : ℕ) (ns : List ℕ) → Zeros ns → Zeros (late q ns)
late_none q [] z = tt
late_none q (n ∷ ns) z = (omega (arith, z.0), late_none q ns z.1)

-- ## A queue that loses nothing

lowered_none : (ps : List Part) (xs : List ℕ) → AllByRecursion (λ p. 0 < p.quantity) ps → Zeros xs → lowered ps xs ≡ ps
lowered_none [] xs a z = refl
lowered_none (p ∷ ps) [] a z = refl
lowered_none (p ∷ ps) (x ∷ xs) a z =
    let same : p.quantity - x ≡ p.quantity = omega (arith, z.0) in
    rw (lt-leb p.quantity x (omega (arith, z.0, a.0)))
    (ap (λ n. part p.order p.participant n p.marked ∷ lowered ps xs) same ∙ ap (λ l. p ∷ l) (lowered_none ps xs a.1 z.1))

kept_all : (f : ℕ → Bool) (xs ys : List ℕ) → ((p : ℕ) → 0 < seats_of p ys → f p ≡ true) → ((p : ℕ) → seats_of p xs ≤ seats_of p ys) → filter f xs ≡ xs
kept_all f [] ys h le = refl
kept_all f (x ∷ xs) ys h le =
    let one : 1 ≤ seats_of x ys = omega (arith, le x, ap {B = ℕ} (λ t. cond t 1 0) (eq-eqb x x refl)) in
    rw (h x (omega arith)) (ap (λ l. x ∷ l) (kept_all f xs ys h (λ p. omega (arith, le p))))

first_kept : (f : ℕ → Bool) (xs : List ℕ) (u : ℕ) → ((p : ℕ) → 0 < seats_of p xs → f p ≡ true) → (xs ≡ [] → u ≡ 0) → cond (first_stays f xs) u 0 ≡ u
first_kept f [] u h none = sym (none refl)
first_kept f (x ∷ xs) u h none = rw (h x (omega (arith, ap {B = ℕ} (λ t. cond t 1 0) (eq-eqb x x refl))))

settle_same : (lot : ℕ) (w : Wheel) (ps : List Part) → Seated lot w (λ p. interest p (claims ps)) → settle w ps ≡ w
settle_same lot w ps s =
    let stays : (p : ℕ) → 0 < seats_of p w.seats → ltb 0 (interest p (claims ps)) ≡ true = λ p h. lt-ltb 0 (interest p (claims ps)) (omega (arith, s.once p)) in
    ap (λ l. wheel_with l (cond (first_stays (λ p. ltb 0 (interest p (claims ps))) w.seats) w.used 0)) (kept_all (λ p. ltb 0 (interest p (claims ps))) w.seats w.seats stays (λ p. omega arith))
    ∙ ap (wheel_with w.seats) (first_kept (λ p. ltb 0 (interest p (claims ps))) w.seats w.used stays s.empty)

lose_none : (lot : ℕ) (k : Queue) (xs : List ℕ) → SoundQueue lot k → Zeros xs → lose xs k ≡ k
unfolding lose
lose_none lot k xs s z =
    ap (λ ps. queue ps (settle k.wheel ps)) (lowered_none k.parts xs s.positive z) ∙ ap (queue k.parts) (settle_same lot k.wheel k.parts s.seated)

-- ## A level, and a side

off_none : (lot n m : ℕ) (l : Level) → Without lot n l → take_off_level n m l ≡ l
off_none lot n m l w =
    let h : List ℕ = pieces n l.hidden.parts in
    let s : List ℕ = pieces n l.shown.parts in
    let k : ℕ = m - sum (shares_in_order m h) in
    let hidden = lose_none lot l.hidden (shares_in_order m h) w.hidden (in_order_none m h (pieces_none n l.hidden.parts (omega (arith, w.none)))) in
    let shown = lose_none lot l.shown (reverse (shares_in_order k (reverse s))) w.shown (subst (λ (xs : List ℕ). Zeros xs) (late_is k s) (late_none k s (pieces_none n l.shown.parts (omega (arith, w.none))))) in
    sym (off_both n m l) ∙ ap (λ x. level l.price (lose (reverse (shares_in_order k (reverse s))) l.shown) x) hidden ∙ ap (λ x. level l.price x l.hidden) shown

pub off_others : (lot n m : ℕ) (ls : List Level) → AllByRecursion (Without lot n) ls → take_off_side n m ls ≡ ls
unfolding take_off_side
off_others lot n m [] a = refl
off_others lot n m (l ∷ ls) a = ap (λ x. x ∷ take_off_side n (m - of_level n l) ls) (off_none lot n m l a.0) ∙ ap (λ x. l ∷ x) (off_others lot n (m - of_level n l) ls a.1)

pub off_alone : (lot n m i : ℕ) (ls : List Level) (d : Level) → i < length ls → Alone lot n i ls → take_off_side n m ls ≡ set ls i (take_off_level n m (get_or ls i d))
unfolding take_off_side
off_alone lot n m i [] d lt a = absurd (omega arith)
off_alone lot n m zero (l ∷ ls) d lt a = ap (λ x. take_off_level n m l ∷ x) (off_others lot n (m - of_level n l) ls a.after)
off_alone lot n m (suc i) (l ∷ ls) d lt a =
    let less : m - of_level n l ≡ m = omega (arith, a.before.0.none) in
    let on : suc i + 1 ≡ suc (i + 1) = omega arith in
    ap (λ x. x ∷ take_off_side n (m - of_level n l) ls) (off_none lot n m l a.before.0)
    ∙ ap (λ k. l ∷ take_off_side n k ls) less
    ∙ ap (λ x. l ∷ x) (off_alone lot n m i ls d (omega arith) (record { before = a.before.1; after = subst (λ k. AllByRecursion (Without lot n) (drop k (l ∷ ls))) on a.after }))
