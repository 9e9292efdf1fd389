-- What holds of all parts, and how many there are, when they lose shares, grow, come or lose their marks. Assumes nothing.
use Rattle.std.proofs.Common.{◌≡◌, ℕ, ◌+◌, ◌-◌, ◌<◌, ◌≤◌, Bool, true, false, cond, eqb, ltb, leb, List, [], ◌∷◌, map, sym, refl, ◌∙◌, arith}
use Rattle.std.specs.List.{AllByRecursion}
use Rattle.std.proofs.lemmas.Bool.Decides.{nat_tests}
use Rattle.std.proofs.lemmas.Bool.{eqb-true, eqb-false, ltb-false}
use Rattle.std.proofs.ByRecursion.{All-push}
use Rattle.allocation.specs.Dealings.{sum}
use Rattle.rules.specs.declared.orders.Part.{Part}
use Rattle.rules.specs.Lists.{sum_of, last_alone}
use Rattle.rules.specs.Books.{part, Queue}
use Rattle.rules.specs.Quantities.{of_order, pieces, of_part}
use Rattle.rules.specs.Changes.{lowered, lose, put}
use Rattle.rules.specs.Reserve.{raised}
use Rattle.rules.specs.Invariants.{parts_of}
use Rattle.rules.proofs.Members.{sum_of_append}
use Rattle.rules.proofs.Queues.{sum_pieces}

-- what holds of an order and its holder stays
abbrev pub Steady : (Part → Type 0) → Type 0
Steady P = (x y : Part) → x.order ≡ y.order → x.participant ≡ y.participant → P x → P y

pub all_lowered : (P : Part → Type 0) → Steady P → (ps : List Part) (xs : List ℕ) → AllByRecursion P ps → AllByRecursion P (lowered ps xs)
all_lowered P st [] xs h = tt
all_lowered P st (p ∷ ps) [] h = h
all_lowered P st (p ∷ ps) (x ∷ xs) h = go (leb p.quantity x) (all_lowered P st ps xs h.1)
  where
    go : (t : Bool) → AllByRecursion P (lowered ps xs) → AllByRecursion P (cond t (lowered ps xs) (part p.order p.participant (p.quantity - x) p.marked ∷ lowered ps xs))
    go true ih = ih
    go false ih = (st p (part p.order p.participant (p.quantity - x) p.marked) refl refl h.0, ih)

pub raised_all : (P : Part → Type 0) → Steady P → (n m : ℕ) (ps : List Part) → AllByRecursion P ps → AllByRecursion P (raised n m ps)
raised_all P st n m [] h = tt
raised_all P st n m (p ∷ ps) h = go (eqb p.order n) (raised_all P st n m ps h.1)
  where
    go : (t : Bool) → AllByRecursion P (raised n m ps) → AllByRecursion P (cond t (part p.order p.participant (p.quantity + m) p.marked ∷ ps) (p ∷ raised n m ps))
    go true ih = (st p (part p.order p.participant (p.quantity + m) p.marked) refl refl h.0, h.1)
    go false ih = (h.0, ih)

pub lose_all : (P : Part → Type 0) → Steady P → (xs : List ℕ) (k : Queue) → AllByRecursion P k.parts → AllByRecursion P (lose xs k).parts
unfolding lose
lose_all P st xs k h = all_lowered P st k.parts xs h

pub put_all : (P : Part → Type 0) (x : Part) (k : Queue) → AllByRecursion P k.parts → P x → AllByRecursion P (put x k).parts
unfolding put
put_all P x k h y = All-push P k.parts x h y

pub unmark_all : (P : Part → Type 0) → Steady P → (ps : List Part) → AllByRecursion P ps → AllByRecursion P (map (λ p. part p.order p.participant p.quantity false) ps)
unmark_all P st [] h = tt
unmark_all P st (p ∷ ps) h = (st p (part p.order p.participant p.quantity false) refl refl h.0, unmark_all P st ps h.1)

-- ## How many parts there are

-- what is counted does not depend on quantities
abbrev pub Countable : (Part → ℕ) → Type 0
Countable f = (p : Part) (n : ℕ) → f (part p.order p.participant n p.marked) ≡ f p

pub lowered_count : (f : Part → ℕ) → Countable f → (ps : List Part) (xs : List ℕ) → sum_of f (lowered ps xs) ≤ sum_of f ps
lowered_count f c [] xs = omega arith
lowered_count f c (p ∷ ps) [] = omega arith
lowered_count f c (p ∷ ps) (x ∷ xs) = go (leb p.quantity x) (lowered_count f c ps xs)
  where
    go : (t : Bool) → sum_of f (lowered ps xs) ≤ sum_of f ps → sum_of f (cond t (lowered ps xs) (part p.order p.participant (p.quantity - x) p.marked ∷ lowered ps xs)) ≤ f p + sum_of f ps
    go true ih = omega arith
    go false ih = omega (arith, c p (p.quantity - x))

pub raised_count : (f : Part → ℕ) → Countable f → (n m : ℕ) (ps : List Part) → sum_of f (raised n m ps) ≡ sum_of f ps
raised_count f c n m [] = refl
raised_count f c n m (p ∷ ps) = go (eqb p.order n) (raised_count f c n m ps)
  where
    go : (t : Bool) → sum_of f (raised n m ps) ≡ sum_of f ps → sum_of f (cond t (part p.order p.participant (p.quantity + m) p.marked ∷ ps) (p ∷ raised n m ps)) ≡ f p + sum_of f ps
    go true ih = omega (arith, c p (p.quantity + m))
    go false ih = omega arith

pub lose_count : (f : Part → ℕ) → Countable f → (xs : List ℕ) (k : Queue) → sum_of f (lose xs k).parts ≤ sum_of f k.parts
unfolding lose
lose_count f c xs k = lowered_count f c k.parts xs

pub put_count : (f : Part → ℕ) (x : Part) (k : Queue) → sum_of f (put x k).parts ≡ sum_of f k.parts + f x
unfolding put
put_count f x k = omega (arith, sum_of_append f k.parts (x ∷ []))

-- ## The parts of one order

pub some_part : (n : ℕ) (ps : List Part) → 0 < of_order n ps → 0 < parts_of n ps
some_part n [] h = h
some_part n (p ∷ ps) h = go (eqb p.order n) h (some_part n ps)
  where
    go : (t : Bool) → 0 < cond t p.quantity 0 + of_order n ps → (0 < of_order n ps → 0 < parts_of n ps) → 0 < cond t 1 0 + parts_of n ps
    go true h ih = omega arith
    go false h ih = omega (arith, ih (omega arith))

pub no_part : (n : ℕ) (ps : List Part) → AllByRecursion (λ p. 0 < p.quantity) ps → of_order n ps ≡ 0 → parts_of n ps ≡ 0
no_part n [] pos h = refl
no_part n (p ∷ ps) pos h = go (eqb p.order n) pos.0 h (no_part n ps pos.1)
  where
    go : (t : Bool) → 0 < p.quantity → cond t p.quantity 0 + of_order n ps ≡ 0 → (of_order n ps ≡ 0 → parts_of n ps ≡ 0) → cond t 1 0 + parts_of n ps ≡ 0
    go true some h ih = let no_way : ⊥ = omega arith in absurd no_way
    go false some h ih = omega (arith, ih (omega arith))

all_gone : (n : ℕ) (ps : List Part) → AllByRecursion (λ p. 0 < p.quantity) ps → parts_of n (lowered ps (pieces n ps)) ≡ 0
all_gone n [] pos = refl
all_gone n (p ∷ ps) pos = let ih = all_gone n ps pos.1 in let some = pos.0 in grind (arith, nat_tests)

-- without its last part an order has one part less
pub last_gone : (n : ℕ) (ps : List Part) → AllByRecursion (λ p. 0 < p.quantity) ps → parts_of n (lowered ps (last_alone (pieces n ps))) ≡ parts_of n ps - 1
last_gone n [] pos = refl
last_gone n (p ∷ ps) pos = go (eqb (sum (pieces n ps)) 0) refl (last_gone n ps pos.1)
  where
    go : (t : Bool) → eqb (sum (pieces n ps)) 0 ≡ t → parts_of n (lowered ps (last_alone (pieces n ps))) ≡ parts_of n ps - 1 → parts_of n (lowered (p ∷ ps) (cond t (of_part n p ∷ pieces n ps) (0 ∷ last_alone (pieces n ps)))) ≡ parts_of n (p ∷ ps) - 1
    go true e ih =
        let none = no_part n ps pos.1 (sym (sum_pieces n ps) ∙ eqb-true (sum (pieces n ps)) 0 e) in
        let gone = all_gone n (p ∷ ps) pos in
        grind arith
    go false e ih =
        let some = some_part n ps (omega (arith, sum_pieces n ps, eqb-false (sum (pieces n ps)) 0 e)) in
        let here = pos.0 in
        grind (arith, nat_tests)

sum_last : (xs : List ℕ) → sum (last_alone xs) ≤ sum xs
sum_last [] = omega arith
sum_last (x ∷ xs) = let ih = sum_last xs in grind arith

shows_few : (n : ℕ) (ps : List Part) → AllByRecursion (λ p. 0 < p.quantity) ps → of_order n ps ≤ sum (last_alone (pieces n ps)) → parts_of n ps ≤ 1
shows_few n [] pos h = omega arith
shows_few n (p ∷ ps) pos h = go (eqb (sum (pieces n ps)) 0) refl h (shows_few n ps pos.1)
  where
    go : (t : Bool) → eqb (sum (pieces n ps)) 0 ≡ t → of_part n p + of_order n ps ≤ sum (cond t (of_part n p ∷ pieces n ps) (0 ∷ last_alone (pieces n ps)))
        → (of_order n ps ≤ sum (last_alone (pieces n ps)) → parts_of n ps ≤ 1) → parts_of n (p ∷ ps) ≤ 1
    go true e h ih = let gone = no_part n ps pos.1 (sym (sum_pieces n ps) ∙ eqb-true (sum (pieces n ps)) 0 e) in grind arith
    go false e h ih =
        let le = sum_last (pieces n ps) in
        let same = sum_pieces n ps in
        let rest = ih (omega arith) in
        let gone : of_part n p ≡ 0 = omega arith in
        let some = pos.0 in
        grind (arith, nat_tests)

-- an order that does not show two parts shows one at most
pub shows_one : (n : ℕ) (ps : List Part) → AllByRecursion (λ p. 0 < p.quantity) ps → ltb (sum (last_alone (pieces n ps))) (of_order n ps) ≡ false → parts_of n ps ≤ 1
shows_one n ps pos h = shows_few n ps pos (ltb-false (sum (last_alone (pieces n ps))) (of_order n ps) h)
