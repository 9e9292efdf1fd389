-- Rows of the table less what trades take. Assumes nothing.
use Rattle.std.proofs.Common.{◌≡◌, ℕ, zero, suc, ◌+◌, ◌-◌, ◌<◌, ◌≤◌, true, false, cond, eqb, List, [], ◌∷◌, map, length, get_or, take, drop, set, sym, refl, ap, ◌∙◌, subst, arith}
use mathlib.Core.Bool.{false≢true}
use Rattle.std.specs.List.{AllByRecursion}
use Rattle.std.proofs.lemmas.List.{drop_more, at_drop_all}
use Rattle.std.proofs.lemmas.Bool.{eqb-false, eq-eqb, ne_eqb, or_parts}
use Rattle.rules.specs.Lists.{has, Distinct}
use Rattle.rules.specs.Invariants.{numbers}
use Rattle.rules.specs.declared.answers.Row.{Row}
use Rattle.rules.specs.declared.answers.Row.TheVariants.{Trade}
use Rattle.rules.specs.declared.phases.Step.TheVariants.{Setter}
use Rattle.rules.specs.declared.orders.Order.{Order}
use Rattle.rules.specs.declared.orders.Side.TheVariants.{Buy}
use Rattle.rules.specs.declared.orders.Kind.TheVariants.{Limit}
use Rattle.orders.specs.declared.tables.Resting.{Resting}
use Rattle.orders.specs.Rows.{less}
use Rattle.orders.specs.Deducted.{takes, taken_from, deducted_by, deducted}

abbrev pub orders_in : List Resting → List Order
orders_in = map (λ r. r.order)

-- a row without an order
abbrev pub blank : Resting
blank = record { order = record { number = 0; participant = 0; side = Buy; kind = Limit; quantity = 0; display = 0; price = 0 }; quantity = 0 }

-- what stands where no row does
abbrev pub no_row : Row
no_row = Trade Setter 0 0 0 0

less_none : (r : Resting) → less r 0 ≡ r
less_none r = let same : r.quantity - 0 ≡ r.quantity = omega arith in ap (λ (q : ℕ). record { order = r.order; quantity = q }) same

-- ## One row

-- an order that the table has is found in it
pub never_missing : (n : ℕ) (rs : List Resting) → AllByRecursion (λ x. (x.order.number ≡ n → ⊥)) rs → has n (numbers (orders_in rs)) ≡ true → ⊥
never_missing n [] a h = false≢true h
never_missing n (r ∷ rs) a h = never_missing n rs a.1 (rw (ne_eqb r.order.number n a.0) at h)

-- nothing is taken from rows of other orders
other_rows : (n q : ℕ) (rs : List Resting) → has n (numbers (orders_in rs)) ≡ false → map (λ r. less r (cond (eqb n r.order.number) q 0)) rs ≡ rs
other_rows n q [] h = refl
other_rows n q (r ∷ rs) h =
    let k = or_parts (eqb r.order.number n) (has n (numbers (orders_in rs))) h in
    let ne : eqb n r.order.number ≡ false = ne_eqb n r.order.number (λ e. eqb-false r.order.number n k.0 (sym e)) in
    ap (λ t. less r (cond t q 0) ∷ map (λ r. less r (cond (eqb n r.order.number) q 0)) rs) ne ∙ ap (λ x. x ∷ map (λ r. less r (cond (eqb n r.order.number) q 0)) rs) (less_none r) ∙ ap (λ xs. r ∷ xs) (other_rows n q rs k.1)

-- the row of the order n is the one at i
pub one_row : (n q : ℕ) (rs : List Resting) (i : ℕ) (d : Resting) → Distinct (numbers (orders_in rs)) → i < length rs → (get_or rs i d).order.number ≡ n → AllByRecursion (λ x. (x.order.number ≡ n → ⊥)) (take i rs)
    → set rs i (less (get_or rs i d) q) ≡ map (λ r. less r (cond (eqb n r.order.number) q 0)) rs
one_row n q [] i d once lt e a = absurd (omega arith)
one_row n q (r ∷ rs) zero d once lt e a =
    let yes : eqb n r.order.number ≡ true = eq-eqb n r.order.number (sym e) in
    let apart : has n (numbers (orders_in rs)) ≡ false = subst (λ k. has k (numbers (orders_in rs)) ≡ false) e once.0 in
    sym (ap (λ t. less r (cond t q 0) ∷ map (λ r. less r (cond (eqb n r.order.number) q 0)) rs) yes ∙ ap (λ xs. less r q ∷ xs) (other_rows n q rs apart))
one_row n q (r ∷ rs) (suc i) d once lt e a =
    let ne : eqb n r.order.number ≡ false = ne_eqb n r.order.number (λ z. a.0 (sym z)) in
    sym (ap (λ t. less r (cond t q 0) ∷ map (λ r. less r (cond (eqb n r.order.number) q 0)) rs) ne ∙ ap (λ x. x ∷ map (λ r. less r (cond (eqb n r.order.number) q 0)) rs) (less_none r) ∙ ap (λ xs. r ∷ xs) (sym (one_row n q rs i d once.1 (omega arith) e a.1)))

-- there is enough at i
pub enough_at : (n q : ℕ) (rs : List Resting) (i : ℕ) (d : Resting) → i < length rs → (get_or rs i d).order.number ≡ n → AllByRecursion (λ r. cond (eqb n r.order.number) q 0 ≤ r.quantity) rs → q ≤ (get_or rs i d).quantity
enough_at n q [] i d lt e a = absurd (omega arith)
enough_at n q (r ∷ rs) zero d lt e a = rw (eq-eqb n r.order.number (sym e)) at a.0
enough_at n q (r ∷ rs) (suc i) d lt e a = enough_at n q rs i d (omega arith) e a.1

-- what is given back is no trade
pub none_taken : (rs : List Resting) → rs ≡ map (λ r. less r 0) rs
none_taken [] = refl
none_taken (r ∷ rs) = sym (ap (λ x. x ∷ map (λ r. less r 0) rs) (less_none r) ∙ ap (λ xs. r ∷ xs) (sym (none_taken rs)))

-- ## All rows

pub same_orders : (f : Resting → ℕ) (rs : List Resting) → orders_in (map (λ r. less r (f r)) rs) ≡ orders_in rs
same_orders f [] = refl
same_orders f (r ∷ rs) = ap (λ xs. r.order ∷ xs) (same_orders f rs)

less_twice : (r : Resting) (a b : ℕ) → less (less r a) b ≡ less r (a + b)
less_twice r a b = let same : r.quantity - a - b ≡ r.quantity - (a + b) = omega arith in ap (λ (q : ℕ). record { order = r.order; quantity = q }) same

by_one : (x : Row) (xs : List Row) (rs : List Resting) → deducted xs (deducted_by x rs) ≡ deducted (x ∷ xs) rs
by_one x xs [] = refl
by_one x xs (r ∷ rs) =
    ap (λ y. y ∷ deducted xs (deducted_by x rs)) (less_twice r (takes r.order.number x) (taken_from r.order.number xs)) ∙ ap (λ ys. less r (takes r.order.number x + taken_from r.order.number xs) ∷ ys) (by_one x xs rs)

still_enough : (x : Row) (xs : List Row) (rs : List Resting) → AllByRecursion (λ r. takes r.order.number x + taken_from r.order.number xs ≤ r.quantity) rs → AllByRecursion (λ r. taken_from r.order.number xs ≤ r.quantity) (deducted_by x rs)
still_enough x xs [] a = tt
still_enough x xs (r ∷ rs) a = (omega (arith, a.0), still_enough x xs rs a.1)

enough_for : (x : Row) (xs : List Row) (rs : List Resting) → AllByRecursion (λ r. takes r.order.number x + taken_from r.order.number xs ≤ r.quantity) rs → AllByRecursion (λ r. takes r.order.number x ≤ r.quantity) rs
enough_for x xs [] a = tt
enough_for x xs (r ∷ rs) a = (omega (arith, a.0), enough_for x xs rs a.1)

-- i rows of a report are deducted: what is left of them gives the whole
pub record Deducting (xs : List Row) (i : ℕ) (before now : List Resting) : Type 0 where
  pub whole : deducted (drop i xs) now ≡ deducted xs before
  pub orders : orders_in now ≡ orders_in before
  pub enough : AllByRecursion (λ r. taken_from r.order.number (drop i xs) ≤ r.quantity) now

pub deducting_enough : {xs : List Row} {i : ℕ} {before now : List Resting} (d : Row) → Deducting xs i before now → i < length xs → AllByRecursion (λ r. takes r.order.number (get_or xs i d) ≤ r.quantity) now
deducting_enough {xs} {i} {before} {now} d s lt =
    enough_for (get_or xs i d) (drop (i + 1) xs) now (subst (λ (ys : List Row). AllByRecursion (λ r. taken_from r.order.number ys ≤ r.quantity) now) (drop_more xs i d lt) s.enough)

pub deducting_more : {xs : List Row} {i : ℕ} {before now : List Resting} (d : Row) (next : List Resting) → Deducting xs i before now → i < length xs → next ≡ deducted_by (get_or xs i d) now → Deducting xs (i + 1) before next
deducting_more {xs} {i} {before} {now} d next s lt is =
    let x : Row = get_or xs i d in
    let ys : List Row = drop (i + 1) xs in
    record {
      whole = ap (deducted ys) is ∙ by_one x ys now ∙ ap (λ zs. deducted zs now) (sym (drop_more xs i d lt)) ∙ s.whole;
      orders = ap orders_in is ∙ same_orders (λ r. takes r.order.number x) now ∙ s.orders;
      enough = subst (λ (rs : List Resting). AllByRecursion (λ r. taken_from r.order.number ys ≤ r.quantity) rs) (sym is) (still_enough x ys now (subst (λ (zs : List Row). AllByRecursion (λ r. taken_from r.order.number zs ≤ r.quantity) now) (drop_more xs i d lt) s.enough));
    }

pub deducting_over : {xs : List Row} {i : ℕ} {before now : List Resting} → Deducting xs i before now → length xs ≤ i → now ≡ deducted xs before
deducting_over {xs} {i} {before} {now} s le = none_taken now ∙ sym (at_drop_all (λ (ys : List Row). deducted ys now) xs i le) ∙ s.whole
