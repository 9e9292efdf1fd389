-- Replenishing at the place of the order's price. Assumes nothing.
use Rattle.std.proofs.Common.{◌≡◌, ℕ, zero, suc, ◌<◌, ◌≤◌, min, Bool, true, false, cond, ◌&&◌, ◌||◌, eqb, ltb, List, [], ◌∷◌, length, get_or, set, Option, sym, refl, ap, ◌∙◌, arith}
use Rattle.std.proofs.lemmas.Bool.{eq-eqb, lt-ltb, ltb-true, and_parts}
use Rattle.std.proofs.lemmas.Bool.Decides.{nat_tests}
use Rattle.std.proofs.lemmas.List.{set-get_or}
use Rattle.rules.specs.declared.orders.Side.{Side}
use Rattle.rules.specs.declared.orders.Order.{Order}
use Rattle.rules.specs.Lists.{any, last_alone}
use Rattle.rules.specs.declared.orders.Part.{Part}
use Rattle.allocation.specs.Dealings.{sum}
use Rattle.rules.specs.Books.{Level, Ranking, good, nothing_at, level, queue}
use Rattle.rules.specs.Changes.{on_price, lowered, lose}
use Rattle.rules.specs.Quantities.{pieces, of_order}
use Rattle.rules.specs.Reserve.{runs_low, shows_two, raised, join_hidden, show_anew, hidden_of}
use Rattle.rules.proofs.Ranked.{Still, join_hidden_still}
use Rattle.rules.proofs.Levels.{raised_of}
use Rattle.resting.specs.Earned.{earned}
use Rattle.resting.specs.Replenished.{joined, replenished}
use Rattle.resting.proofs.Low.{join_none, show_none}

-- two changes at a price, the first of which leaves the price as it is, are one
pub on_price_twice : (rank : Ranking) (s : Side) (v : ℕ) (f g : Level → Level) → Still g → (ls : List Level) → on_price rank s v f (on_price rank s v g ls) ≡ on_price rank s v (λ l. f (g l)) ls
unfolding on_price
on_price_twice rank s v f g still [] = rw (eq-eqb (g (nothing_at v)).price v (still (nothing_at v)))
on_price_twice rank s v f g still (l ∷ ls) = go (eqb l.price v) refl (good rank s v l.price) refl (on_price_twice rank s v f g still ls)
  where
    go : (t : Bool) → eqb l.price v ≡ t → (u : Bool) → good rank s v l.price ≡ u → on_price rank s v f (on_price rank s v g ls) ≡ on_price rank s v (λ l. f (g l)) ls
        → on_price rank s v f (cond t (g l ∷ ls) (cond u (g (nothing_at v) ∷ l ∷ ls) (l ∷ on_price rank s v g ls))) ≡ cond t (f (g l) ∷ ls) (cond u (f (g (nothing_at v)) ∷ l ∷ ls) (l ∷ on_price rank s v (λ l. f (g l)) ls))
    go true e u eu ih = rw (ap (λ w. eqb w v) (still l) ∙ e)
    go false e true eu ih = rw (eq-eqb (g (nothing_at v)).price v (still (nothing_at v)))
    go false e false eu ih = rw (e, eu) (ap (λ xs. l ∷ xs) ih)

-- some member passes
pub any_at : {X : Type 0} (t : X → Bool) (xs : List X) (i : ℕ) (d : X) → i < length xs → t (get_or xs i d) ≡ true → any t xs ≡ true
any_at t [] i d lt h = absurd (omega arith)
any_at t (x ∷ xs) zero d lt h = rw h
any_at t (x ∷ xs) (suc i) d lt h = rw (any_at t xs i d (omega arith) h) (or_yes (t x))
  where
    or_yes : (u : Bool) → (u || true) ≡ true
    or_yes true = refl
    or_yes false = refl

-- the order's price is found at i of ms: both changes are made there
pub replenished_at : (rank : Ranking) (lot : ℕ) (away : Option ℕ) (e : Order) (ls ms : List Level) (i : ℕ) (d : Level) → ((f : Level → Level) → on_price rank e.side e.price f ls ≡ set ms i (f (get_or ms i d)))
    → (mark : Bool) → mark ≡ earned rank e.side e.price (min e.display (hidden_of e.number (joined rank lot e ls))) lot away (joined rank lot e ls)
    → set ms i (show_anew lot e mark (join_hidden lot e.number (get_or ms i d))) ≡ replenished rank lot away e ls
replenished_at rank lot away e ls ms i d finds mark is =
    sym (finds (λ l. show_anew lot e mark (join_hidden lot e.number l)))
    ∙ sym (on_price_twice rank e.side e.price (show_anew lot e mark) (join_hidden lot e.number) (join_hidden_still lot e.number) ls)
    ∙ ap (λ m. on_price rank e.side e.price (show_anew lot e m) (joined rank lot e ls)) is

-- where it does not run low, nothing changes
pub replenished_not : (rank : Ranking) (lot : ℕ) (away : Option ℕ) (e : Order) (ls ms : List Level) (i : ℕ) (d : Level) → ((f : Level → Level) → on_price rank e.side e.price f ls ≡ set ms i (f (get_or ms i d)))
    → runs_low lot e.number (get_or ms i d) ≡ false → ms ≡ replenished rank lot away e ls
replenished_not rank lot away e ls ms i d finds low =
    let l : Level = get_or ms i d in
    let mark : Bool = earned rank e.side e.price (min e.display (hidden_of e.number (joined rank lot e ls))) lot away (joined rank lot e ls) in
    sym (set-get_or ms i d)
    ∙ ap (set ms i) (sym (ap (show_anew lot e mark) (join_none lot e.number l low) ∙ show_none lot e mark l low))
    ∙ replenished_at rank lot away e ls ms i d finds mark refl

-- parts that lose amounts have no more than before
lowered_less : (n : ℕ) (ps : List Part) (xs : List ℕ) → of_order n (lowered ps xs) ≤ of_order n ps
lowered_less n [] xs = omega arith
lowered_less n (p ∷ ps) [] = omega arith
lowered_less n (p ∷ ps) (x ∷ xs) = let ih = lowered_less n ps xs in grind (arith, nat_tests)

-- an order that runs low still does when its later part has joined the hidden part
pub low_joined : (lot n : ℕ) (l : Level) → runs_low lot n l ≡ true → runs_low lot n (join_hidden lot n l) ≡ true
unfolding join_hidden lose
low_joined lot n l low = go (runs_low lot n l && shows_two n l)
  where
    xs : List ℕ
    xs = last_alone (pieces n l.shown.parts)

    few : of_order n l.shown.parts < lot
    few = ltb-true (of_order n l.shown.parts) lot (and_parts (ltb (of_order n l.shown.parts) lot) (ltb 0 (of_order n l.hidden.parts)) low).0

    some : 0 < of_order n l.hidden.parts
    some = ltb-true 0 (of_order n l.hidden.parts) (and_parts (ltb (of_order n l.shown.parts) lot) (ltb 0 (of_order n l.hidden.parts)) low).1

    go : (t : Bool) → runs_low lot n (cond t (level l.price (lose xs l.shown) (queue (raised n (sum xs) l.hidden.parts) l.hidden.wheel)) l) ≡ true
    go true = rw (
      lt-ltb (of_order n (lowered l.shown.parts xs)) lot (omega (arith, few, lowered_less n l.shown.parts xs)),
      lt-ltb 0 (of_order n (raised n (sum xs) l.hidden.parts)) (omega (arith, some, raised_of n n (sum xs) l.hidden.parts some)),
    )
    go false = low
