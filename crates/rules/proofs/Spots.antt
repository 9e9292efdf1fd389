-- One level of a side, through every change of the side. Assumes nothing.
use Rattle.std.proofs.Common.{◌≡◌, ℕ, ◌+◌, ◌-◌, ◌<◌, ◌≤◌, Bool, true, false, cond, eqb, List, [], ◌∷◌, map, filter, sym, refl, ap, ◌∙◌, subst, arith}
use Rattle.std.specs.List.{AllByRecursion}
use Rattle.std.proofs.lemmas.Bool.{eqb-true, eqb-false, eq-eqb, ne_eqb, or_parts, or_from}
use Rattle.std.proofs.ByRecursion.{All-weaker}
use Rattle.allocation.specs.Rankings.{TotalOrder}
use Rattle.allocation.specs.Dealings.{sum, interest}
use Rattle.rules.specs.declared.orders.Side.{Side}
use Rattle.rules.specs.declared.orders.Category.{Category}
use Rattle.rules.specs.declared.orders.Order.{Order}
use Rattle.rules.specs.declared.orders.Part.{Part}
use Rattle.rules.specs.Lists.{has, Distinct, last_alone}
use Rattle.rules.specs.Books.{good, Level, level, nothing_at, part, Ranking, better, queue}
use Rattle.rules.specs.Quantities.{of_level, pieces, of_order, claims}
use Rattle.rules.specs.Changes.{on_price, lose, lowered}
use Rattle.rules.specs.Marks.{unmarked}
use Rattle.rules.specs.TakingOff.{take_off_level, take_off_side}
use Rattle.rules.specs.Refusals.{none}
use Rattle.rules.specs.LeadLaw.{level_at, queue_in, owns}
use Rattle.rules.specs.Invariants.{SoundLevel, prices, BestFirst}
use Rattle.rules.proofs.Queues.{last_under, under_at_most}
use Rattle.allocation.proofs.InOrder.{Under}
use Rattle.rules.proofs.Levels.{empty_good}
use Rattle.rules.proofs.Chains.{not_itself}
use Rattle.rules.proofs.Ranked.{Still, better_chain}
use Rattle.rules.proofs.Leads.{Mine, MineAt, got, interest_got}

-- ## Levels by price

pub at_level : (P : Level → Type 0) (v : ℕ) (ls : List Level) → P (nothing_at v) → AllByRecursion P ls → P (level_at v ls)
at_level P v [] none h = none
at_level P v (l ∷ ls) none h = go (eqb l.price v) (at_level P v ls none h.1)
  where
    go : (t : Bool) → P (level_at v ls) → P (cond t l (level_at v ls))
    go true ih = h.0
    go false ih = ih

pub good_at : (lot v : ℕ) (ls : List Level) → 0 < lot → AllByRecursion (SoundLevel lot) ls → SoundLevel lot (level_at v ls)
good_at lot v ls pos = at_level (SoundLevel lot) v ls (empty_good lot v pos)

pub mine_at : (es : List Order) (v : ℕ) (ls : List Level) → AllByRecursion (MineAt es) ls → MineAt es (level_at v ls)
mine_at es v ls = at_level (MineAt es) v ls (tt, tt)

none_at : (v : ℕ) (ls : List Level) → has v (prices ls) ≡ false → level_at v ls ≡ nothing_at v
none_at v [] h = refl
none_at v (l ∷ ls) h = let k = or_parts (eqb l.price v) (has v (prices ls)) h in rw k.0 (none_at v ls k.1)

module _ (rank : Ranking) (O : TotalOrder rank.good) (s : Side) where
  worse_not : (v : ℕ) (vs : List ℕ) → AllByRecursion (λ w. better rank s v w ≡ true) vs → has v vs ≡ false
  worse_not v [] h = refl
  worse_not v (w ∷ vs) h = or_from (eqb w v) (has v vs) (ne_eqb w v (λ e. not_itself rank O s v w (sym e) h.0)) (worse_not v vs h.1)

  pub sorted_once : (vs : List ℕ) → BestFirst rank s vs → Distinct vs
  sorted_once [] h = tt
  sorted_once (v ∷ vs) h = (worse_not v vs h.0, sorted_once vs h.1)

  -- a change at one price: there it is made, elsewhere nothing is
  pub on_price_at : (P : Level → Type 0) (v u : ℕ) (f : Level → Level) (ls : List Level) → Still f → BestFirst rank s (prices ls)
      → P (level_at v ls) → P (f (level_at v ls)) → P (level_at v (on_price rank s u f ls))
  unfolding on_price
  on_price_at P v u f [] still o h k = go (eqb u v) refl
    where
      go : (t : Bool) → eqb u v ≡ t → P (cond (eqb (f (nothing_at u)).price v) (f (nothing_at u)) (nothing_at v))
      go true e = subst (λ x. P (cond (eqb (f (nothing_at x)).price v) (f (nothing_at x)) (nothing_at v))) (sym (eqb-true u v e))
          (rw (ap (λ x. eqb x v) (still (nothing_at v)) ∙ eq-eqb v v refl) k)
      go false e = rw (ap (λ x. eqb x v) (still (nothing_at u)) ∙ e) h
  on_price_at P v u f (l ∷ ls) still o h k = go (eqb l.price u) refl (good rank s u l.price) refl (eqb l.price v) refl h k (on_price_at P v u f ls still o.1)
    where
      go : (t : Bool) → eqb l.price u ≡ t → (g : Bool) → good rank s u l.price ≡ g → (c : Bool) → eqb l.price v ≡ c
          → P (cond c l (level_at v ls)) → P (f (cond c l (level_at v ls))) → (P (level_at v ls) → P (f (level_at v ls)) → P (level_at v (on_price rank s u f ls)))
          → P (level_at v (cond t (f l ∷ ls) (cond g (f (nothing_at u) ∷ l ∷ ls) (l ∷ on_price rank s u f ls))))
      go true et g eg true ec h k ih = rw (ap (λ x. eqb x v) (still l) ∙ ec) k
      go true et g eg false ec h k ih = rw (ap (λ x. eqb x v) (still l) ∙ ec) h
      go false et true eg true ec h k ih =
          -- the price is u, so v is not
          let ne : eqb u v ≡ false = ne_eqb u v (λ e. eqb-false l.price u et (eqb-true l.price v ec ∙ sym e)) in
          rw (ap (λ x. eqb x v) (still (nothing_at u)) ∙ ne, ec) h
      go false et true eg false ec h k ih = new (eqb u v) refl
        where
          new : (x : Bool) → eqb u v ≡ x → P (cond (eqb (f (nothing_at u)).price v) (f (nothing_at u)) (cond (eqb l.price v) l (level_at v ls)))
          new false e = rw (ap (λ x. eqb x v) (still (nothing_at u)) ∙ e, ec) h
          new true e =
              let same : u ≡ v = eqb-true u v e in
              let none : level_at v ls ≡ nothing_at v =
              none_at v ls (worse_not v (prices ls) (All-weaker (λ w. better rank s l.price w ≡ true) (λ w. better rank s v w ≡ true) (λ w b. better_chain rank O s v l.price w (subst (λ x. good rank s x l.price ≡ true) same eg) b) (prices ls) o.0)) in
              let k' : P (f (nothing_at v)) = subst (λ x. P (f x)) none k in
              subst (λ x. P (cond (eqb (f (nothing_at x)).price v) (f (nothing_at x)) (cond (eqb l.price v) l (level_at v ls)))) (sym same)
              (rw (ap (λ x. eqb x v) (still (nothing_at v)) ∙ eq-eqb v v refl) k')
      go false et false eg true ec h k ih = rw ec h
      go false et false eg false ec h k ih = rw ec (ih h k)

-- ## Taking off, unmarking and tidying

take_off_nothing : (n m v : ℕ) → take_off_level n m (nothing_at v) ≡ nothing_at v
unfolding take_off_level lose
take_off_nothing n m v = refl

take_off_still : (n m : ℕ) (l : Level) → (take_off_level n m l).price ≡ l.price
unfolding take_off_level
take_off_still n m l = refl

pub take_off_at : (P : Level → Type 0) (n m v : ℕ) (ls : List Level) → ((k : ℕ) → P (take_off_level n k (level_at v ls))) → P (level_at v (take_off_side n m ls))
unfolding take_off_side
take_off_at P n m v [] h = subst P (take_off_nothing n m v) (h m)
take_off_at P n m v (l ∷ ls) h = go (eqb l.price v) refl h (take_off_at P n (m - of_level n l) v ls)
  where
    still : (take_off_level n m l).price ≡ l.price
    still = take_off_still n m l

    go : (c : Bool) → eqb l.price v ≡ c → ((k : ℕ) → P (take_off_level n k (cond c l (level_at v ls)))) → (((k : ℕ) → P (take_off_level n k (level_at v ls))) → P (level_at v (take_off_side n (m - of_level n l) ls)))
        → P (cond (eqb (take_off_level n m l).price v) (take_off_level n m l) (level_at v (take_off_side n (m - of_level n l) ls)))
    go true e h ih = rw (ap (λ x. eqb x v) still ∙ e) (h m)
    go false e h ih = rw (ap (λ x. eqb x v) still ∙ e) (ih h)

pub unmark : Level → Level
unmark l = level l.price (queue (map (λ p. part p.order p.participant p.quantity false) l.shown.parts) l.shown.wheel) l.hidden

pub unmarked_wheel : (cat : Category) (v : ℕ) (ls : List Level) → (queue_in cat (level_at v (unmarked ls))).wheel ≡ (queue_in cat (level_at v ls)).wheel
unmarked_wheel cat v [] = refl
unmarked_wheel cat v (l ∷ ls) = go cat (eqb l.price v) (unmarked_wheel cat v ls)
  where
    go : (cat : Category) (c : Bool) → (queue_in cat (level_at v (unmarked ls))).wheel ≡ (queue_in cat (level_at v ls)).wheel
        → (queue_in cat (cond c (level l.price (queue (map (λ p. part p.order p.participant p.quantity false) l.shown.parts) l.shown.wheel) l.hidden) (level_at v (unmarked ls)))).wheel ≡ (queue_in cat (cond c l (level_at v ls))).wheel
    go Category.Displayed true ih = refl
    go Category.Hidden true ih = refl
    go cat false ih = ih

-- a level that someone has interest at is kept
kept_has : (v : ℕ) (f : Level → Bool) (ls : List Level) → has v (prices ls) ≡ false → has v (prices (filter f ls)) ≡ false
kept_has v f [] h = refl
kept_has v f (l ∷ ls) h = go (f l) (or_parts (eqb l.price v) (has v (prices ls)) h).0 (kept_has v f ls (or_parts (eqb l.price v) (has v (prices ls)) h).1)
  where
    go : (t : Bool) → eqb l.price v ≡ false → has v (prices (filter f ls)) ≡ false → has v (prices (cond t (l ∷ filter f ls) (filter f ls))) ≡ false
    go true e ih = or_from (eqb l.price v) (has v (prices (filter f ls))) e ih
    go false e ih = ih

pub kept_at : (P : Level → Type 0) (f : Level → Bool) (v : ℕ) (ls : List Level) → Distinct (prices ls) → (P (nothing_at v) → ⊥) → P (level_at v (filter f ls)) → level_at v (filter f ls) ≡ level_at v ls
kept_at P f v [] o none h = refl
kept_at P f v (l ∷ ls) o none h = go (f l) (eqb l.price v) refl h (kept_at P f v ls o.1 none)
  where
    go : (t c : Bool) → eqb l.price v ≡ c → P (level_at v (cond t (l ∷ filter f ls) (filter f ls))) → (P (level_at v (filter f ls)) → level_at v (filter f ls) ≡ level_at v ls)
        → level_at v (cond t (l ∷ filter f ls) (filter f ls)) ≡ cond c l (level_at v ls)
    go true true e h ih = rw e
    go true false e h ih = rw e (ih (rw e at h))
    go false true e h ih =
        let same : l.price ≡ v = eqb-true l.price v e in
        absurd (none (subst P (none_at v (filter f ls) (kept_has v f ls (subst (λ x. has x (prices ls) ≡ false) same o.0))) h))
    go false false e h ih = ih h

-- ## Kind.Reserve on one level

-- what a participant gets of amounts that go to one order
got_order : (es : List Order) (p n : ℕ) (xs : List ℕ) (ps : List Part) → AllByRecursion (Mine es) ps → Under xs (pieces n ps) → got p ps xs ≡ cond (owns p es n) (sum xs) 0
got_order es p n [] [] m h = grind arith
got_order es p n [] (x ∷ ps) m h = absurd h
got_order es p n (y ∷ xs) [] m h = absurd h
got_order es p n (y ∷ xs) (x ∷ ps) m h = go (eqb x.order n) refl h.0 (got_order es p n xs ps m.1 h.1)
  where
    go : (t : Bool) → eqb x.order n ≡ t → y ≤ cond t x.quantity 0 → got p ps xs ≡ cond (owns p es n) (sum xs) 0 → cond (eqb p x.participant) y 0 + got p ps xs ≡ cond (owns p es n) (y + sum xs) 0
    go true e l ih = let o : owns p es n ≡ eqb p x.participant = subst (λ k. owns p es k ≡ eqb p x.participant) (eqb-true x.order n e) (m.0 p) in rw (sym o) (split (owns p es n) ih)
      where
        split : (u : Bool) → got p ps xs ≡ cond u (sum xs) 0 → cond u y 0 + got p ps xs ≡ cond u (y + sum xs) 0
        split true i = omega arith
        split false i = omega arith
    go false e l ih = let z : y ≡ 0 = omega arith in rw z (omega_ends (eqb p x.participant) (owns p es n) ih)
      where
        omega_ends : (u w : Bool) → got p ps xs ≡ cond w (sum xs) 0 → cond u 0 0 + got p ps xs ≡ cond w (0 + sum xs) 0
        omega_ends true true i = omega arith
        omega_ends true false i = omega arith
        omega_ends false true i = omega arith
        omega_ends false false i = omega arith

interest_order : (es : List Order) (p n : ℕ) (ps : List Part) → AllByRecursion (Mine es) ps → cond (owns p es n) (of_order n ps) 0 ≤ interest p (claims ps)
interest_order es p n [] m = grind arith
interest_order es p n (x ∷ ps) m = go (eqb x.order n) refl (interest_order es p n ps m.1)
  where
    go : (t : Bool) → eqb x.order n ≡ t → cond (owns p es n) (of_order n ps) 0 ≤ interest p (claims ps) → cond (owns p es n) (cond t x.quantity 0 + of_order n ps) 0 ≤ cond (eqb p x.participant) x.quantity 0 + interest p (claims ps)
    go true e ih = let o : owns p es n ≡ eqb p x.participant = subst (λ k. owns p es k ≡ eqb p x.participant) (eqb-true x.order n e) (m.0 p) in rw (sym o) (split (owns p es n) ih)
      where
        split : (u : Bool) → cond u (of_order n ps) 0 ≤ interest p (claims ps) → cond u (x.quantity + of_order n ps) 0 ≤ cond u x.quantity 0 + interest p (claims ps)
        split true i = omega arith
        split false i = omega arith
    go false e ih = split (owns p es n) ih
      where
        split : (u : Bool) → cond u (of_order n ps) 0 ≤ interest p (claims ps) → cond u (0 + of_order n ps) 0 ≤ cond (eqb p x.participant) x.quantity 0 + interest p (claims ps)
        split true i = omega arith
        split false i = omega arith

-- one of two parts stays: so does the interest
pub rejoined_interest : (es : List Order) (p n : ℕ) (ps : List Part) → AllByRecursion (Mine es) ps → sum (last_alone (pieces n ps)) < of_order n ps → 0 < interest p (claims ps) → 0 < interest p (claims (lowered ps (last_alone (pieces n ps))))
rejoined_interest es p n ps m two some =
    let xs : List ℕ = last_alone (pieces n ps) in
    let u : Under xs (pieces n ps) = last_under (pieces n ps) in
    let a = interest_got p ps xs (under_at_most n xs ps u) in
    let b = got_order es p n xs ps m u in
    let c = interest_order es p n ps m in
    grind arith
