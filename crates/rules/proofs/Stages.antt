-- The steps at one price, as stages: a stage with quantity left has trade all of its parts. Assumes nothing.
use Rattle.std.proofs.Common.{◌≡◌, ℕ, zero, suc, ◌+◌, ◌-◌, ◌<◌, ◌≤◌, Bool, true, false, cond, not, leb, List, [], ◌∷◌, map, filter, sym, refl, ◌∙◌, subst, arith}
use Rattle.std.specs.List.{AllByRecursion}
use Rattle.std.proofs.lemmas.Bool.{le-leb, lt-leb}
use Rattle.allocation.specs.Wheels.{Wheel}
use Rattle.allocation.specs.ByTime.{shares_in_order}
use Rattle.allocation.specs.Dealings.{sum, total, Deal, Lawful}
use Rattle.allocation.specs.declared.claims.Claim.{Claim}
use Rattle.rules.specs.declared.orders.Part.{Part}
use Rattle.rules.specs.declared.phases.Step.{Step}
use Rattle.rules.specs.Lists.{sum_of}
use Rattle.rules.specs.Books.{part, queue, Level, Queue}
use Rattle.rules.specs.Quantities.{claims}
use Rattle.rules.specs.Changes.{lowered}
use Rattle.rules.specs.Trading.{rows_of, dealing_shares, step_shares, taken, setter_shares}
use Rattle.rules.specs.OrderLaw.{of_step}
use Rattle.rules.specs.Invariants.{SoundQueue}
use Rattle.rules.proofs.Amounts.{AtMost, within_at_most}
use Rattle.allocation.proofs.InOrder.{Under, in_order_under, sum_in_order}
use Rattle.rules.proofs.Trades.{lowered_none}

abbrev pub amount : List Part → ℕ
amount = sum_of (λ p. p.quantity)

pub at_most_amount : (ps : List Part) (xs : List ℕ) → AtMost xs ps → sum xs ≤ amount ps
at_most_amount ps [] h = omega arith
at_most_amount [] (x ∷ xs) h = absurd h
at_most_amount (p ∷ ps) (x ∷ xs) h = omega (arith, h.0, at_most_amount ps xs h.1)

pub record Stage (q : ℕ) (ps : List Part) (xs : List ℕ) (left : ℕ) : Type 0 where
  pub at_most : AtMost xs ps
  pub spent : q ≡ sum xs + left
  pub full : 0 < left → sum xs ≡ amount ps

-- ## The marked parts among all

abbrev mask : List Part → List ℕ
mask = map (λ p. cond p.marked p.quantity 0)

abbrev picked : List Part → List ℕ → List ℕ
picked [] xs = []
picked (p ∷ ps) [] = []
picked (p ∷ ps) (x ∷ xs) = cond p.marked (x ∷ picked ps xs) (picked ps xs)

picked_at_most : (ps : List Part) (xs : List ℕ) → Under xs (mask ps) → AtMost (picked ps xs) (filter (λ p. p.marked) ps)
picked_at_most [] xs h = tt
picked_at_most (p ∷ ps) [] h = absurd h
picked_at_most (p ∷ ps) (x ∷ xs) h = go p.marked h.0 (picked_at_most ps xs h.1)
  where
    go : (t : Bool) → x ≤ cond t p.quantity 0 → AtMost (picked ps xs) (filter (λ p. p.marked) ps) → AtMost (cond t (x ∷ picked ps xs) (picked ps xs)) (cond t (p ∷ filter (λ p. p.marked) ps) (filter (λ p. p.marked) ps))
    go true l ih = (l, ih)
    go false l ih = ih

picked_sum : (ps : List Part) (xs : List ℕ) → Under xs (mask ps) → sum (picked ps xs) ≡ sum xs
picked_sum [] [] h = refl
picked_sum [] (x ∷ xs) h = absurd h
picked_sum (p ∷ ps) [] h = absurd h
picked_sum (p ∷ ps) (x ∷ xs) h = let a = h.0 in let ih = picked_sum ps xs h.1 in grind arith

picked_rows : (a v : ℕ) (ps : List Part) (xs : List ℕ) → Under xs (mask ps) → rows_of Step.Setter a v (filter (λ p. p.marked) ps) (picked ps xs) ≡ rows_of Step.Setter a v ps xs
picked_rows a v [] xs h = refl
picked_rows a v (p ∷ ps) [] h = absurd h
picked_rows a v (p ∷ ps) (x ∷ xs) h = go p.marked h.0 (picked_rows a v ps xs h.1)
  where
    go : (t : Bool) → x ≤ cond t p.quantity 0 → rows_of Step.Setter a v (filter (λ p. p.marked) ps) (picked ps xs) ≡ rows_of Step.Setter a v ps xs
        → rows_of Step.Setter a v (cond t (p ∷ filter (λ p. p.marked) ps) (filter (λ p. p.marked) ps)) (cond t (x ∷ picked ps xs) (picked ps xs)) ≡ rows_of Step.Setter a v (p ∷ ps) (x ∷ xs)
    go true l ih = rw ih
    go false l ih = let z : x ≡ 0 = omega arith in rw z ih

mask_amount : (ps : List Part) → sum (mask ps) ≡ amount (filter (λ p. p.marked) ps)
mask_amount [] = refl
mask_amount (p ∷ ps) = let ih = mask_amount ps in grind arith

sum_under : (xs ys : List ℕ) → Under xs ys → sum xs ≤ sum ys
sum_under [] [] h = omega arith
sum_under [] (y ∷ ys) h = absurd h
sum_under (x ∷ xs) [] h = absurd h
sum_under (x ∷ xs) (y ∷ ys) h = omega (arith, h.0, sum_under xs ys h.1)

-- if all marked parts are wholly taken, the others are left as they were
rest_after : (ps : List Part) (xs : List ℕ) → AllByRecursion (λ p. 0 < p.quantity) ps → Under xs (mask ps) → sum xs ≡ sum (mask ps) → lowered ps xs ≡ filter (λ p. not p.marked) ps
rest_after [] xs pos h e = refl
rest_after (p ∷ ps) [] pos h e = absurd h
rest_after (p ∷ ps) (x ∷ xs) pos h e =
    let le = sum_under xs (mask ps) h.1 in
    let here = h.0 in
    go p.marked (omega arith) pos.0 (rest_after ps xs pos.1 h.1 (omega arith))
  where
    go : (t : Bool) → x ≡ cond t p.quantity 0 → 0 < p.quantity → lowered ps xs ≡ filter (λ p. not p.marked) ps
        → cond (leb p.quantity x) (lowered ps xs) (part p.order p.participant (p.quantity - x) p.marked ∷ lowered ps xs) ≡ cond (not t) (p ∷ filter (λ p. not p.marked) ps) (filter (λ p. not p.marked) ps)
    go true z some ih = let l : leb p.quantity x ≡ true = le-leb p.quantity x (omega arith) in rw l ih
    go false z some ih =
        let l : leb p.quantity x ≡ false = lt-leb p.quantity x (omega arith) in
        let m : p.quantity - x ≡ p.quantity = omega arith in
        rw (l, m, ih)

-- ## Each step

pub rows_none : (s : Step) (a v : ℕ) (ps : List Part) → rows_of s a v ps [] ≡ []
rows_none s a v [] = refl
rows_none s a v (p ∷ ps) = refl

-- a step's own parts P: what it deals on is those, while there is quantity
pub record Stepped (s : Step) (a v q : ℕ) (qs ps : List Part) (d : List ℕ) : Type 0 where
  pub xs : List ℕ
  pub stage : Stage q ps xs (q - sum d)
  pub same_rows : rows_of s a v qs d ≡ rows_of s a v ps xs

claimed : (ps : List Part) → total (claims ps) ≡ amount ps
claimed [] = refl
claimed (p ∷ ps) = omega (arith, claimed ps)

none_left : (q : ℕ) → Stage q [] [] (q - 0)
none_left q = record { at_most = tt; spent = omega arith; full = λ _. refl }

spent_up : (ps : List Part) → Stage 0 ps [] 0
spent_up ps = record { at_most = tt; spent = refl; full = λ h. absurd (never h) }
  where
    never : 0 < 0 → ⊥
    never h = omega arith

pub deal_stage : (deal : Deal) → Lawful deal → (lot q : ℕ) (w : Wheel) (ps : List Part) → SoundQueue lot (queue ps w) → Stage q ps (dealing_shares deal lot q w ps).shares (q - sum (dealing_shares deal lot q w ps).shares)
deal_stage deal D lot q w [] h = record { at_most = tt; spent = omega arith; full = λ _. refl }
deal_stage deal D lot q w (p ∷ ps) h =
    let cs : List Claim = claims (p ∷ ps) in
    let sm = (D q w lot cs h.seated).all in
    let cl = claimed (p ∷ ps) in
    record { at_most = within_at_most (deal q w lot cs).shares (p ∷ ps) (D q w lot cs h.seated).within; spent = omega arith; full = λ some. omega arith }

module _ (deal : Deal) (D : Lawful deal) (lot a : ℕ) where
  pub hidden_step : (q : ℕ) (l : Level) (ps : List Part) → SoundQueue lot l.hidden → l.hidden.parts ≡ ps → Stepped Step.Hidden a l.price q l.hidden.parts ps (step_shares deal lot q Step.Hidden l).shares
  unfolding step_shares
  hidden_step zero l ps h e = record { xs = []; stage = spent_up ps; same_rows = rows_none Step.Hidden a l.price l.hidden.parts ∙ sym (rows_none Step.Hidden a l.price ps) }
  hidden_step (suc q) l ps h e =
      let d : List ℕ = (dealing_shares deal lot (suc q) l.hidden.wheel l.hidden.parts).shares in
      subst (λ k. Stepped Step.Hidden a l.price (suc q) l.hidden.parts k d) e
      (record { xs = d; stage = deal_stage deal D lot (suc q) l.hidden.wheel l.hidden.parts h; same_rows = refl })

  pub shown_step : (q : ℕ) (l : Level) (ps : List Part) → SoundQueue lot l.shown → (0 < q → l.shown.parts ≡ ps) → Stepped Step.Displayed a l.price q l.shown.parts ps (step_shares deal lot q Step.Displayed l).shares
  unfolding step_shares
  shown_step zero l ps h e = record { xs = []; stage = spent_up ps; same_rows = rows_none Step.Displayed a l.price l.shown.parts ∙ sym (rows_none Step.Displayed a l.price ps) }
  shown_step (suc q) l ps h e =
      let d : List ℕ = (dealing_shares deal lot (suc q) l.shown.wheel l.shown.parts).shares in
      subst (λ k. Stepped Step.Displayed a l.price (suc q) l.shown.parts k d) (e (omega arith))
      (record { xs = d; stage = deal_stage deal D lot (suc q) l.shown.wheel l.shown.parts h; same_rows = refl })

  setter_taken : (t : Bool) (q v : ℕ) (k : Queue) → SoundQueue lot k
      → (let d : List ℕ = (setter_shares t q k).shares in
      Stepped Step.Setter a v q k.parts (cond t (filter (λ p. p.marked) k.parts) []) d
      × (0 < q - sum d → lowered k.parts d ≡ cond t (filter (λ p. not p.marked) k.parts) k.parts))
  setter_taken false q v k h = (record { xs = []; stage = none_left q; same_rows = rows_none Step.Setter a v k.parts }, λ _. lowered_none k.parts)
  setter_taken true q v k h =
      let xs : List ℕ = shares_in_order q (mask k.parts) in
      let u : Under xs (mask k.parts) = in_order_under q (mask k.parts) in
      let sm = sum_in_order q (mask k.parts) in
      let pk = picked_sum k.parts xs u in
      let am = mask_amount k.parts in (
        record {
          xs = picked k.parts xs;
          stage = record { at_most = picked_at_most k.parts xs u; spent = omega arith; full = λ some. omega arith };
          same_rows = sym (picked_rows a v k.parts xs u);
        },
        λ some. rest_after k.parts xs h.positive u (omega arith),
      )

  -- step S on parts that are still as they were
  pub setter_step : (q : ℕ) (l m : Level) → SoundQueue lot m.shown → m.shown.parts ≡ l.shown.parts
      → (let d : List ℕ = (step_shares deal lot q Step.Setter m).shares in
      Stepped Step.Setter a m.price q m.shown.parts (of_step true lot Step.Setter l) d
      × (0 < q - sum d → lowered m.shown.parts d ≡ of_step true lot Step.Displayed l))
  unfolding step_shares
  setter_step zero l m h e = (
    record { xs = []; stage = spent_up (of_step true lot Step.Setter l); same_rows = rows_none Step.Setter a m.price m.shown.parts ∙ sym (rows_none Step.Setter a m.price (of_step true lot Step.Setter l)) },
    λ some. (let no_way : ⊥ = omega arith in absurd no_way),
  )
  setter_step (suc q) l m h e =
      let d : List ℕ = (setter_shares (taken lot m) (suc q) m.shown).shares in
      subst (λ ps. Stepped Step.Setter a m.price (suc q) m.shown.parts (cond (leb lot (amount ps)) (filter (λ p. p.marked) ps) []) d
      × (0 < suc q - sum d → lowered m.shown.parts d ≡ cond (leb lot (amount ps)) (filter (λ p. not p.marked) ps) ps)) e
      (setter_taken (taken lot m) (suc q) m.price m.shown h)
