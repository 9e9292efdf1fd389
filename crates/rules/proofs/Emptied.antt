-- Where something is left over, every price in reach is traded out. Assumes nothing.
use Rattle.std.proofs.Common.{◌≡◌, ℕ, zero, suc, ◌-◌, ◌<◌, ◌≤◌, Bool, true, false, ◌||◌, leb, List, [], ◌∷◌, sym, refl, ap, subst, arith}
use mathlib.Core.Bool.{false≢true}
use Rattle.std.specs.List.{AllByRecursion}
use Rattle.std.proofs.lemmas.Bool.{le-leb}
use Rattle.allocation.specs.Wheels.{Wheel}
use Rattle.allocation.specs.Dealings.{sum, Deal, Lawful, Dealt}
use Rattle.rules.specs.declared.orders.Category.{Category}
use Rattle.rules.specs.declared.orders.Part.{Part}
use Rattle.rules.specs.declared.phases.Step.{Step}
use Rattle.rules.specs.Books.{Level}
use Rattle.rules.specs.Changes.{lowered}
use Rattle.rules.specs.Trading.{step_shares, dealing_shares, trade_price, trade_reached, trade_side, Traded}
use Rattle.rules.specs.Tables.{same_step, has_step}
use Rattle.rules.specs.LeadLaw.{queue_in}
use Rattle.rules.specs.Invariants.{SoundLevel}
use Rattle.rules.proofs.Amounts.{AtMost}
use Rattle.rules.proofs.Trades.{fair_shares, with_good}
use Rattle.rules.proofs.Stages.{amount, at_most_amount, Stage, deal_stage}
use Rattle.rules.proofs.Crossing.{same_step_is}
use Rattle.rules.proofs.Members.{always}
use Rattle.rules.proofs.Walks.{after_step, each_price, Held}

no_amount : (ps : List Part) → AllByRecursion (λ p. 0 < p.quantity) ps → amount ps ≡ 0 → ps ≡ []
no_amount [] pos h = refl
no_amount (p ∷ ps) pos h = let no_way : ⊥ = omega (arith, pos.0) in absurd no_way

-- parts that lose all they have are gone
all_lost : (ps : List Part) (xs : List ℕ) → AllByRecursion (λ p. 0 < p.quantity) ps → AtMost xs ps → sum xs ≡ amount ps → lowered ps xs ≡ []
all_lost [] xs pos h e = refl
all_lost (p ∷ ps) [] pos h e = no_amount (p ∷ ps) pos (sym e)
all_lost (p ∷ ps) (x ∷ xs) pos h e =
    let le = at_most_amount ps xs h.1 in
    let here = h.0 in
    let t : leb p.quantity x ≡ true = le-leb p.quantity x (omega arith) in
    rw t (all_lost ps xs pos.1 h.1 (omega arith))

-- the step that deals with a category
abbrev step_of : Category → Step
step_of Category.Displayed = Step.Displayed
step_of Category.Hidden = Step.Hidden

gone_step : (c : Category) (t : Step) (xs : List ℕ) (w : Wheel) (l : Level) → (queue_in c l).parts ≡ [] → (queue_in c (after_step t xs w l)).parts ≡ []
gone_step Category.Displayed Step.Setter xs w l h = ap (λ ps. lowered ps xs) h
gone_step Category.Displayed Step.Displayed xs w l h = ap (λ ps. lowered ps xs) h
gone_step Category.Displayed Step.Hidden xs w l h = h
gone_step Category.Hidden Step.Setter xs w l h = h
gone_step Category.Hidden Step.Displayed xs w l h = h
gone_step Category.Hidden Step.Hidden xs w l h = ap (λ ps. lowered ps xs) h

module _ (deal : Deal) (D : Lawful deal) (lot a : ℕ) where
  -- its own step takes all, if something is left
  own_step : (c : Category) (q : ℕ) (l : Level) → SoundLevel lot l → (let d : Dealt = step_shares deal lot q (step_of c) l in 0 < q - sum d.shares → (queue_in c (after_step (step_of c) d.shares d.wheel l)).parts ≡ [])
  unfolding step_shares
  own_step Category.Displayed zero l g some = let no_way : ⊥ = omega arith in absurd no_way
  own_step Category.Displayed (suc q) l g some =
      let st : Stage (suc q) l.shown.parts (dealing_shares deal lot (suc q) l.shown.wheel l.shown.parts).shares (suc q - sum (dealing_shares deal lot (suc q) l.shown.wheel l.shown.parts).shares) = deal_stage deal D lot (suc q) l.shown.wheel l.shown.parts g.0 in
      all_lost l.shown.parts (dealing_shares deal lot (suc q) l.shown.wheel l.shown.parts).shares g.0.positive st.at_most (st.full some)
  own_step Category.Hidden zero l g some = let no_way : ⊥ = omega arith in absurd no_way
  own_step Category.Hidden (suc q) l g some =
      let st : Stage (suc q) l.hidden.parts (dealing_shares deal lot (suc q) l.hidden.wheel l.hidden.parts).shares (suc q - sum (dealing_shares deal lot (suc q) l.hidden.wheel l.hidden.parts).shares) = deal_stage deal D lot (suc q) l.hidden.wheel l.hidden.parts g.1 in
      all_lost l.hidden.parts (dealing_shares deal lot (suc q) l.hidden.wheel l.hidden.parts).shares g.1.positive st.at_most (st.full some)

  price_left : (ss : List Step) (q : ℕ) (l : Level) → (trade_price deal lot a ss q l).left ≤ q
  unfolding trade_price
  price_left [] q l = omega arith
  price_left (s ∷ ss) q l =
      let d : Dealt = step_shares deal lot q s l in
      omega (arith, price_left ss (q - sum d.shares) (after_step s d.shares d.wheel l))

  price_emptied : (c : Category) (ss : List Step) (q : ℕ) (l : Level) → SoundLevel lot l → has_step (step_of c) ss ≡ true → 0 < (trade_price deal lot a ss q l).left → (queue_in c (trade_price deal lot a ss q l).rest).parts ≡ []
  unfolding trade_price
  price_emptied c [] q l g h some = absurd (false≢true h)
  price_emptied c (s ∷ ss) q l g h some = go (same_step s (step_of c)) refl h (price_emptied c ss (q - sum d.shares) m (with_good lot s _ l (fair_shares deal D lot q s l g).sound g))
    where
      d : Dealt
      d = step_shares deal lot q s l

      m : Level
      m = after_step s d.shares d.wheel l

      go : (t : Bool) → same_step s (step_of c) ≡ t → (t || has_step (step_of c) ss) ≡ true
          → (has_step (step_of c) ss ≡ true → 0 < (trade_price deal lot a ss (q - sum d.shares) m).left → (queue_in c (trade_price deal lot a ss (q - sum d.shares) m).rest).parts ≡ [])
          → (queue_in c (trade_price deal lot a ss (q - sum d.shares) m).rest).parts ≡ []
      go true e h ih =
          let own : (queue_in c m).parts ≡ [] =
          subst (λ s. (let d : Dealt = step_shares deal lot q s l in 0 < q - sum d.shares → (queue_in c (after_step s d.shares d.wheel l)).parts ≡ [])) (sym (same_step_is s (step_of c) e)) (own_step c q l g) (omega (arith, price_left ss (q - sum d.shares) m)) in
          each_price (λ l. (queue_in c l).parts ≡ []) (gone_step c) deal lot a ss (q - sum d.shares) m own
      go false e h ih = ih h some

  reached_left : (ss : List Step) (t : Bool) (q : ℕ) (l : Level) → (trade_reached deal lot a ss t q l).left ≤ q
  reached_left ss true q l = price_left ss q l
  reached_left ss false q l = omega arith

  side_left : (ss : List Step) (reaches : ℕ → Bool) (q : ℕ) (ls : List Level) → (trade_side deal lot a ss reaches q ls).left ≤ q
  unfolding trade_side
  side_left ss reaches q [] = omega arith
  side_left ss reaches q (l ∷ ls) = omega (arith, reached_left ss (reaches l.price) q l, side_left ss reaches (trade_reached deal lot a ss (reaches l.price) q l).left ls)

  -- a price with a part left is out of reach
  pub side_emptied : (ss : List Step) → has_step Step.Displayed ss ≡ true → has_step Step.Hidden ss ≡ true → (reaches : ℕ → Bool) (q : ℕ) (ls : List Level) → AllByRecursion (SoundLevel lot) ls
      → 0 < (trade_side deal lot a ss reaches q ls).left → AllByRecursion (Held (λ w. reaches w ≡ false)) (trade_side deal lot a ss reaches q ls).rest
  unfolding trade_side
  side_emptied ss hd hh reaches q [] g some = tt
  side_emptied ss hd hh reaches q (l ∷ ls) g some =
      let r : Traded Level = trade_reached deal lot a ss (reaches l.price) q l in
      (here (reaches l.price) refl (omega (arith, side_left ss reaches r.left ls)), side_emptied ss hd hh reaches r.left ls g.1 some)
    where
      nobody : (X : Type 0) (ps : List Part) → ps ≡ [] → AllByRecursion (λ (_ : Part). X) ps
      nobody X ps e = subst (λ ps. AllByRecursion (λ (_ : Part). X) ps) (sym e) tt

      here : (t : Bool) → reaches l.price ≡ t → 0 < (trade_reached deal lot a ss t q l).left → Held (λ w. reaches w ≡ false) (trade_reached deal lot a ss t q l).rest
      here true e left = (
        nobody (reaches (trade_price deal lot a ss q l).rest.price ≡ false) (trade_price deal lot a ss q l).rest.shown.parts (price_emptied Category.Displayed ss q l g.0 hd left),
        nobody (reaches (trade_price deal lot a ss q l).rest.price ≡ false) (trade_price deal lot a ss q l).rest.hidden.parts (price_emptied Category.Hidden ss q l g.0 hh left),
      )
      here false e left = (always (reaches l.price ≡ false) l.shown.parts e, always (reaches l.price ≡ false) l.hidden.parts e)
