-- What holds of each level of a side stays so through trading, taking off and unmarking, if each of their steps keeps it. Assumes nothing.
use Rattle.std.proofs.Common.{ℕ, ◌-◌, ◌<◌, min, Bool, true, false, List, [], ◌∷◌, map, arith}
use Rattle.std.specs.List.{AllByRecursion}
use Rattle.allocation.specs.Wheels.{Wheel}
use Rattle.allocation.specs.ByTime.{shares_in_order}
use Rattle.allocation.specs.Dealings.{Deal, Dealt, sum}
use Rattle.rules.specs.declared.orders.Side.{Side}
use Rattle.rules.specs.declared.orders.Order.{Order}
use Rattle.rules.specs.declared.orders.Part.{Part}
use Rattle.rules.specs.declared.phases.Step.{Step}
use Rattle.rules.specs.Lists.{last_alone}
use Rattle.rules.specs.Books.{Level, queue, part, level}
use Rattle.rules.specs.Quantities.{of_level, pieces, of_order}
use Rattle.rules.specs.Changes.{lowered}
use Rattle.rules.specs.TakingOff.{take_off_level, take_off_side}
use Rattle.rules.specs.Trading.{with_queue, queue_of, trade_price, step_shares, trade_reached, trade_side}
use Rattle.rules.specs.Reserve.{join_hidden, show_anew}
use Rattle.rules.specs.Invariants.{Orderly}
use Rattle.rules.proofs.Renewed.{joined_by, anew_by}
use Rattle.rules.proofs.Parts.{Steady, all_lowered, raised_all, lose_all, put_all, unmark_all}
use Rattle.rules.proofs.Levels.{low_hides}
use Rattle.rules.proofs.Orderly.{orderly_lowered, orderly_lost}

abbrev pub after_step : Step → List ℕ → Wheel → Level → Level
after_step t xs w l = with_queue t (queue (lowered (queue_of t l).parts xs) w) l

module _ (Q : Level → Type 0) where
  pub each_price : ((t : Step) (xs : List ℕ) (w : Wheel) (l : Level) → Q l → Q (after_step t xs w l))
      → (deal : Deal) (lot a : ℕ) (ss : List Step) (q : ℕ) (l : Level) → Q l → Q (trade_price deal lot a ss q l).rest
  unfolding trade_price
  each_price step deal lot a [] q l h = h
  each_price step deal lot a (s ∷ ss) q l h =
      let d : Dealt = step_shares deal lot q s l in
      each_price step deal lot a ss (q - sum d.shares) (after_step s d.shares d.wheel l) (step s d.shares d.wheel l h)

  each_reached : ((t : Step) (xs : List ℕ) (w : Wheel) (l : Level) → Q l → Q (after_step t xs w l))
      → (deal : Deal) (lot a : ℕ) (ss : List Step) (t : Bool) (q : ℕ) (l : Level) → Q l → Q (trade_reached deal lot a ss t q l).rest
  each_reached step deal lot a ss true q l h = each_price step deal lot a ss q l h
  each_reached step deal lot a ss false q l h = h

  pub each_traded : ((t : Step) (xs : List ℕ) (w : Wheel) (l : Level) → Q l → Q (after_step t xs w l))
      → (deal : Deal) (lot a : ℕ) (ss : List Step) (reaches : ℕ → Bool) (q : ℕ) (ls : List Level) → AllByRecursion Q ls → AllByRecursion Q (trade_side deal lot a ss reaches q ls).rest
  unfolding trade_side
  each_traded step deal lot a ss reaches q [] h = tt
  each_traded step deal lot a ss reaches q (l ∷ ls) h =
      (each_reached step deal lot a ss (reaches l.price) q l h.0, each_traded step deal lot a ss reaches (trade_reached deal lot a ss (reaches l.price) q l).left ls h.1)

  pub each_taken : ((n m : ℕ) (l : Level) → Q l → Q (take_off_level n m l)) → (n m : ℕ) (ls : List Level) → AllByRecursion Q ls → AllByRecursion Q (take_off_side n m ls)
  unfolding take_off_side
  each_taken step n m [] h = tt
  each_taken step n m (l ∷ ls) h = (step n m l h.0, each_taken step n (m - of_level n l) ls h.1)

  pub each_mapped : (f : Level → Level) → ((l : Level) → Q l → Q (f l)) → (ls : List Level) → AllByRecursion Q ls → AllByRecursion Q (map f ls)
  each_mapped f step [] h = tt
  each_mapped f step (l ∷ ls) h = (step l h.0, each_mapped f step ls h.1)

-- ## Orderly levels

pub orderly_step : (es : List Order) (s : Side) (t : Step) (xs : List ℕ) (w : Wheel) (l : Level) → Orderly es s l → Orderly es s (after_step t xs w l)
orderly_step es s Step.Setter xs w l o = (orderly_lowered es s l.price 1 2 l.shown.parts xs o.0, o.1)
orderly_step es s Step.Displayed xs w l o = (orderly_lowered es s l.price 1 2 l.shown.parts xs o.0, o.1)
orderly_step es s Step.Hidden xs w l o = (o.0, orderly_lowered es s l.price 0 1 l.hidden.parts xs o.1)

pub orderly_taken : (es : List Order) (s : Side) (n m : ℕ) (l : Level) → Orderly es s l → Orderly es s (take_off_level n m l)
unfolding take_off_level
orderly_taken es s n m l o = (orderly_lost es s l.price 1 2 _ l.shown o.0, orderly_lost es s l.price 0 1 _ l.hidden o.1)

-- ## Prices with parts

-- P holds of the price of every level that has a part
abbrev pub Held : (ℕ → Type 0) → Level → Type 0
Held P l = AllByRecursion (λ (_ : Part). P l.price) l.shown.parts × AllByRecursion (λ (_ : Part). P l.price) l.hidden.parts

held_steady : (P : ℕ → Type 0) (v : ℕ) → Steady (λ _. P v)
held_steady P v x y o h m = m

pub held_step : (P : ℕ → Type 0) (t : Step) (xs : List ℕ) (w : Wheel) (l : Level) → Held P l → Held P (after_step t xs w l)
held_step P Step.Setter xs w l h = (all_lowered (λ _. P l.price) (held_steady P l.price) l.shown.parts xs h.0, h.1)
held_step P Step.Displayed xs w l h = (all_lowered (λ _. P l.price) (held_steady P l.price) l.shown.parts xs h.0, h.1)
held_step P Step.Hidden xs w l h = (h.0, all_lowered (λ _. P l.price) (held_steady P l.price) l.hidden.parts xs h.1)

pub held_taken : (P : ℕ → Type 0) (n m : ℕ) (l : Level) → Held P l → Held P (take_off_level n m l)
unfolding take_off_level
held_taken P n m l h = (lose_all (λ _. P l.price) (held_steady P l.price) _ l.shown h.0, lose_all (λ _. P l.price) (held_steady P l.price) _ l.hidden h.1)

pub held_unmarked : (P : ℕ → Type 0) (l : Level) → Held P l → Held P (level l.price (queue (map (λ p. part p.order p.participant p.quantity false) l.shown.parts) l.shown.wheel) l.hidden)
held_unmarked P l h = (unmark_all (λ _. P l.price) (held_steady P l.price) l.shown.parts h.0, h.1)

pub held_joined : (P : ℕ → Type 0) (lot n : ℕ) (l : Level) → Held P l → Held P (join_hidden lot n l)
held_joined P lot n l h =
    let xs : List ℕ = last_alone (pieces n l.shown.parts) in
    joined_by (Held P) lot n l h (λ _. (lose_all (λ _. P l.price) (held_steady P l.price) xs l.shown h.0, raised_all (λ _. P l.price) (held_steady P l.price) n (sum xs) l.hidden.parts h.1))

-- some part has what all parts have
pub of_some : (X : Type 0) (n : ℕ) (ps : List Part) → 0 < of_order n ps → AllByRecursion (λ (_ : Part). X) ps → X
of_some X n [] h a = let no_way : ⊥ = omega arith in absurd no_way
of_some X n (p ∷ ps) h a = a.0

pub held_shown_anew : (P : ℕ → Type 0) (lot : ℕ) (e : Order) (mark : Bool) (l : Level) → Held P l → Held P (show_anew lot e mark l)
held_shown_anew P lot e mark l h =
    let q : ℕ = min e.display (of_order e.number l.hidden.parts) in
    anew_by (Held P) lot e mark l (λ _. h) (λ low. (
      put_all (λ _. P l.price) (part e.number e.participant q mark) l.shown h.0 (of_some (P l.price) e.number l.hidden.parts (low_hides lot e.number l low) h.1),
      lose_all (λ _. P l.price) (held_steady P l.price) (shares_in_order q (pieces e.number l.hidden.parts)) l.hidden h.1,
    ))
