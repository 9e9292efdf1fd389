-- Where nothing traded no reserve is replenished. Assumes nothing.
use Rattle.std.proofs.Common.{◌≡◌, ℕ, ◌-◌, ◌<◌, min, Bool, true, false, cond, not, ◌&&◌, ◌||◌, eqb, ltb, List, [], ◌∷◌, ◌++◌, length, fold, sym, refl, ap, ◌∙◌, subst, arith}
use mathlib.Core.Bool.{false≢true}
use Rattle.std.specs.List.{AllByRecursion}
use Rattle.std.proofs.lemmas.Bool.{eqb-true, lt-leb}
use Rattle.allocation.specs.Dealings.{Deal, Dealt, sum}
use Rattle.rules.specs.declared.orders.Side.{Side}
use Rattle.rules.specs.declared.orders.Side.TheVariants.{Buy, Sell}
use Rattle.rules.specs.declared.orders.Order.{Order}
use Rattle.rules.specs.declared.orders.Part.{Part}
use Rattle.rules.specs.declared.phases.Step.{Step}
use Rattle.rules.specs.declared.answers.Row.TheVariants.{Trade}
use Rattle.rules.specs.Lists.{has}
use Rattle.rules.specs.Marks.{quoted}
use Rattle.rules.specs.Books.{Queue, Level, Ranking, Book, part, queue, side, away, with_side, good, better, nothing_at}
use Rattle.rules.specs.Quantities.{of_order}
use Rattle.rules.specs.Changes.{lowered, on_price}
use Rattle.rules.specs.Trading.{Traded, rows_of, queue_of, with_queue, step_shares, trade_price, trade_reached, trade_side}
use Rattle.rules.specs.Reserve.{is_reserve, runs_low, join_hidden, show_anew, hidden_of, replenish_order}
use Rattle.rules.specs.Invariants.{BestFirst, SoundLevel, prices}
use Rattle.resting.specs.Earned.{earned}
use Rattle.resting.specs.Replenished.{joined}
use Rattle.resting.proofs.Low.{join_none, show_none}
use Rattle.matching.proofs.Renewing.{renewed_is, not_renewed}

-- ## Parts without a row

append_none : {X : Type 0} (xs ys : List X) → xs ++ ys ≡ [] → (xs ≡ []) × (ys ≡ [])
append_none [] ys h = (refl, h)
append_none (x ∷ xs) ys h = absurd (omega (arith, ap length h))

quiet_parts : (s : Step) (a v : ℕ) (ps : List Part) (xs : List ℕ) → AllByRecursion (λ p. 0 < p.quantity) ps → rows_of s a v ps xs ≡ [] → lowered ps xs ≡ ps
quiet_parts s a v [] xs pos h = refl
quiet_parts s a v (p ∷ ps) [] pos h = refl
quiet_parts s a v (p ∷ ps) (x ∷ xs) pos h = go (eqb x 0) refl (quiet_parts s a v ps xs pos.1) h
  where
    go : (t : Bool) → eqb x 0 ≡ t → (rows_of s a v ps xs ≡ [] → lowered ps xs ≡ ps) → cond t (rows_of s a v ps xs) (Trade s p.order a v x ∷ rows_of s a v ps xs) ≡ [] → lowered (p ∷ ps) (x ∷ xs) ≡ p ∷ ps
    go true e ih h =
        let none : x ≡ 0 = eqb-true x 0 e in
        let same : p.quantity - x ≡ p.quantity = omega arith in
        rw (lt-leb p.quantity x (omega (arith, pos.0)))
        (ap (λ n. part p.order p.participant n p.marked ∷ lowered ps xs) same ∙ ap (λ l. p ∷ l) (ih h))
    go false e ih h = absurd (omega (arith, ap length h))

-- ## Levels without a row

-- the same price and parts
record Alike (l m : Level) : Type 0 where
  price : m.price ≡ l.price
  shown : m.shown.parts ≡ l.shown.parts
  hidden : m.hidden.parts ≡ l.hidden.parts

abbrev Full : Level → Type 0
Full l = AllByRecursion (λ p. 0 < p.quantity) l.shown.parts × AllByRecursion (λ p. 0 < p.quantity) l.hidden.parts

full_queue : (s : Step) (l : Level) → Full l → AllByRecursion (λ p. 0 < p.quantity) (queue_of s l).parts
full_queue Step.Setter l f = f.0
full_queue Step.Displayed l f = f.0
full_queue Step.Hidden l f = f.1

queue_alike : (s : Step) (k : Queue) (l : Level) → k.parts ≡ (queue_of s l).parts → Alike l (with_queue s k l)
queue_alike Step.Setter k l e = record { price = refl; shown = e; hidden = refl }
queue_alike Step.Displayed k l e = record { price = refl; shown = e; hidden = refl }
queue_alike Step.Hidden k l e = record { price = refl; shown = refl; hidden = e }

full_alike : (l m : Level) → Alike l m → Full l → Full m
full_alike l m a f = (subst (AllByRecursion (λ p. 0 < p.quantity)) (sym a.shown) f.0, subst (AllByRecursion (λ p. 0 < p.quantity)) (sym a.hidden) f.1)

module _ (deal : Deal) (lot arriving : ℕ) where
  quiet_price : (ss : List Step) (q : ℕ) (l : Level) → Full l → (trade_price deal lot arriving ss q l).rows ≡ [] → Alike l (trade_price deal lot arriving ss q l).rest
  unfolding trade_price
  quiet_price [] q l f h = record { price = refl; shown = refl; hidden = refl }
  quiet_price (s ∷ ss) q l f h =
      let d : Dealt = step_shares deal lot q s l in
      let k : Queue = queue_of s l in
      let m : Level = with_queue s (queue (lowered k.parts d.shares) d.wheel) l in
      let r : Traded Level = trade_price deal lot arriving ss (q - sum d.shares) m in
      let none = append_none (rows_of s arriving l.price k.parts d.shares) r.rows h in
      let a : Alike l m = queue_alike s (queue (lowered k.parts d.shares) d.wheel) l (quiet_parts s arriving l.price k.parts d.shares (full_queue s l f) none.0) in
      let b : Alike m r.rest = quiet_price ss (q - sum d.shares) m (full_alike l m a f) none.1 in
      record { price = b.price ∙ a.price; shown = b.shown ∙ a.shown; hidden = b.hidden ∙ a.hidden }

  quiet_reached : (ss : List Step) (t : Bool) (q : ℕ) (l : Level) → Full l → (trade_reached deal lot arriving ss t q l).rows ≡ [] → Alike l (trade_reached deal lot arriving ss t q l).rest
  quiet_reached ss true q l f h = quiet_price ss q l f h
  quiet_reached ss false q l f h = record { price = refl; shown = refl; hidden = refl }

  pub quiet_low : (k n : ℕ) (ss : List Step) (reaches : ℕ → Bool) (q : ℕ) (ls : List Level) → AllByRecursion (SoundLevel lot) ls → (trade_side deal lot arriving ss reaches q ls).rows ≡ [] → AllByRecursion (λ l. runs_low k n l ≡ false) ls → AllByRecursion (λ l. runs_low k n l ≡ false) (trade_side deal lot arriving ss reaches q ls).rest
  unfolding trade_side
  quiet_low k n ss reaches q [] g h low = tt
  quiet_low k n ss reaches q (l ∷ ls) g h low =
      let r : Traded Level = trade_reached deal lot arriving ss (reaches l.price) q l in
      let none = append_none r.rows (trade_side deal lot arriving ss reaches r.left ls).rows h in
      let a : Alike l r.rest = quiet_reached ss (reaches l.price) q l (g.0.0.positive, g.0.1.positive) none.0 in (
        ap (λ ps. ltb (of_order n ps) k && ltb 0 (of_order n r.rest.hidden.parts)) a.shown ∙ ap (λ ps. ltb (of_order n l.shown.parts) k && ltb 0 (of_order n ps)) a.hidden ∙ low.0,
        quiet_low k n ss reaches r.left ls g.1 none.1 low.1,
      )

-- ## A change that changes nothing

has_all : (P : ℕ → Type 0) (v : ℕ) (vs : List ℕ) → AllByRecursion P vs → has v vs ≡ true → P v
has_all P v [] a h = absurd (false≢true h)
has_all P v (w ∷ vs) a h = go (eqb w v) refl (has_all P v vs a.1) h
  where
    go : (t : Bool) → eqb w v ≡ t → (has v vs ≡ true → P v) → (t || has v vs) ≡ true → P v
    go true e ih h = subst P (eqb-true w v e) a.0
    go false e ih h = ih h

module _ (rank : Ranking) (s : Side) where
  pub on_price_same : (v : ℕ) (f : Level → Level) (ls : List Level) → BestFirst rank s (prices ls) → has v (prices ls) ≡ true → AllByRecursion (λ l. f l ≡ l) ls → on_price rank s v f ls ≡ ls
  unfolding on_price
  on_price_same v f [] o h a = absurd (false≢true h)
  on_price_same v f (l ∷ ls) o h a = go (eqb l.price v) (good rank s v l.price) refl (λ k. on_price_same v f ls o.1 k a.1) h
    where
      go : (t u : Bool) → good rank s v l.price ≡ u → (has v (prices ls) ≡ true → on_price rank s v f ls ≡ ls) → (t || has v (prices ls)) ≡ true → cond t (f l ∷ ls) (cond u (f (nothing_at v) ∷ l ∷ ls) (l ∷ on_price rank s v f ls)) ≡ l ∷ ls
      go true u e ih h = ap (λ x. x ∷ ls) a.0
      go false true e ih h = absurd (no_way (has_all (λ w. better rank s l.price w ≡ true) v (prices ls) o.0 h))
        where
          no_way : not (good rank s v l.price) ≡ true → ⊥
          no_way k = false≢true (sym (ap not e) ∙ k)
      go false false e ih h = ap (λ xs. l ∷ xs) (ih h)

each_same : (f : Level → Level) (t : Level → Bool) → ((l : Level) → t l ≡ false → f l ≡ l) → (ls : List Level) → AllByRecursion (λ l. t l ≡ false) ls → AllByRecursion (λ l. f l ≡ l) ls
each_same f t step [] a = tt
each_same f t step (l ∷ ls) a = (step l a.0, each_same f t step ls a.1)

same_side_as : (s : Side) (b : Book) → with_side s (side s b) b ≡ b
same_side_as Buy b = refl
same_side_as Sell b = refl

-- an order that does not run low stays as it is
pub unchanged : (rank : Ranking) (b : Book) (e : Order) → BestFirst rank e.side (prices (side e.side b)) → has e.price (prices (side e.side b)) ≡ true
    → (is_reserve e.kind ≡ true → AllByRecursion (λ l. runs_low b.lot e.number l ≡ false) (side e.side b)) → replenish_order rank b e ≡ b
unchanged rank b e o h low = go (is_reserve e.kind) refl
  where
    ls : List Level
    ls = side e.side b

    lot : ℕ
    lot = b.lot

    go : (t : Bool) → is_reserve e.kind ≡ t → replenish_order rank b e ≡ b
    go true r =
        let js : List Level = joined rank lot e ls in
        let mark : Bool = earned rank e.side e.price (min e.display (hidden_of e.number js)) lot (quoted (away e.side b)) js in
        let one : js ≡ ls = on_price_same rank e.side e.price (join_hidden lot e.number) ls o h (each_same (join_hidden lot e.number) (runs_low lot e.number) (join_none lot e.number) ls (low r)) in
        let two : on_price rank e.side e.price (show_anew lot e mark) ls ≡ ls = on_price_same rank e.side e.price (show_anew lot e mark) ls o h (each_same (show_anew lot e mark) (runs_low lot e.number) (show_none lot e mark) ls (low r)) in
        renewed_is rank b e r ∙ ap (λ xs. with_side e.side xs b) (ap (on_price rank e.side e.price (show_anew lot e mark)) one ∙ two) ∙ same_side_as e.side b
    go false r = sym (not_renewed rank b e r)

pub all_unchanged : (rank : Ranking) (b : Book) (es : List Order) → AllByRecursion (λ e. replenish_order rank b e ≡ b) es → fold (replenish_order rank) b es ≡ b
all_unchanged rank b [] a = refl
all_unchanged rank b (e ∷ es) a = ap (λ x. fold (replenish_order rank) x es) a.0 ∙ all_unchanged rank b es a.1
