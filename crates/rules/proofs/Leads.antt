-- What a change of a queue does to a lead on its wheel. Assumes nothing.
use Rattle.std.proofs.Common.{◌≡◌, ℕ, zero, suc, ◌+◌, ◌-◌, ◌<◌, ◌≤◌, Bool, true, false, cond, eqb, ltb, List, [], ◌∷◌, ◌++◌, map, sym, refl, ap, ◌∙◌, subst, arith}
use Rattle.std.specs.List.{AllByRecursion}
use Rattle.std.proofs.lemmas.Bool.{eqb-true, or_parts, lt-ltb}
use Rattle.std.proofs.lemmas.Bool.Decides.{nat_tests}
use Rattle.allocation.specs.Wheels.{Wheel}
use Rattle.allocation.specs.ByTime.{shares_in_order}
use Rattle.allocation.specs.Dealings.{interest, share_of, sum, Dealt, parity}
use Rattle.allocation.specs.declared.claims.Claim.{Claim}
use Rattle.rules.specs.declared.orders.Category.{Category}
use Rattle.rules.specs.declared.orders.Order.{Order}
use Rattle.rules.specs.declared.orders.Part.{Part}
use Rattle.rules.specs.declared.phases.Step.{Step}
use Rattle.rules.specs.declared.answers.Row.{Row}
use Rattle.rules.specs.Lists.{sum_of, has, Distinct}
use Rattle.rules.specs.Books.{Queue, queue, Level}
use Rattle.rules.specs.Quantities.{claims}
use Rattle.rules.specs.Changes.{lose, lowered, put}
use Rattle.rules.specs.Trading.{rows_of, dealing_shares, setter_shares, step_shares, with_queue, queue_of, taken, Traded, trade_price, trade_reached, trade_side}
use Rattle.rules.specs.Reserve.{on}
use Rattle.rules.specs.LeadLaw.{owns, gained, queue_in, trades_on, deals_on, level_at}
use Rattle.rules.specs.Invariants.{SoundQueue, SoundLevel, prices}
use Rattle.rules.proofs.Ranked.{trade_reached_price}
use Rattle.rules.proofs.Amounts.{AtMost, interest_lowered}
use Rattle.rules.proofs.Trades.{fair_shares, with_good}
use Rattle.rules.proofs.Members.{sum_of_append}
use Rattle.rules.proofs.Parts.{Steady, all_lowered}
use Rattle.allocation.proofs.Slack.{slack_of, retain_slack, join_slack}
use Rattle.allocation.proofs.TurnRuns.{parity_slack}
use Rattle.allocation.specs.Turning.{parity_lawful}

-- ## Queues

pub lose_slack : (p r lot : ℕ) (xs : List ℕ) (k : Queue) → SoundQueue lot k → 0 < interest p (claims (lose xs k).parts) → slack_of p r lot k.wheel ≤ slack_of p r lot (lose xs k).wheel
unfolding lose
lose_slack p r lot xs k s h =
    retain_slack p r lot (λ q. ltb 0 (interest q (claims (lowered k.parts xs)))) k.wheel (omega (arith, s.seated.once r)) s.seated.below (lt-ltb 0 (interest p (claims (lowered k.parts xs))) h)

pub put_slack : (p r lot : ℕ) (x : Part) (k : Queue) → SoundQueue lot k → 0 < interest p (claims k.parts) → slack_of p r lot (put x k).wheel ≡ slack_of p r lot k.wheel
unfolding put
put_slack p r lot x k s h = join_slack p r lot x.participant k.wheel (omega (arith, s.seated.once p))

-- ## What rows give a participant

-- an order's parts are its participant's
abbrev pub Mine : List Order → Part → Type 0
Mine es x = (q : ℕ) → owns q es x.order ≡ eqb q x.participant

-- what parts of q get
abbrev pub got : ℕ → List Part → List ℕ → ℕ
got q ps xs = share_of q (claims ps) xs

pub interest_got : (q : ℕ) (ps : List Part) (xs : List ℕ) → AtMost xs ps → interest q (claims ps) ≡ interest q (claims (lowered ps xs)) + got q ps xs
interest_got q [] xs h = refl
interest_got q (p ∷ ps) [] h = omega arith
interest_got q (p ∷ ps) (x ∷ xs) h = let ih = interest_got q ps xs h.1 in let h0 = h.0 in grind (arith, nat_tests)

rows_got : (on : Step → Bool) (es : List Order) (q : ℕ) (s : Step) (a v : ℕ) (ps : List Part) (xs : List ℕ) → AllByRecursion (Mine es) ps → sum_of (gained on v es q) (rows_of s a v ps xs) ≡ cond (on s) (got q ps xs) 0
rows_got on es q s a v [] xs m = grind arith
rows_got on es q s a v (p ∷ ps) [] m = grind arith
rows_got on es q s a v (p ∷ ps) (x ∷ xs) m = let ih = rows_got on es q s a v ps xs m.1 in let o = m.0 q in grind (arith, nat_tests)

rows_elsewhere : (on : Step → Bool) (es : List Order) (q : ℕ) (s : Step) (a v w : ℕ) (ps : List Part) (xs : List ℕ) → eqb w v ≡ false → sum_of (gained on v es q) (rows_of s a w ps xs) ≡ 0
rows_elsewhere on es q s a v w [] xs m = refl
rows_elsewhere on es q s a v w (p ∷ ps) [] m = refl
rows_elsewhere on es q s a v w (p ∷ ps) (x ∷ xs) m = let ih = rows_elsewhere on es q s a v w ps xs m in grind arith

abbrev pub MineAt : List Order → Level → Type 0
MineAt es l = AllByRecursion (Mine es) l.shown.parts × AllByRecursion (Mine es) l.hidden.parts

pub mine_steady : (es : List Order) → Steady (Mine es)
mine_steady es x y o h m q = ap (owns q es) (sym o) ∙ m q ∙ ap (eqb q) h

-- ## One step

same_slack : (p r lot : ℕ) (g : ℕ) (w : Wheel) (b : Bool) → cond b 0 0 + slack_of p r lot w ≤ cond b 0 0 + slack_of p r lot w
same_slack p r lot g w b = omega arith

got_none : (q : ℕ) (ps : List Part) → got q ps [] ≡ 0
got_none q [] = refl
got_none q (p ∷ ps) = refl

-- nothing dealt
still : (p r lot : ℕ) (ps : List Part) (w : Wheel) → got r ps [] + slack_of p r lot w ≤ got p ps [] + slack_of p r lot w
still p r lot ps w = omega (arith, got_none r ps, got_none p ps)

dealt_slack : (p r : ℕ) → (p ≡ r → ⊥) → (lot q : ℕ) (w : Wheel) (ps : List Part) → SoundQueue lot (queue ps w)
    → (let d : Dealt = dealing_shares parity lot q w ps in 0 < interest p (claims (lowered ps d.shares)) → AtMost d.shares ps → got r ps d.shares + slack_of p r lot w ≤ got p ps d.shares + slack_of p r lot d.wheel)
dealt_slack p r ne lot q w [] s kept am = omega arith
dealt_slack p r ne lot q w (x ∷ ps) s kept am =
    let cs : List Claim = claims (x ∷ ps) in
    let xs : List ℕ = (parity q w lot cs).shares in
    parity_slack q w lot cs p r ne s.seated (omega (arith, interest_lowered p (x ∷ ps) xs))

setter_slack : (p r lot : ℕ) (t : Bool) (q : ℕ) (k : Queue) → SoundQueue lot k
    → (let d : Dealt = setter_shares t q k in 0 < interest p (claims (lowered k.parts d.shares)) → slack_of p r lot k.wheel ≤ slack_of p r lot d.wheel)
unfolding lose
setter_slack p r lot false q k s kept = omega arith
setter_slack p r lot true q k s kept = lose_slack p r lot (shares_in_order q (map (λ p. cond p.marked p.quantity 0) k.parts)) k s kept

abbrev stepped : ℕ → ℕ → Step → Level → Level
stepped lot q s l = let d : Dealt = step_shares parity lot q s l in with_queue s (queue (lowered (queue_of s l).parts d.shares) d.wheel) l

module _ (p r : ℕ) (ne : p ≡ r → ⊥) (lot : ℕ) where
  step_interest : (cat : Category) (n q : ℕ) (s : Step) (l : Level) → SoundLevel lot l
      → interest n (claims (queue_in cat l).parts) ≡ interest n (claims (queue_in cat (stepped lot q s l)).parts) + cond (trades_on cat s) (got n (queue_of s l).parts (step_shares parity lot q s l).shares) 0
  step_interest Category.Displayed n q Step.Setter l g = interest_got n l.shown.parts (step_shares parity lot q Step.Setter l).shares (fair_shares parity parity_lawful lot q Step.Setter l g).at_most
  step_interest Category.Displayed n q Step.Displayed l g = interest_got n l.shown.parts (step_shares parity lot q Step.Displayed l).shares (fair_shares parity parity_lawful lot q Step.Displayed l g).at_most
  step_interest Category.Displayed n q Step.Hidden l g = omega arith
  step_interest Category.Hidden n q Step.Setter l g = omega arith
  step_interest Category.Hidden n q Step.Displayed l g = omega arith
  step_interest Category.Hidden n q Step.Hidden l g = interest_got n l.hidden.parts (step_shares parity lot q Step.Hidden l).shares (fair_shares parity parity_lawful lot q Step.Hidden l g).at_most

  step_slack : (cat : Category) (q : ℕ) (s : Step) (l : Level) → SoundLevel lot l → 0 < interest p (claims (queue_in cat (stepped lot q s l)).parts)
      → cond (deals_on cat s) (got r (queue_of s l).parts (step_shares parity lot q s l).shares) 0 + slack_of p r lot (queue_in cat l).wheel
      ≤ cond (deals_on cat s) (got p (queue_of s l).parts (step_shares parity lot q s l).shares) 0 + slack_of p r lot (queue_in cat (stepped lot q s l)).wheel
  unfolding step_shares
  step_slack Category.Displayed zero Step.Setter l g kept = omega arith
  step_slack Category.Displayed (suc q) Step.Setter l g kept = omega (arith, setter_slack p r lot (taken lot l) (suc q) l.shown g.0 kept)
  step_slack Category.Displayed zero Step.Displayed l g kept = still p r lot l.shown.parts l.shown.wheel
  step_slack Category.Displayed (suc q) Step.Displayed l g kept = dealt_slack p r ne lot (suc q) l.shown.wheel l.shown.parts g.0 kept (fair_shares parity parity_lawful lot (suc q) Step.Displayed l g).at_most
  step_slack Category.Displayed q Step.Hidden l g kept = omega arith
  step_slack Category.Hidden q Step.Setter l g kept = omega arith
  step_slack Category.Hidden q Step.Displayed l g kept = omega arith
  step_slack Category.Hidden zero Step.Hidden l g kept = still p r lot l.hidden.parts l.hidden.wheel
  step_slack Category.Hidden (suc q) Step.Hidden l g kept = dealt_slack p r ne lot (suc q) l.hidden.wheel l.hidden.parts g.1 kept (fair_shares parity parity_lawful lot (suc q) Step.Hidden l g).at_most

  -- ## All steps at a price

  pub step_mine : (es : List Order) (q : ℕ) (s : Step) (l : Level) → MineAt es l → MineAt es (stepped lot q s l)
  step_mine es q Step.Setter l m = (all_lowered (Mine es) (mine_steady es) l.shown.parts (step_shares parity lot q Step.Setter l).shares m.0, m.1)
  step_mine es q Step.Displayed l m = (all_lowered (Mine es) (mine_steady es) l.shown.parts (step_shares parity lot q Step.Displayed l).shares m.0, m.1)
  step_mine es q Step.Hidden l m = (m.0, all_lowered (Mine es) (mine_steady es) l.hidden.parts (step_shares parity lot q Step.Hidden l).shares m.1)

  queue_mine : (es : List Order) (s : Step) (l : Level) → MineAt es l → AllByRecursion (Mine es) (queue_of s l).parts
  queue_mine es Step.Setter l m = m.0
  queue_mine es Step.Displayed l m = m.0
  queue_mine es Step.Hidden l m = m.1

  step_price : (q : ℕ) (s : Step) (l : Level) → (stepped lot q s l).price ≡ l.price
  step_price q Step.Setter l = refl
  step_price q Step.Displayed l = refl
  step_price q Step.Hidden l = refl

  pub record Glides (cat : Category) (es : List Order) (v : ℕ) (l m : Level) (rows : List Row) : Type 0 where
    pub less : (n : ℕ) → interest n (claims (queue_in cat l).parts) ≡ interest n (claims (queue_in cat m).parts) + sum_of (gained (trades_on cat) v es n) rows
    pub lead : 0 < interest p (claims (queue_in cat m).parts)
        → sum_of (gained (deals_on cat) v es r) rows + slack_of p r lot (queue_in cat l).wheel ≤ sum_of (gained (deals_on cat) v es p) rows + slack_of p r lot (queue_in cat m).wheel

  pub trade_price_glide : (cat : Category) (es : List Order) (a : ℕ) (ss : List Step) (q : ℕ) (l : Level) → SoundLevel lot l → MineAt es l
      → (let x : Traded Level = trade_price parity lot a ss q l in Glides cat es l.price l x.rest x.rows)
  unfolding trade_price
  trade_price_glide cat es a [] q l g m = record { less = λ n. omega arith; lead = λ k. omega arith }
  trade_price_glide cat es a (s ∷ ss) q l g m =
      let d : Dealt = step_shares parity lot q s l in
      let l' : Level = stepped lot q s l in
      let q' : ℕ = q - sum d.shares in
      let x : Traded Level = trade_price parity lot a ss q' l' in
      let mine : List Row = rows_of s a l.price (queue_of s l).parts d.shares in
      let ih : Glides cat es l.price l' x.rest x.rows =
      subst (λ v. Glides cat es v l' x.rest x.rows) (step_price q s l) (trade_price_glide cat es a ss q' l' (with_good lot s (queue (lowered (queue_of s l).parts d.shares) d.wheel) l (fair_shares parity parity_lawful lot q s l g).sound g) (step_mine es q s l m)) in
      let rows : (on : Step → Bool) (n : ℕ) → sum_of (gained on l.price es n) (mine ++ x.rows) ≡ cond (on s) (got n (queue_of s l).parts d.shares) 0 + sum_of (gained on l.price es n) x.rows = λ on n.
      (let e = sum_of_append (gained on l.price es n) mine x.rows in let f = rows_got on es n s a l.price (queue_of s l).parts d.shares (queue_mine es s l m) in omega arith) in
      record {
        less = λ n. (let i = ih.less n in let h = step_interest cat n q s l g in let e = rows (trades_on cat) n in omega arith);
        lead = λ k. (let i = ih.lead k in let j = ih.less p in let e = rows (deals_on cat) p in let f = rows (deals_on cat) r in let h = step_slack cat q s l g (omega arith) in omega arith);
      }

  trade_reached_glide : (cat : Category) (es : List Order) (a : ℕ) (ss : List Step) (t : Bool) (q : ℕ) (l : Level) → SoundLevel lot l → MineAt es l
      → (let x : Traded Level = trade_reached parity lot a ss t q l in Glides cat es l.price l x.rest x.rows)
  trade_reached_glide cat es a ss true q l g m = trade_price_glide cat es a ss q l g m
  trade_reached_glide cat es a ss false q l g m = record { less = λ n. omega arith; lead = λ k. omega arith }

  -- ## Over a side: only the level of the price matters

  trade_price_elsewhere : (on : Step → Bool) (es : List Order) (n a v : ℕ) (ss : List Step) (q : ℕ) (l : Level) → eqb l.price v ≡ false → sum_of (gained on v es n) (trade_price parity lot a ss q l).rows ≡ 0
  unfolding trade_price
  trade_price_elsewhere on es n a v [] q l e = refl
  trade_price_elsewhere on es n a v (s ∷ ss) q l e =
      let d : Dealt = step_shares parity lot q s l in
      omega (
        arith,
        sum_of_append (gained on v es n) (rows_of s a l.price (queue_of s l).parts d.shares) (trade_price parity lot a ss (q - sum d.shares) (stepped lot q s l)).rows,
        rows_elsewhere on es n s a v l.price (queue_of s l).parts d.shares e,
        trade_price_elsewhere on es n a v ss (q - sum d.shares) (stepped lot q s l) (subst (λ w. eqb w v ≡ false) (sym (step_price q s l)) e),
      )

  elsewhere : (on : Step → Bool) (es : List Order) (n a v : ℕ) (ss : List Step) (t : Bool) (q : ℕ) (l : Level) → eqb l.price v ≡ false → sum_of (gained on v es n) (trade_reached parity lot a ss t q l).rows ≡ 0
  elsewhere on es n a v ss false q l e = refl
  elsewhere on es n a v ss true q l e = trade_price_elsewhere on es n a v ss q l e

  trade_side_elsewhere : (on : Step → Bool) (es : List Order) (n a v : ℕ) (ss : List Step) (reaches : ℕ → Bool) (q : ℕ) (ls : List Level) → has v (prices ls) ≡ false → sum_of (gained on v es n) (trade_side parity lot a ss reaches q ls).rows ≡ 0
  unfolding trade_side
  trade_side_elsewhere on es n a v ss reaches q [] h = refl
  trade_side_elsewhere on es n a v ss reaches q (l ∷ ls) h =
      let x : Traded Level = trade_reached parity lot a ss (reaches l.price) q l in
      let k = or_parts (eqb l.price v) (has v (prices ls)) h in
      omega (arith, sum_of_append (gained on v es n) x.rows (trade_side parity lot a ss reaches x.left ls).rows, elsewhere on es n a v ss (reaches l.price) q l k.0, trade_side_elsewhere on es n a v ss reaches x.left ls k.1)

  pub trade_side_glide : (cat : Category) (es : List Order) (a v : ℕ) (ss : List Step) (reaches : ℕ → Bool) (q : ℕ) (ls : List Level) → AllByRecursion (SoundLevel lot) ls → AllByRecursion (MineAt es) ls → Distinct (prices ls)
      → (let x : Traded (List Level) = trade_side parity lot a ss reaches q ls in Glides cat es v (level_at v ls) (level_at v x.rest) x.rows)
  unfolding trade_side
  trade_side_glide cat es a v ss reaches q [] g m o = record { less = λ n. omega arith; lead = λ k. omega arith }
  trade_side_glide cat es a v ss reaches q (l ∷ ls) g m o = go (eqb l.price v) refl (trade_side_glide cat es a v ss reaches x.left ls g.1 m.1 o.1)
    where
      x : Traded Level
      x = trade_reached parity lot a ss (reaches l.price) q l

      y : Traded (List Level)
      y = trade_side parity lot a ss reaches x.left ls

      kept_price : x.rest.price ≡ l.price
      kept_price = trade_reached_price parity lot a ss (reaches l.price) q l

      both : (on : Step → Bool) (n : ℕ) → sum_of (gained on v es n) (x.rows ++ y.rows) ≡ sum_of (gained on v es n) x.rows + sum_of (gained on v es n) y.rows
      both on n = sum_of_append (gained on v es n) x.rows y.rows

      go : (t : Bool) → eqb l.price v ≡ t → Glides cat es v (level_at v ls) (level_at v y.rest) y.rows
          → Glides cat es v (cond t l (level_at v ls)) (cond (eqb x.rest.price v) x.rest (level_at v y.rest)) (x.rows ++ y.rows)
      go true e ih =
          let same : l.price ≡ v = eqb-true l.price v e in
          let i : Glides cat es v l x.rest x.rows = subst (λ w. Glides cat es w l x.rest x.rows) same (trade_reached_glide cat es a ss (reaches l.price) q l g.0 m.0) in
          let none : (on : Step → Bool) (n : ℕ) → sum_of (gained on v es n) y.rows ≡ 0 = λ on n. trade_side_elsewhere on es n a v ss reaches x.left ls (subst (λ w. has w (prices ls) ≡ false) same o.0) in
          let at : eqb x.rest.price v ≡ true = ap (λ w. eqb w v) kept_price ∙ e in
          rw at (record {
            less = λ n. (let a = i.less n in let b = both (trades_on cat) n in let c = none (trades_on cat) n in omega arith);
            lead = λ k. (let a = i.lead k in let b = both (deals_on cat) p in let c = none (deals_on cat) p in let b' = both (deals_on cat) r in let c' = none (deals_on cat) r in omega arith);
          })
      go false e ih =
          let none : (on : Step → Bool) (n : ℕ) → sum_of (gained on v es n) x.rows ≡ 0 = λ on n. elsewhere on es n a v ss (reaches l.price) q l e in
          let at : eqb x.rest.price v ≡ false = ap (λ w. eqb w v) kept_price ∙ e in
          rw at (record {
            less = λ n. (let a = ih.less n in let b = both (trades_on cat) n in let c = none (trades_on cat) n in omega arith);
            lead = λ k. (let a = ih.lead k in let b = both (deals_on cat) p in let c = none (deals_on cat) p in let b' = both (deals_on cat) r in let c' = none (deals_on cat) r in omega arith);
          })
