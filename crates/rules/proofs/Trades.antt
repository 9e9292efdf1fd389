-- Trading keeps a side good, and what parts lose is what rows say. Assumes nothing.
use Rattle.std.proofs.Common.{◌≡◌, ℕ, zero, suc, ◌+◌, ◌-◌, ◌≤◌, min, Bool, true, false, cond, eqb, List, [], ◌∷◌, map, sym, refl, ap, subst, arith}
use Rattle.std.specs.List.{AllByRecursion}
use Rattle.std.proofs.lemmas.Bool.Decides.{nat_tests}
use Rattle.std.proofs.ByRecursion.{All-append}
use Rattle.allocation.specs.Wheels.{Wheel}
use Rattle.allocation.specs.ByTime.{shares_in_order}
use Rattle.allocation.specs.Dealings.{sum, Deal, Dealt, Lawful, WellDealt, interest, claims_left}
use Rattle.allocation.specs.declared.claims.Claim.{Claim}
use Rattle.rules.specs.declared.orders.Part.{Part}
use Rattle.rules.specs.declared.phases.Step.{Step}
use Rattle.rules.specs.declared.answers.Row.{Row}
use Rattle.rules.specs.declared.answers.Row.TheVariants.{Trade, GivenBack}
use Rattle.rules.specs.Lists.{sum_of}
use Rattle.rules.specs.Books.{Queue, queue, Level}
use Rattle.rules.specs.Quantities.{claims, of_order, of_level, of_side}
use Rattle.rules.specs.Changes.{lowered, lose}
use Rattle.rules.specs.Trading.{rows_of, dealt, setter_shares, dealing_shares, queue_of, step_shares, taken, with_queue, trade_price, Traded, trade_reached, trade_side}
use Rattle.rules.specs.Runs.{given_back_in, traded_in}
use Rattle.rules.specs.Invariants.{SoundQueue, SoundLevel}
use Rattle.rules.proofs.Amounts.{AtMost, hit, lowered_of, interest_lowered, within_at_most, mask_at_most}
use Rattle.allocation.proofs.InOrder.{in_order_under, sum_in_order}
use Rattle.rules.proofs.Members.{sum_of_append}
use Rattle.rules.proofs.Queues.{positive_lowered, lose_sound}
use Rattle.allocation.specs.Seating.{seated_same}

abbrev pub as_resting : ℕ → Row → ℕ
as_resting n (Trade s r a v q) = cond (eqb r n) q 0
as_resting n (GivenBack o q) = 0

abbrev pub as_arriving : ℕ → Row → ℕ
as_arriving n (Trade s r a v q) = cond (eqb a n) q 0
as_arriving n (GivenBack o q) = 0

-- ## Rows

rows_resting : (n : ℕ) (s : Step) (a v : ℕ) (ps : List Part) (xs : List ℕ) → sum_of (as_resting n) (rows_of s a v ps xs) ≡ hit n ps xs
rows_resting n s a v [] xs = refl
rows_resting n s a v (p ∷ ps) [] = refl
rows_resting n s a v (p ∷ ps) (x ∷ xs) = let ih = rows_resting n s a v ps xs in grind (arith, nat_tests)

rows_arriving : (n : ℕ) (s : Step) (a v : ℕ) (ps : List Part) (xs : List ℕ) → AtMost xs ps → sum_of (as_arriving n) (rows_of s a v ps xs) ≡ cond (eqb a n) (sum xs) 0
rows_arriving n s a v [] [] h = grind (arith, nat_tests)
rows_arriving n s a v [] (x ∷ xs) h = absurd h
rows_arriving n s a v (p ∷ ps) [] h = grind (arith, nat_tests)
rows_arriving n s a v (p ∷ ps) (x ∷ xs) h = let ih = rows_arriving n s a v ps xs h.1 in grind (arith, nat_tests)

rows_back : (n : ℕ) (s : Step) (a v : ℕ) (ps : List Part) (xs : List ℕ) → sum_of (given_back_in n) (rows_of s a v ps xs) ≡ 0
rows_back n s a v [] xs = refl
rows_back n s a v (p ∷ ps) [] = refl
rows_back n s a v (p ∷ ps) (x ∷ xs) = let ih = rows_back n s a v ps xs in grind (arith, nat_tests)

-- a row of trading names the arriving order
abbrev pub Arrives : ℕ → Row → Type 0
Arrives n (Trade s r a v q) = a ≡ n
Arrives n (GivenBack o q) = ⊥

rows_arrive : (s : Step) (a v : ℕ) (ps : List Part) (xs : List ℕ) → AllByRecursion (Arrives a) (rows_of s a v ps xs)
rows_arrive s a v [] xs = tt
rows_arrive s a v (p ∷ ps) [] = tt
rows_arrive s a v (p ∷ ps) (x ∷ xs) = go (eqb x 0) (rows_arrive s a v ps xs)
  where
    go : (t : Bool) → AllByRecursion (Arrives a) (rows_of s a v ps xs) → AllByRecursion (Arrives a) (cond t (rows_of s a v ps xs) (Trade s p.order a v x ∷ rows_of s a v ps xs))
    go true ih = ih
    go false ih = (refl, ih)

-- ## Shares of one step

pub record Fair (lot q : ℕ) (k : Queue) (d : Dealt) : Type 0 where
  pub at_most : AtMost d.shares k.parts
  pub enough : sum d.shares ≤ q
  pub sound : SoundQueue lot (queue (lowered k.parts d.shares) d.wheel)

pub lowered_none : (ps : List Part) → lowered ps [] ≡ ps
lowered_none [] = refl
lowered_none (p ∷ ps) = refl

fair_none : (lot q : ℕ) (k : Queue) → SoundQueue lot k → Fair lot q k (dealt [] k.wheel)
fair_none lot q k s = record { at_most = tt; enough = omega arith; sound = subst (λ ps. SoundQueue lot (queue ps k.wheel)) (sym (lowered_none k.parts)) s }

fair_setter : (lot q : ℕ) (t : Bool) (k : Queue) → SoundQueue lot k → Fair lot q k (setter_shares t q k)
unfolding lose
fair_setter lot q false k s = fair_none lot q k s
fair_setter lot q true k s =
    let xs : List ℕ = shares_in_order q (map (λ p. cond p.marked p.quantity 0) k.parts) in
    record {
      at_most = mask_at_most (λ p. p.marked) xs k.parts (in_order_under q (map (λ p. cond p.marked p.quantity 0) k.parts));
      enough = omega (arith, sum_in_order q (map (λ p. cond p.marked p.quantity 0) k.parts));
      sound = lose_sound lot xs k s;
    }

fair_dealt : (deal : Deal) → Lawful deal → (lot q : ℕ) (w : Wheel) (ps : List Part) → SoundQueue lot (queue ps w) → Fair lot q (queue ps w) (dealing_shares deal lot q w ps)
fair_dealt deal D lot q w [] s = fair_none lot q (queue [] w) s
fair_dealt deal D lot q w (p ∷ ps) s =
    let cs : List Claim = claims (p ∷ ps) in
    let xs : List ℕ = (deal q w lot cs).shares in
    let good : WellDealt q lot cs (deal q w lot cs) = D q w lot cs s.seated in
    record {
      at_most = within_at_most xs (p ∷ ps) good.within;
      enough = omega (arith, good.all);
      sound = record {
        positive = positive_lowered (p ∷ ps) xs s.positive;
        seated = seated_same lot (deal q w lot cs).wheel (λ q. interest q (claims_left cs xs)) (λ q. interest q (claims (lowered (p ∷ ps) xs))) good.seats (λ q. ap (λ n. min 1 n) (interest_lowered q (p ∷ ps) xs));
      };
    }

pub queue_sound : (lot : ℕ) (s : Step) (l : Level) → SoundLevel lot l → SoundQueue lot (queue_of s l)
queue_sound lot Step.Setter l g = g.0
queue_sound lot Step.Displayed l g = g.0
queue_sound lot Step.Hidden l g = g.1

pub fair_shares : (deal : Deal) → Lawful deal → (lot q : ℕ) (s : Step) (l : Level) → SoundLevel lot l → Fair lot q (queue_of s l) (step_shares deal lot q s l)
unfolding step_shares
fair_shares deal D lot zero s l g = fair_none lot 0 (queue_of s l) (queue_sound lot s l g)
fair_shares deal D lot (suc q) Step.Setter l g = fair_setter lot (suc q) (taken lot l) l.shown g.0
fair_shares deal D lot (suc q) Step.Displayed l g = fair_dealt deal D lot (suc q) l.shown.wheel l.shown.parts g.0
fair_shares deal D lot (suc q) Step.Hidden l g = fair_dealt deal D lot (suc q) l.hidden.wheel l.hidden.parts g.1

pub with_good : (lot : ℕ) (s : Step) (k : Queue) (l : Level) → SoundQueue lot k → SoundLevel lot l → SoundLevel lot (with_queue s k l)
with_good lot Step.Setter k l h g = (h, g.1)
with_good lot Step.Displayed k l h g = (h, g.1)
with_good lot Step.Hidden k l h g = (g.0, h)

with_of : (n d : ℕ) (s : Step) (k : Queue) (l : Level) → of_order n (queue_of s l).parts ≡ of_order n k.parts + d → of_level n l ≡ of_level n (with_queue s k l) + d
with_of n d Step.Setter k l h = omega arith
with_of n d Step.Displayed k l h = omega arith
with_of n d Step.Hidden k l h = omega arith

-- ## A stretch of trading: what was there and the quantity are in the rows or left

pub record Even (n arriving was q : ℕ) (rows : List Row) (is left : ℕ) : Type 0 where
  pub rest : was ≡ sum_of (as_resting n) rows + is
  pub came : cond (eqb arriving n) q 0 ≡ sum_of (as_arriving n) rows + cond (eqb arriving n) left 0
  pub less : left ≤ q
  pub back : sum_of (given_back_in n) rows ≡ 0
  pub arrives : AllByRecursion (Arrives arriving) rows

module _ (deal : Deal) (D : Lawful deal) (lot arriving : ℕ) where
  pub trade_price_good : (ss : List Step) (q : ℕ) (l : Level) → SoundLevel lot l → SoundLevel lot (trade_price deal lot arriving ss q l).rest
  unfolding trade_price
  trade_price_good [] q l g = g
  trade_price_good (s ∷ ss) q l g =
      let d : Dealt = step_shares deal lot q s l in
      trade_price_good ss (q - sum d.shares) (with_queue s (queue (lowered (queue_of s l).parts d.shares) d.wheel) l) (with_good lot s _ l (fair_shares deal D lot q s l g).sound g)

  pub trade_price_even : (n : ℕ) (ss : List Step) (q : ℕ) (l : Level) → SoundLevel lot l
      → (let r : Traded Level = trade_price deal lot arriving ss q l in Even n arriving (of_level n l) q r.rows (of_level n r.rest) r.left)
  unfolding trade_price
  trade_price_even n [] q l g = record { rest = omega arith; came = omega arith; less = omega arith; back = refl; arrives = tt }
  trade_price_even n (s ∷ ss) q l g =
      let d : Dealt = step_shares deal lot q s l in
      let k : Queue = queue_of s l in
      let f : Fair lot q k d = fair_shares deal D lot q s l g in
      let l' : Level = with_queue s (queue (lowered k.parts d.shares) d.wheel) l in
      let q' : ℕ = q - sum d.shares in
      let r : Traded Level = trade_price deal lot arriving ss q' l' in
      let ih : Even n arriving (of_level n l') q' r.rows (of_level n r.rest) r.left = trade_price_even n ss q' l' (with_good lot s _ l f.sound g) in
      let mine : List Row = rows_of s arriving l.price k.parts d.shares in
      let a = lowered_of n k.parts d.shares f.at_most in
      let b = rows_resting n s arriving l.price k.parts d.shares in
      let c = rows_arriving n s arriving l.price k.parts d.shares f.at_most in
      let w = with_of n (hit n k.parts d.shares) s (queue (lowered k.parts d.shares) d.wheel) l a in
      let i = ih.rest in let j = ih.came in let m = ih.less in let o = f.enough in
      let t = sum_of_append (as_resting n) mine r.rows in
      let u = sum_of_append (as_arriving n) mine r.rows in
      record {
        rest = omega arith;
        came = grind arith;
        less = omega arith;
        back = omega (arith, sum_of_append (given_back_in n) mine r.rows, rows_back n s arriving l.price k.parts d.shares, ih.back);
        arrives = All-append (Arrives arriving) mine r.rows (rows_arrive s arriving l.price k.parts d.shares) ih.arrives;
      }

  trade_reached_good : (ss : List Step) (t : Bool) (q : ℕ) (l : Level) → SoundLevel lot l → SoundLevel lot (trade_reached deal lot arriving ss t q l).rest
  trade_reached_good ss true q l g = trade_price_good ss q l g
  trade_reached_good ss false q l g = g

  trade_reached_even : (n : ℕ) (ss : List Step) (t : Bool) (q : ℕ) (l : Level) → SoundLevel lot l
      → (let r : Traded Level = trade_reached deal lot arriving ss t q l in Even n arriving (of_level n l) q r.rows (of_level n r.rest) r.left)
  trade_reached_even n ss true q l g = trade_price_even n ss q l g
  trade_reached_even n ss false q l g = record { rest = omega arith; came = omega arith; less = omega arith; back = refl; arrives = tt }

  pub trade_side_good : (ss : List Step) (reaches : ℕ → Bool) (q : ℕ) (ls : List Level) → AllByRecursion (SoundLevel lot) ls → AllByRecursion (SoundLevel lot) (trade_side deal lot arriving ss reaches q ls).rest
  unfolding trade_side
  trade_side_good ss reaches q [] g = tt
  trade_side_good ss reaches q (l ∷ ls) g =
      (trade_reached_good ss (reaches l.price) q l g.0, trade_side_good ss reaches (trade_reached deal lot arriving ss (reaches l.price) q l).left ls g.1)

  pub trade_side_even : (n : ℕ) (ss : List Step) (reaches : ℕ → Bool) (q : ℕ) (ls : List Level) → AllByRecursion (SoundLevel lot) ls
      → (let r : Traded (List Level) = trade_side deal lot arriving ss reaches q ls in Even n arriving (of_side n ls) q r.rows (of_side n r.rest) r.left)
  unfolding trade_side
  trade_side_even n ss reaches q [] g = record { rest = omega arith; came = omega arith; less = omega arith; back = refl; arrives = tt }
  trade_side_even n ss reaches q (l ∷ ls) g =
      let r : Traded Level = trade_reached deal lot arriving ss (reaches l.price) q l in
      let t : Traded (List Level) = trade_side deal lot arriving ss reaches r.left ls in
      let a : Even n arriving (of_level n l) q r.rows (of_level n r.rest) r.left = trade_reached_even n ss (reaches l.price) q l g.0 in
      let b : Even n arriving (of_side n ls) r.left t.rows (of_side n t.rest) t.left = trade_side_even n ss reaches r.left ls g.1 in
      let c = sum_of_append (as_resting n) r.rows t.rows in
      let d = sum_of_append (as_arriving n) r.rows t.rows in
      let a0 = a.rest in let a1 = a.came in let a2 = a.less in
      let b0 = b.rest in let b1 = b.came in let b2 = b.less in
      record {
        rest = omega arith;
        came = omega arith;
        less = omega arith;
        back = omega (arith, sum_of_append (given_back_in n) r.rows t.rows, a.back, b.back);
        arrives = All-append (Arrives arriving) r.rows t.rows a.arrives b.arrives;
      }

-- ## Rows name an order once: the arriving order does not rest

pub named_once : (n a : ℕ) (rs : List Row) → AllByRecursion (Arrives a) rs → sum_of (as_resting a) rs ≡ 0 → sum_of (traded_in n) rs ≡ sum_of (as_resting n) rs + sum_of (as_arriving n) rs
named_once n a [] h z = refl
named_once n a (Trade s r b v q ∷ rs) h z = let e = h.0 in let ih = named_once n a rs h.1 (omega arith) in grind (arith, nat_tests)
named_once n a (GivenBack o q ∷ rs) h z = absurd h.0
