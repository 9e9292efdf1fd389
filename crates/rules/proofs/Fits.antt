-- Every call keeps a book fit, and what an order had is in the rows or rests. Assumes nothing.
use Rattle.std.proofs.Common.{◌≡◌, ℕ, ◌+◌, ◌-◌, ◌<◌, min, Bool, true, false, cond, eqb, List, [], ◌∷◌, fold, sym, refl, ap, ◌∙◌, subst, arith}
use Rattle.std.specs.List.{AllByRecursion}
use Rattle.allocation.specs.Dealings.{Deal, Lawful}
use Rattle.rules.specs.declared.orders.Side.{Side}
use Rattle.rules.specs.declared.orders.Side.TheVariants.{Buy, Sell}
use Rattle.rules.specs.declared.orders.Kind.{Kind}
use Rattle.rules.specs.declared.orders.Order.{Order}
use Rattle.rules.specs.Lists.{has, Distinct, sum_of}
use Rattle.rules.specs.Books.{Book, side, Level, with_side, Ranking, other}
use Rattle.rules.specs.Quantities.{of_side, resting, of_level}
use Rattle.rules.specs.Changes.{on_price, put_shown, put_hidden}
use Rattle.rules.specs.Trading.{Traded, in_reach, trade_side}
use Rattle.rules.specs.Reserve.{on, is_reserve, replenish_order, replenish, join_hidden, show_anew}
use Rattle.rules.specs.Refusals.{rests}
use Rattle.rules.specs.Entering.{place, shown_part, hidden_part, two_parts, arrived, trade}
use Rattle.rules.specs.Invariants.{SoundLevel, numbers}
use Rattle.rules.proofs.Renewed.{renewed_by, two_parts_by}
use Rattle.rules.proofs.Queues.{put_sound, put_of}
use Rattle.rules.proofs.Levels.{on_price_good, on_price_of, join_hidden_good, join_hidden_of, show_anew_good, show_anew_of}
use Rattle.rules.proofs.Trades.{as_resting, Even, trade_side_good, trade_side_even}

pub record Sides (lot : ℕ) (b : Book) : Type 0 where
  pub is : b.lot ≡ lot
  pub buys : AllByRecursion (SoundLevel lot) b.buys
  pub sells : AllByRecursion (SoundLevel lot) b.sells

-- ## One side

pub side_good : (lot : ℕ) (s : Side) (b : Book) → Sides lot b → AllByRecursion (SoundLevel lot) (side s b)
side_good lot Buy b f = f.buys
side_good lot Sell b f = f.sells

pub side_fit : (lot : ℕ) (s : Side) (ls : List Level) (b : Book) → Sides lot b → AllByRecursion (SoundLevel lot) ls → Sides lot (with_side s ls b)
side_fit lot Buy ls b f g = record { is = f.is; buys = g; sells = f.sells }
side_fit lot Sell ls b f g = record { is = f.is; buys = f.buys; sells = g }

pub side_rest : (n d : ℕ) (s : Side) (ls : List Level) (b : Book) → of_side n ls ≡ of_side n (side s b) + d → resting n (with_side s ls b) ≡ resting n b + d
side_rest n d Buy ls b h = omega arith
side_rest n d Sell ls b h = omega arith

pub side_less : (n d : ℕ) (s : Side) (ls : List Level) (b : Book) → of_side n (side s b) ≡ d + of_side n ls → resting n b ≡ d + resting n (with_side s ls b)
side_less n d Buy ls b h = omega arith
side_less n d Sell ls b h = omega arith

pub on_fit : (rank : Ranking) (e : Order) (lot : ℕ) (f : Level → Level) (b : Book) → 0 < lot → ((l : Level) → SoundLevel lot l → SoundLevel lot (f l)) → Sides lot b → Sides lot (on rank e f b)
on_fit rank e lot f b pos step fit =
    side_fit lot e.side (on_price rank e.side e.price f (side e.side b)) b fit (on_price_good rank e.side lot e.price f (side e.side b) pos step (side_good lot e.side b fit))

on_rest : (rank : Ranking) (e : Order) (n d : ℕ) (f : Level → Level) (b : Book) → ((l : Level) → of_level n (f l) ≡ of_level n l + d) → resting n (on rank e f b) ≡ resting n b + d
on_rest rank e n d f b step = side_rest n d e.side (on_price rank e.side e.price f (side e.side b)) b (on_price_of rank e.side n d e.price f (side e.side b) step)

-- ## Kind.Reserve

-- a reserve order has a display quantity
abbrev pub Displays : Order → Type 0
Displays e = is_reserve e.kind ≡ true → 0 < e.display

pub replenish_order_fit : (rank : Ranking) (lot : ℕ) (b : Book) (e : Order) → 0 < lot → Displays e → Sides lot b → Sides lot (replenish_order rank b e)
replenish_order_fit rank lot b e pos ok fit =
    renewed_by (Sides lot) rank b e fit (λ mark r.
    on_fit rank e lot (show_anew b.lot e mark) _ pos (λ l g. subst (λ k. SoundLevel lot (show_anew k e mark l)) (sym fit.is) (show_anew_good lot e mark l (ok r) g))
    (on_fit rank e lot (join_hidden b.lot e.number) b pos (λ l g. subst (λ k. SoundLevel lot (join_hidden k e.number l)) (sym fit.is) (join_hidden_good lot e.number l g)) fit))

replenish_order_rest : (rank : Ranking) (n : ℕ) (b : Book) (e : Order) → resting n (replenish_order rank b e) ≡ resting n b
replenish_order_rest rank n b e =
    renewed_by (λ c. resting n c ≡ resting n b) rank b e refl (λ mark _.
    omega (
      arith,
      on_rest rank e n 0 (join_hidden b.lot e.number) b (λ l. omega (arith, join_hidden_of n b.lot e.number l)),
      on_rest rank e n 0 (show_anew b.lot e mark) (on rank e (join_hidden b.lot e.number) b) (λ l. omega (arith, show_anew_of n b.lot e mark l)),
    ))

-- what replenishing leaves alone
pub record Same (b c : Book) : Type 0 where
  pub orders : c.orders ≡ b.orders
  pub last : c.last ≡ b.last
  pub steps : c.steps ≡ b.steps

replenish_order_same : (rank : Ranking) (b : Book) (e : Order) → Same b (replenish_order rank b e)
replenish_order_same rank b e = renewed_by (Same b) rank b e (record { orders = refl; last = refl; steps = refl }) (λ mark _. record { orders = refl; last = refl; steps = refl })

pub all_renewed : (rank : Ranking) (lot : ℕ) (b : Book) (es : List Order) → 0 < lot → AllByRecursion Displays es → Sides lot b → Sides lot (fold (replenish_order rank) b es)
all_renewed rank lot b [] pos ok fit = fit
all_renewed rank lot b (e ∷ es) pos ok fit = all_renewed rank lot (replenish_order rank b e) es pos ok.1 (replenish_order_fit rank lot b e pos ok.0 fit)

pub all_renewed_rest : (rank : Ranking) (n : ℕ) (b : Book) (es : List Order) → resting n (fold (replenish_order rank) b es) ≡ resting n b
all_renewed_rest rank n b [] = refl
all_renewed_rest rank n b (e ∷ es) = all_renewed_rest rank n (replenish_order rank b e) es ∙ replenish_order_rest rank n b e

pub all_renewed_same : (rank : Ranking) (b : Book) (es : List Order) → Same b (fold (replenish_order rank) b es)
all_renewed_same rank b [] = record { orders = refl; last = refl; steps = refl }
all_renewed_same rank b (e ∷ es) =
    let r : Same (replenish_order rank b e) (fold (replenish_order rank) (replenish_order rank b e) es) = all_renewed_same rank (replenish_order rank b e) es in
    let s : Same b (replenish_order rank b e) = replenish_order_same rank b e in
    record { orders = r.orders ∙ s.orders; last = r.last ∙ s.last; steps = r.steps ∙ s.steps }

-- ## Placing

pub place_fit : (rank : Ranking) (lot : ℕ) (k : Kind) (e : Order) (n : ℕ) (b : Book) → 0 < lot → 0 < n → (is_reserve k ≡ true → 0 < e.display) → Sides lot b → Sides lot (place rank k e n b)
unfolding place
place_fit rank lot Kind.Limit e n b pos some ok fit = on_fit rank e lot (put_shown (shown_part rank b e n)) b pos (λ l g. (put_sound lot (shown_part rank b e n) l.shown g.0 some, g.1)) fit
place_fit rank lot Kind.Hidden e n b pos some ok fit = on_fit rank e lot (put_hidden (hidden_part e n)) b pos (λ l g. (g.0, put_sound lot (hidden_part e n) l.hidden g.1 some)) fit
place_fit rank lot Kind.Reserve e n b pos some ok fit = on_fit rank e lot (two_parts rank b e n) b pos two fit
  where
    two : (l : Level) → SoundLevel lot l → SoundLevel lot (two_parts rank b e n l)
    two l g =
        let shown : SoundLevel lot (put_shown (shown_part rank b e (min e.display n)) l) = (put_sound lot (shown_part rank b e (min e.display n)) l.shown g.0 (omega (arith, ok refl)), g.1) in
        two_parts_by (SoundLevel lot) rank b e n l (λ _. shown) (λ left. (shown.0, put_sound lot (hidden_part e (n - min e.display n)) l.hidden shown.1 left))
place_fit rank lot Kind.Immediate e n b pos some ok fit = fit
place_fit rank lot Kind.Market e n b pos some ok fit = fit

pub place_rest : (rank : Ranking) (k : Kind) (e : Order) (n m : ℕ) (b : Book) → rests k ≡ true → resting m (place rank k e n b) ≡ resting m b + cond (eqb e.number m) n 0
unfolding place
place_rest rank Kind.Limit e n m b r = on_rest rank e m (cond (eqb e.number m) n 0) (put_shown (shown_part rank b e n)) b (λ l. omega (arith, put_of m (shown_part rank b e n) l.shown))
place_rest rank Kind.Hidden e n m b r = on_rest rank e m (cond (eqb e.number m) n 0) (put_hidden (hidden_part e n)) b (λ l. omega (arith, put_of m (hidden_part e n) l.hidden))
place_rest rank Kind.Reserve e n m b r = on_rest rank e m (cond (eqb e.number m) n 0) (two_parts rank b e n) b two
  where
    two : (l : Level) → of_level m (two_parts rank b e n l) ≡ of_level m l + cond (eqb e.number m) n 0
    two l =
        let a = put_of m (shown_part rank b e (min e.display n)) l.shown in
        let c = put_of m (hidden_part e (n - min e.display n)) l.hidden in
        two_parts_by (λ k. of_level m k ≡ of_level m l + cond (eqb e.number m) n 0) rank b e n l (λ none. grind arith) (λ left. grind arith)
place_rest rank Kind.Immediate e n m b r = absurd (mathlib.Core.Bool.false≢true r)
place_rest rank Kind.Market e n m b r = absurd (mathlib.Core.Bool.false≢true r)

-- ## A book that calls keep

pub record Fit (lot : ℕ) (b : Book) : Type 0 where
  pub pos : 0 < lot
  pub sides : Sides lot b
  pub displays : AllByRecursion Displays b.orders
  pub covered : (n : ℕ) → 0 < resting n b → has n (numbers b.orders) ≡ true
  pub once : Distinct (numbers b.orders)
  pub fresh : (n : ℕ) → b.last < n → resting n b ≡ 0
  pub unlisted : (n : ℕ) → b.last < n → has n (numbers b.orders) ≡ false

-- ## Trading and reserve

pub record AfterTrade (lot : ℕ) (e : Order) (b : Book) (r : Traded Book) : Type 0 where
  pub sides : Sides lot r.rest
  pub same : Same (arrived e b) r.rest
  pub even : (n : ℕ) → Even n e.number (resting n b) e.quantity r.rows (resting n r.rest) r.left

module _ (rank : Ranking) (deal : Deal) (D : Lawful deal) (lot : ℕ) where
  pub after_trading : (e : Order) (b : Book) → Fit lot b → AfterTrade lot e b (trade rank deal e (arrived e b))
  unfolding trade replenish
  after_trading e b fit =
      let s : Side = other e.side in
      let c : Book = arrived e b in
      let f : Sides lot c = record { is = fit.sides.is; buys = fit.sides.buys; sells = fit.sides.sells } in
      let reach : ℕ → Bool = in_reach rank c e in
      let r : Traded (List Level) = trade_side deal b.lot e.number b.steps reach e.quantity (side s b) in
      let g : AllByRecursion (SoundLevel lot) r.rest =
      subst (λ k. AllByRecursion (SoundLevel lot) (trade_side deal k e.number b.steps reach e.quantity (side s b)).rest) (sym fit.sides.is)
      (trade_side_good deal D lot e.number b.steps reach e.quantity (side s b) (side_good lot s b fit.sides)) in
      let t : Book = with_side s r.rest c in
      let ev : (n : ℕ) → Even n e.number (of_side n (side s b)) e.quantity r.rows (of_side n r.rest) r.left = λ n.
      subst (λ k. (let r : Traded (List Level) = trade_side deal k e.number b.steps reach e.quantity (side s b) in
      Even n e.number (of_side n (side s b)) e.quantity r.rows (of_side n r.rest) r.left))
      (sym fit.sides.is) (trade_side_even deal D lot e.number n b.steps reach e.quantity (side s b) (side_good lot s b fit.sides)) in
      record {
        sides = all_renewed rank lot t b.orders fit.pos fit.displays (side_fit lot s r.rest c f g);
        same = (let q : Same t (fold (replenish_order rank) t b.orders) = all_renewed_same rank t b.orders in record { orders = q.orders; last = q.last; steps = q.steps });
        even = λ n. record {
          rest = side_less n (sum_of (as_resting n) r.rows) s r.rest c (ev n).rest ∙ ap (λ k. sum_of (as_resting n) r.rows + k) (sym (all_renewed_rest rank n t b.orders));
          came = (ev n).came;
          less = (ev n).less;
          back = (ev n).back;
          arrives = (ev n).arrives;
        };
      }
