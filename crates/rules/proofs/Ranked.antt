-- Levels stay in the order of their prices, and trades come in order. Assumes nothing.
use Rattle.std.proofs.Common.{◌≡◌, ℕ, ◌-◌, min, Bool, true, false, cond, not, ◌&&◌, eqb, List, [], ◌∷◌, Some, None, fold, filter, Option, sym, refl, ap, ◌∙◌, subst}
use mathlib.Core.Bool.{false≢true}
use Rattle.std.specs.List.{AllByRecursion}
use Rattle.std.proofs.ByRecursion.{All-weaker}
use Rattle.std.proofs.lemmas.Bool.{eqb-false, not-true, not_from_false}
use Rattle.allocation.specs.Rankings.{TotalOrder}
use Rattle.allocation.specs.Dealings.{Deal}
use Rattle.rules.specs.declared.orders.Side.{Side}
use Rattle.rules.specs.declared.orders.Side.TheVariants.{Buy, Sell}
use Rattle.rules.specs.declared.orders.Kind.{Kind}
use Rattle.rules.specs.declared.orders.Order.{Order}
use Rattle.rules.specs.declared.phases.Step.{Step}
use Rattle.rules.specs.declared.calls.Call.{Call}
use Rattle.rules.specs.declared.calls.Call.TheVariants.{Open, Halt, Resume, Close, Quote, Enter, Cancel, Reduce}
use Rattle.rules.specs.declared.answers.Refusal.{Refusal}
use Rattle.rules.specs.declared.answers.Row.{Row}
use Rattle.rules.specs.Books.{Level, side, Ranking, Book, good, better, nothing_at, with_side, other}
use Rattle.rules.specs.Quantities.{of_level}
use Rattle.rules.specs.Changes.{on_price, put_shown, put_hidden}
use Rattle.rules.specs.Marks.{unmarked}
use Rattle.rules.specs.TakingOff.{take_off, take_off_side, take_off_level}
use Rattle.rules.specs.Trading.{trade_price, trade_reached, trade_side, Traded, in_reach}
use Rattle.rules.specs.Reserve.{on, join_hidden, runs_low, shows_two, show_anew, replenish, replenish_order}
use Rattle.rules.specs.Refusals.{first, refusals}
use Rattle.rules.specs.Entering.{trade, two_parts, place, shown_part, hidden_part, finished, enter, arrived, not_placed}
use Rattle.rules.specs.Rules.{effect, rule, tidy, ruled, holds}
use Rattle.rules.specs.Invariants.{prices, BestFirst}
use Rattle.rules.proofs.Renewed.{renewed_by}
use Rattle.rules.proofs.Members.{mapped_kept}
use Rattle.rules.proofs.Chains.{good_chain, good_same}
use Rattle.rules.proofs.Crossing.{Fine}

-- ## What keeps its price

take_off_prices : (n m : ℕ) (ls : List Level) → prices (take_off_side n m ls) ≡ prices ls
unfolding take_off_side take_off_level
take_off_prices n m [] = refl
take_off_prices n m (l ∷ ls) = ap (λ vs. l.price ∷ vs) (take_off_prices n (m - of_level n l) ls)

trade_price_price : (deal : Deal) (lot a : ℕ) (ss : List Step) (q : ℕ) (l : Level) → (trade_price deal lot a ss q l).rest.price ≡ l.price
unfolding trade_price
trade_price_price deal lot a [] q l = refl
trade_price_price deal lot a (Step.Setter ∷ ss) q l = trade_price_price deal lot a ss _ _
trade_price_price deal lot a (Step.Displayed ∷ ss) q l = trade_price_price deal lot a ss _ _
trade_price_price deal lot a (Step.Hidden ∷ ss) q l = trade_price_price deal lot a ss _ _

pub trade_reached_price : (deal : Deal) (lot a : ℕ) (ss : List Step) (t : Bool) (q : ℕ) (l : Level) → (trade_reached deal lot a ss t q l).rest.price ≡ l.price
trade_reached_price deal lot a ss true q l = trade_price_price deal lot a ss q l
trade_reached_price deal lot a ss false q l = refl

pub trade_side_prices : (deal : Deal) (lot a : ℕ) (ss : List Step) (reaches : ℕ → Bool) (q : ℕ) (ls : List Level) → prices (trade_side deal lot a ss reaches q ls).rest ≡ prices ls
unfolding trade_side
trade_side_prices deal lot a ss reaches q [] = refl
trade_side_prices deal lot a ss reaches q (l ∷ ls) =
    rw (trade_reached_price deal lot a ss (reaches l.price) q l, trade_side_prices deal lot a ss reaches (trade_reached deal lot a ss (reaches l.price) q l).left ls)

unmarked_prices : (ls : List Level) → prices (unmarked ls) ≡ prices ls
unmarked_prices [] = refl
unmarked_prices (l ∷ ls) = ap (λ vs. l.price ∷ vs) (unmarked_prices ls)

abbrev pub Still : (Level → Level) → Type 0
Still f = (l : Level) → (f l).price ≡ l.price

still_cond : (t : Bool) (x y : Level) (v : ℕ) → x.price ≡ v → y.price ≡ v → (cond t x y).price ≡ v
still_cond true x y v h k = h
still_cond false x y v h k = k

pub join_hidden_still : (lot n : ℕ) → Still (join_hidden lot n)
unfolding join_hidden
join_hidden_still lot n l = still_cond (runs_low lot n l && shows_two n l) _ l l.price refl refl

pub show_anew_still : (lot : ℕ) (e : Order) (mark : Bool) → Still (show_anew lot e mark)
unfolding show_anew
show_anew_still lot e mark l = still_cond (runs_low lot e.number l) _ l l.price refl refl

pub two_still : (rank : Ranking) (b : Book) (e : Order) (n : ℕ) → Still (two_parts rank b e n)
two_still rank b e n l = still_cond (eqb (n - min e.display n) 0) _ _ l.price refl refl

module _ (rank : Ranking) (O : TotalOrder rank.good) where
  -- ## A change at one price

  pub better_chain : (s : Side) (a b c : ℕ) → good rank s a b ≡ true → better rank s b c ≡ true → better rank s a c ≡ true
  better_chain s a b c h k = go (good rank s c a) refl
    where
      go : (t : Bool) → good rank s c a ≡ t → not t ≡ true
      go true e = absurd (false≢true (sym (not-true (good rank s c b) k) ∙ good_chain rank O s c a b e h))
      go false e = refl

  pub strictly : (s : Side) (v w : ℕ) → eqb w v ≡ false → good rank s v w ≡ true → better rank s v w ≡ true
  strictly s v w ne h = go (good rank s w v) refl
    where
      go : (t : Bool) → good rank s w v ≡ t → not t ≡ true
      go true e = absurd (eqb-false w v ne (good_same rank O s w v e h))
      go false e = refl

  pub on_price_all : (s : Side) (P : ℕ → Type 0) (v : ℕ) (f : Level → Level) (ls : List Level) → Still f → P v → AllByRecursion P (prices ls) → AllByRecursion P (prices (on_price rank s v f ls))
  unfolding on_price
  on_price_all s P v f [] still here h = (subst P (sym (still (nothing_at v))) here, tt)
  on_price_all s P v f (l ∷ ls) still here h = go (eqb l.price v) (good rank s v l.price) (on_price_all s P v f ls still here h.1)
    where
      go : (t u : Bool) → AllByRecursion P (prices (on_price rank s v f ls)) → AllByRecursion P (prices (cond t (f l ∷ ls) (cond u (f (nothing_at v) ∷ l ∷ ls) (l ∷ on_price rank s v f ls))))
      go true u ih = (subst P (sym (still l)) h.0, h.1)
      go false true ih = (subst P (sym (still (nothing_at v))) here, h)
      go false false ih = (h.0, ih)

  pub on_price_sorted : (s : Side) (v : ℕ) (f : Level → Level) (ls : List Level) → Still f → BestFirst rank s (prices ls) → BestFirst rank s (prices (on_price rank s v f ls))
  unfolding on_price
  on_price_sorted s v f [] still h = (tt, tt)
  on_price_sorted s v f (l ∷ ls) still h = go (eqb l.price v) refl (good rank s v l.price) refl (on_price_sorted s v f ls still h.1)
    where
      go : (t : Bool) → eqb l.price v ≡ t → (u : Bool) → good rank s v l.price ≡ u → BestFirst rank s (prices (on_price rank s v f ls))
          → BestFirst rank s (prices (cond t (f l ∷ ls) (cond u (f (nothing_at v) ∷ l ∷ ls) (l ∷ on_price rank s v f ls))))
      go true et u eu ih = (rw (still l) h.0, h.1)
      go false et true eu ih =
          (subst (λ k. AllByRecursion (λ w. better rank s k w ≡ true) (l.price ∷ prices ls)) (sym (still (nothing_at v))) (strictly s v l.price et eu, All-weaker (λ w. better rank s l.price w ≡ true) (λ w. better rank s v w ≡ true) (λ w k. better_chain s v l.price w eu k) (prices ls) h.0), h)
      go false et false eu ih = (on_price_all s (λ w. better rank s l.price w ≡ true) v f ls still (not_from_false (good rank s v l.price) eu) h.0, ih)

  pub kept_sorted : (s : Side) (f : Level → Bool) (ls : List Level) → BestFirst rank s (prices ls) → BestFirst rank s (prices (filter f ls))
  kept_sorted s f [] h = tt
  kept_sorted s f (l ∷ ls) h = go (f l) (kept_sorted s f ls h.1)
    where
      go : (t : Bool) → BestFirst rank s (prices (filter f ls)) → BestFirst rank s (prices (cond t (l ∷ filter f ls) (filter f ls)))
      go true ih = (mapped_kept (λ l. l.price) (λ w. better rank s l.price w ≡ true) f ls h.0, ih)
      go false ih = ih

  -- ## Every call

  pub record Ranked (b : Book) : Type 0 where
    pub steps : Fine b.steps
    pub buys : BestFirst rank Buy (prices b.buys)
    pub sells : BestFirst rank Sell (prices b.sells)

  pub side_ranked : (s : Side) (ls : List Level) (b : Book) → Ranked b → BestFirst rank s (prices ls) → Ranked (with_side s ls b)
  side_ranked Buy ls b r h = record { steps = r.steps; buys = h; sells = r.sells }
  side_ranked Sell ls b r h = record { steps = r.steps; buys = r.buys; sells = h }

  pub sorted_side : (s : Side) (b : Book) → Ranked b → BestFirst rank s (prices (side s b))
  sorted_side Buy b r = r.buys
  sorted_side Sell b r = r.sells

  pub on_ranked : (e : Order) (f : Level → Level) (b : Book) → Still f → Ranked b → Ranked (on rank e f b)
  on_ranked e f b still r = side_ranked e.side (on_price rank e.side e.price f (side e.side b)) b r (on_price_sorted e.side e.price f (side e.side b) still (sorted_side e.side b r))

  pub replenish_order_ranked : (b : Book) (e : Order) → Ranked b → Ranked (replenish_order rank b e)
  replenish_order_ranked b e r =
      renewed_by Ranked rank b e r (λ mark _. on_ranked e (show_anew b.lot e mark) _ (show_anew_still b.lot e mark) (on_ranked e (join_hidden b.lot e.number) b (join_hidden_still b.lot e.number) r))

  pub all_ranked : (b : Book) (es : List Order) → Ranked b → Ranked (fold (replenish_order rank) b es)
  all_ranked b [] r = r
  all_ranked b (e ∷ es) r = all_ranked (replenish_order rank b e) es (replenish_order_ranked b e r)

  place_ranked : (k : Kind) (e : Order) (n : ℕ) (b : Book) → Ranked b → Ranked (place rank k e n b)
  unfolding place
  place_ranked Kind.Limit e n b r = on_ranked e (put_shown (shown_part rank b e n)) b (λ l. refl) r
  place_ranked Kind.Hidden e n b r = on_ranked e (put_hidden (hidden_part e n)) b (λ l. refl) r
  place_ranked Kind.Reserve e n b r = on_ranked e (two_parts rank b e n) b (two_still rank b e n) r
  place_ranked Kind.Immediate e n b r = r
  place_ranked Kind.Market e n b r = r

  finished_ranked : (t u : Bool) (e : Order) (n : ℕ) (rs : List Row) (b : Book) → Ranked b → Ranked (finished t u rank e n rs b).book
  finished_ranked true u e n rs b r = r
  finished_ranked false true e n rs b r = r
  finished_ranked false false e n rs b r = let p : Ranked (place rank e.kind e n b) = place_ranked e.kind e n b r in record { steps = p.steps; buys = p.buys; sells = p.sells }

  module _ (deal : Deal) where
    pub traded_ranked : (e : Order) (b : Book) → Ranked b → Ranked (trade rank deal e b).rest
    unfolding trade replenish
    traded_ranked e b r =
        let s : Side = other e.side in
        let x : Traded (List Level) = trade_side deal b.lot e.number b.steps (in_reach rank b e) e.quantity (side s b) in
        all_ranked (with_side s x.rest b) b.orders (side_ranked s x.rest b r
        (subst (λ vs. BestFirst rank s vs) (sym (trade_side_prices deal b.lot e.number b.steps (in_reach rank b e) e.quantity (side s b))) (sorted_side s b r)))

    pub effect_ranked : (b : Book) (c : Call) → Ranked b → Ranked (effect rank deal b c).book
    unfolding effect enter take_off
    effect_ranked b Open r = r
    effect_ranked b Halt r =
        record { steps = r.steps; buys = subst (λ vs. BestFirst rank Buy vs) (sym (unmarked_prices b.buys)) r.buys; sells = subst (λ vs. BestFirst rank Sell vs) (sym (unmarked_prices b.sells)) r.sells }
    effect_ranked b Resume r = r
    effect_ranked b Close r = record { steps = r.steps; buys = tt; sells = tt }
    effect_ranked b (Quote x y) r = record { steps = r.steps; buys = r.buys; sells = r.sells }
    effect_ranked b (Enter e) r =
        let x : Traded Book = trade rank deal e (arrived e b) in
        finished_ranked (eqb x.left 0) (not_placed rank b e) e x.left x.rows x.rest (traded_ranked e (arrived e b) (record { steps = r.steps; buys = r.buys; sells = r.sells }))
    effect_ranked b (Cancel n) r = take_off_ranked b n _ r
      where
        take_off_ranked : (b : Book) (n m : ℕ) → Ranked b → Ranked (take_off n m b)
        take_off_ranked b n m r =
            record { steps = r.steps; buys = subst (λ vs. BestFirst rank Buy vs) (sym (take_off_prices n m b.buys)) r.buys; sells = subst (λ vs. BestFirst rank Sell vs) (sym (take_off_prices n _ b.sells)) r.sells }
    effect_ranked b (Reduce n m) r =
        record { steps = r.steps; buys = subst (λ vs. BestFirst rank Buy vs) (sym (take_off_prices n m b.buys)) r.buys; sells = subst (λ vs. BestFirst rank Sell vs) (sym (take_off_prices n _ b.sells)) r.sells }

    pub rule_ranked : (b : Book) (room : ℕ) (c : Call) → Ranked b → Ranked (rule rank deal b room c).book
    unfolding rule tidy
    rule_ranked b room c r = go (first (refusals b room c))
      where
        go : (o : Option Refusal) → Ranked (ruled o rank deal b c).book
        go None =
            let x : Book = (effect rank deal b c).book in
            let h : Ranked x = effect_ranked b c r in
            record { steps = h.steps; buys = kept_sorted Buy holds x.buys h.buys; sells = kept_sorted Sell holds x.sells h.sells }
        go (Some _) = r
