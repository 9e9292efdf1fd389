-- Trades come in order. Assumes nothing.
use Rattle.std.proofs.Common.{◌≡◌, ℕ, ◌<◌, ◌≤◌, Bool, true, false, cond, eqb, List, [], ◌∷◌, map, Some, None, filter, Option, sym, refl, ap, ◌∙◌, subst, append-nil, arith}
use Rattle.std.specs.List.{AllByRecursion}
use Rattle.std.proofs.lemmas.List.Elements.{filter-append}
use Rattle.allocation.specs.Rankings.{TotalOrder}
use Rattle.allocation.specs.Dealings.{Deal, Lawful}
use Rattle.rules.specs.declared.orders.Side.{Side}
use Rattle.rules.specs.declared.orders.Order.{Order}
use Rattle.rules.specs.declared.phases.Step.{Step}
use Rattle.rules.specs.declared.calls.Call.TheVariants.{Enter}
use Rattle.rules.specs.declared.answers.Refusal.{Refusal}
use Rattle.rules.specs.declared.answers.Row.{Row}
use Rattle.rules.specs.declared.answers.Row.TheVariants.{Trade, GivenBack}
use Rattle.rules.specs.Lists.{sum_of}
use Rattle.rules.specs.Books.{Ranking, Book, good, Level, side, other}
use Rattle.rules.specs.Trading.{trade_side, in_reach, Traded}
use Rattle.rules.specs.Refusals.{first, refusals}
use Rattle.rules.specs.Entering.{trade, finished, enter, arrived, not_placed}
use Rattle.rules.specs.Rules.{rule, effect, ruled, new_with}
use Rattle.rules.specs.Runs.{run, Ask, Entered}
use Rattle.rules.specs.OrderLaw.{Reached, is_trade, rows_for, forget, at_levels, Better, InOrder, TradesInOrder}
use Rattle.rules.specs.Invariants.{SoundLevel, BestFirst, prices}
use Rattle.rules.specs.Codes.{answer_number}
use Rattle.rules.proofs.Chains.{reached, chain_within, chain_full, chain_sum, chain_order}
use Rattle.rules.proofs.Crossing.{Fine, fine_good, crossed}
use Rattle.rules.proofs.Fits.{Fit, side_good}
use Rattle.rules.proofs.Rulings.{rule_did, refusal_some}
use Rattle.rules.proofs.Sum.{fresh_fit}
use Rattle.rules.proofs.Ranked.{Ranked, sorted_side, rule_ranked}

kept_trades : (a : ℕ) (ms : List Reached) → filter is_trade (rows_for a ms) ≡ rows_for a ms
kept_trades a [] = refl
kept_trades a (m ∷ ms) = go (eqb m.share 0) (kept_trades a ms)
  where
    go : (t : Bool) → filter is_trade (rows_for a ms) ≡ rows_for a ms
        → filter is_trade (cond t (rows_for a ms) (Trade m.step m.order a m.price m.share ∷ rows_for a ms)) ≡ cond t (rows_for a ms) (Trade m.step m.order a m.price m.share ∷ rows_for a ms)
    go true ih = ih
    go false ih = rw ih

finished_rows : (t u : Bool) (rank : Ranking) (e : Order) (n : ℕ) (rs : List Row) (b : Book) → filter is_trade (finished t u rank e n rs b).rows ≡ filter is_trade rs
finished_rows true u rank e n rs b = refl
finished_rows false true rank e n rs b = filter-append is_trade rs (GivenBack e.number n ∷ []) ∙ append-nil (filter is_trade rs)
finished_rows false false rank e n rs b = refl

module _ (rank : Ranking) (O : TotalOrder rank.good) (deal : Deal) (D : Lawful deal) where
  pub record Core (s : Side) (lot a q : ℕ) (reaches : ℕ → Bool) (ls : List Level) (ss : List Step) : Type 0 where
    pub mets' : List Reached
    pub whom' : map forget mets' ≡ at_levels lot ss (filter (λ l. reaches l.price) ls)
    pub rows' : (trade_side deal lot a ss reaches q ls).rows ≡ rows_for a mets'
    pub within' : AllByRecursion (λ x. x.share ≤ x.size) mets'
    pub best_first' : AllByRecursion (λ y. AllByRecursion (λ x. Better rank s ss x y → 0 < y.share → x.share ≡ x.size) mets') mets'
    pub left_over' : sum_of (λ x. x.share) mets' < q → AllByRecursion (λ x. x.share ≡ x.size) mets'

  pub core : (s : Side) (lot a q : ℕ) (reaches : ℕ → Bool) (ls : List Level) (ss : List Step) → Fine ss → AllByRecursion (SoundLevel lot) ls → BestFirst rank s (prices ls) → Core s lot a q reaches ls ss
  core s lot a q reaches ls ss f g o =
      let left : ℕ = (trade_side deal lot a ss reaches q ls).left in
      let c = crossed rank O s deal D lot a ss f reaches q ls g o in
      record {
        mets' = reached c.groups;
        whom' = c.all_reached;
        rows' = c.same_rows;
        within' = chain_within q c.groups left c.chain;
        best_first' = chain_order rank O s ss q c.groups left c.chain c.ordered;
        left_over' = λ some. chain_full q c.groups left c.chain (omega (arith, chain_sum q c.groups left c.chain));
      }

  enter_in_order : (lot : ℕ) (e : Order) (b : Book) → Fit lot b → Ranked rank O b → InOrder rank b e (enter rank deal e b)
  unfolding enter trade in_reach
  enter_in_order lot e b f r =
      let s : Side = other e.side in
      let c : Core s b.lot e.number e.quantity (in_reach rank b e) (side s b) b.steps =
      core s b.lot e.number e.quantity (in_reach rank b e) (side s b) b.steps r.steps (subst (λ k. AllByRecursion (SoundLevel k) (side s b)) (sym f.sides.is) (side_good lot s b f.sides)) (sorted_side rank O s b r) in
      let x : Traded Book = trade rank deal e (arrived e b) in
      record {
        reached = c.mets';
        all_reached = c.whom';
        rows = finished_rows (eqb x.left 0) (not_placed rank b e) rank e x.left x.rows x.rest ∙ ap (filter is_trade) c.rows' ∙ kept_trades e.number c.mets';
        within = c.within';
        best_first = c.best_first';
        left_over = c.left_over';
      }

  rule_in_order : (lot : ℕ) (e : Order) (b : Book) (room : ℕ) → Fit lot b → Ranked rank O b → answer_number (rule rank deal b room (Enter e)).answer ≡ 0 → InOrder rank b e (rule rank deal b room (Enter e))
  unfolding rule effect
  rule_in_order lot e b room f r = go (first (refusals b room (Enter e)))
    where
      go : (o : Option Refusal) → answer_number (ruled o rank deal b (Enter e)).answer ≡ 0 → InOrder rank b e (ruled o rank deal b (Enter e))
      go None h =
          let i : InOrder rank b e (enter rank deal e b) = enter_in_order lot e b f r in
          record { reached = i.reached; all_reached = i.all_reached; rows = i.rows; within = i.within; best_first = i.best_first; left_over = i.left_over }
      go (Some x) h = absurd (omega (arith, refusal_some x))

  run_in_order : (lot : ℕ) (b : Book) (asks : List Ask) → Fit lot b → Ranked rank O b → AllByRecursion (λ v. (e : Order) → Entered v e → InOrder rank v.before e v.did) (run rank deal b asks)
  run_in_order lot b [] f r = tt
  run_in_order lot b (a ∷ asks) f r = (
    (λ e p. subst (λ c. InOrder rank b e (rule rank deal b a.0 c)) (sym p.0)
        (rule_in_order lot e b a.0 f r (subst (λ c. answer_number (rule rank deal b a.0 c).answer ≡ 0) p.0 p.1))),
    run_in_order lot (rule rank deal b a.0 a.1).book asks (rule_did rank deal D lot b a.0 a.1 f).did.fit (rule_ranked rank O deal b a.0 a.1 r),
  )

  pub trades_in_order : TradesInOrder rank deal
  trades_in_order lot pos table good asks = run_in_order lot (new_with lot table) asks (fresh_fit rank deal D lot pos table) (record { steps = fine_good table good; buys = tt; sells = tt })
