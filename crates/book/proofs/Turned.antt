-- A ranking for buyers, and the same turned round for sellers, make the same rules.
use Rattle.std.proofs.Common.{◌≡◌, ℕ, ◌-◌, min, Bool, true, false, cond, not, ◌&&◌, ◌||◌, eqb, leb, List, [], ◌∷◌, Some, None, fold, Option, refl, ap, ◌∙◌}
use Rattle.allocation.specs.Dealings.{Deal}
use Rattle.rules.specs.declared.orders.Side.{Side}
use Rattle.rules.specs.declared.orders.Side.TheVariants.{Buy, Sell}
use Rattle.rules.specs.declared.orders.Kind.{Kind}
use Rattle.rules.specs.declared.orders.Order.{Order}
use Rattle.rules.specs.declared.calls.Call.{Call}
use Rattle.rules.specs.declared.calls.Call.TheVariants.{Open, Halt, Resume, Close, Quote, Enter, Cancel, Reduce}
use Rattle.rules.specs.declared.answers.Refusal.{Refusal}
use Rattle.rules.specs.declared.answers.Row.{Row}
use Rattle.rules.specs.Books.{Level, Ranking, Book, part, nothing_at, good, side, other, away, with_side}
use Rattle.rules.specs.Quantities.{best}
use Rattle.rules.specs.Changes.{on_price, put_shown, put_hidden}
use Rattle.rules.specs.Marks.{beats, quoted, mark_at, earns_mark}
use Rattle.rules.specs.Trading.{Traded, traded, has_limit, in_reach, trade_side}
use Rattle.rules.specs.Reserve.{is_reserve, join_hidden, show_anew, hidden_of, on, replenish_order, replenish}
use Rattle.rules.specs.Refusals.{first, refusals, rests, next_phase, phase_after}
use Rattle.rules.specs.Entering.{Outcome, done, place, shown_part, hidden_part, two_parts, with_order, arrived, trade, not_placed, finished, enter}
use Rattle.rules.specs.Rules.{effect, settled, ruled, rule}
use Rattle.rules.specs.Runs.{Ask, run}

module _ (g : ℕ → ℕ → Bool) where
  abbrev r : Ranking
  r = record { letter = Buy; good = g }

  abbrev t : Ranking
  t = record { letter = Sell; good = λ a b. g b a }

  good_same : (s : Side) (a b : ℕ) → good r s a b ≡ good t s a b
  good_same Buy a b = refl
  good_same Sell a b = refl

  on_price_same : (s : Side) (v : ℕ) (f : Level → Level) (ls : List Level) → on_price r s v f ls ≡ on_price t s v f ls
  unfolding on_price
  on_price_same s v f [] = refl
  on_price_same s v f (l ∷ ls) = let ih = on_price_same s v f ls in λ i. cond (eqb l.price v) (f l ∷ ls) (cond (good_same s v l.price i) (f (nothing_at v) ∷ l ∷ ls) (l ∷ ih i))

  on_same : (e : Order) (f : Level → Level) (b : Book) → on r e f b ≡ on t e f b
  on_same e f b = ap (λ ls. with_side e.side ls b) (on_price_same e.side e.price f (side e.side b))

  beats_same : (s : Side) (v : ℕ) (o : Option ℕ) → beats r s v o ≡ beats t s v o
  beats_same s v None = refl
  beats_same s v (Some w) = ap not (good_same s w v)

  earns_same : (s : Side) (v n : ℕ) (b : Book) → earns_mark r s v n b ≡ earns_mark t s v n b
  unfolding earns_mark
  earns_same s v n b = λ i. leb b.lot n && beats_same s v (best b.lot (side s b)) i && beats_same s v (quoted (away s b)) i && not (mark_at v (side s b))

  reach_same : (b : Book) (e : Order) → in_reach r b e ≡ in_reach t b e
  unfolding in_reach
  reach_same b e = λ i v.
      let s : Side = other e.side in
      cond (has_limit e.kind) (good_same s v e.price i) true && (eqb (away s b) 0 || good_same s v (away s b) i)

  replenish_order_same : (b : Book) (e : Order) → replenish_order r b e ≡ replenish_order t b e
  unfolding replenish_order
  replenish_order_same b e =
      let c : on r e (join_hidden b.lot e.number) b ≡ on t e (join_hidden b.lot e.number) b = on_same e (join_hidden b.lot e.number) b in
      let shows : Ranking → Ranking → Book → Book = λ x y k. on x e (show_anew b.lot e (earns_mark y e.side e.price (min e.display (hidden_of e.number (side e.side k))) k)) k in
      let marks : (k : Book) → shows r r k ≡ shows t t k = λ k.
      on_same e (show_anew b.lot e (earns_mark r e.side e.price (min e.display (hidden_of e.number (side e.side k))) k)) k
      ∙ ap (λ m. on t e (show_anew b.lot e m) k) (earns_same e.side e.price (min e.display (hidden_of e.number (side e.side k))) k) in
      ap (λ x. cond (is_reserve e.kind) x b) (marks (on r e (join_hidden b.lot e.number) b) ∙ ap (shows t t) c)

  replenish_same : (b : Book) → replenish r b ≡ replenish t b
  unfolding replenish
  replenish_same b = ap (λ h. fold h b b.orders) (λ i x e. replenish_order_same x e i)

  place_same : (k : Kind) (e : Order) (n : ℕ) (b : Book) → place r k e n b ≡ place t k e n b
  unfolding place
  place_same Kind.Limit e n b = on_same e (put_shown (shown_part r b e n)) b ∙ ap (λ m. on t e (put_shown (part e.number e.participant n m)) b) (earns_same e.side e.price n b)
  place_same Kind.Hidden e n b = on_same e (put_hidden (hidden_part e n)) b
  place_same Kind.Reserve e n b =
      let d : ℕ = min e.display n in
      on_same e (two_parts r b e n) b
      ∙ ap (λ m. on t e (λ l. cond (eqb (n - d) 0) (put_shown (part e.number e.participant d m) l) (put_hidden (hidden_part e (n - d)) (put_shown (part e.number e.participant d m) l))) b) (earns_same e.side e.price d b)
  place_same Kind.Immediate e n b = refl
  place_same Kind.Market e n b = refl

  not_placed_same : (b : Book) (e : Order) → not_placed r b e ≡ not_placed t b e
  unfolding not_placed
  not_placed_same b e = λ i. not (rests e.kind) || (not (eqb (away (other e.side) b) 0) && good_same (other e.side) (away (other e.side) b) e.price i)

  finished_same : (x y : Bool) (e : Order) (n : ℕ) (rs : List Row) (b : Book) → finished x y r e n rs b ≡ finished x y t e n rs b
  finished_same true y e n rs b = refl
  finished_same false true e n rs b = refl
  finished_same false false e n rs b = ap (λ c. done (e.quantity - n) 0 rs (with_order e c)) (place_same e.kind e n b)

  module _ (deal : Deal) where
    trade_same : (e : Order) (b : Book) → trade r deal e b ≡ trade t deal e b
    unfolding trade
    trade_same e b =
        let s : Side = other e.side in
        let meets : (ℕ → Bool) → Traded (List Level) = λ reaches. trade_side deal b.lot e.number b.steps reaches e.quantity (side s b) in
        (λ i. traded (meets (in_reach r b e)).left (meets (in_reach r b e)).rows (replenish_same (with_side s (meets (in_reach r b e)).rest b) i))
        ∙ ap (λ reaches. traded (meets reaches).left (meets reaches).rows (replenish t (with_side s (meets reaches).rest b))) (reach_same b e)

    enter_same : (e : Order) (b : Book) → enter r deal e b ≡ enter t deal e b
    unfolding enter
    enter_same e b =
        let d : Traded Book = trade r deal e (arrived e b) in
        finished_same (eqb d.left 0) (not_placed r b e) e d.left d.rows d.rest
        ∙ ap (λ y. finished (eqb d.left 0) y t e d.left d.rows d.rest) (not_placed_same b e)
        ∙ ap (λ x. finished (eqb x.left 0) (not_placed t b e) t e x.left x.rows x.rest) (trade_same e (arrived e b))

    effect_same : (b : Book) (c : Call) → effect r deal b c ≡ effect t deal b c
    unfolding effect
    effect_same b Open = refl
    effect_same b Halt = refl
    effect_same b Resume = refl
    effect_same b Close = refl
    effect_same b (Quote bid offer) = refl
    effect_same b (Enter e) = enter_same e b
    effect_same b (Cancel n) = refl
    effect_same b (Reduce n m) = refl

    ruled_same : (o : Option Refusal) (b : Book) (c : Call) → ruled o r deal b c ≡ ruled o t deal b c
    ruled_same (Some x) b c = refl
    ruled_same None b c = ap (settled (next_phase b.phase (phase_after b.phase c))) (effect_same b c)

    rule_same : (b : Book) (room : ℕ) (c : Call) → rule r deal b room c ≡ rule t deal b room c
    unfolding rule
    rule_same b room c = ruled_same (first (refusals b room c)) b c

    pub run_same : (b : Book) (asks : List Ask) → run r deal b asks ≡ run t deal b asks
    run_same b [] = refl
    run_same b (c ∷ cs) =
        (λ i. record { before = b; ask = c; did = rule_same b c.0 c.1 i } ∷ run r deal (rule r deal b c.0 c.1).book cs)
        ∙ ap (λ x. record { before = b; ask = c; did = rule t deal b c.0 c.1 } ∷ x)
        (run_same (rule r deal b c.0 c.1).book cs ∙ ap (λ (d : Outcome). run t deal d.book cs) (rule_same b c.0 c.1))
