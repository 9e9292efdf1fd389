-- What trading and placing leave as it was: the phase and the away quote. Assumes nothing.
use Rattle.std.proofs.Common.{◌≡◌, ℕ, min, Bool, true, false, cond, not, ◌&&◌, ◌||◌, eqb, List, [], ◌∷◌, fold, sym, refl, ap, ◌∙◌}
use Rattle.allocation.specs.Dealings.{Deal}
use Rattle.rules.specs.declared.orders.Side.{Side}
use Rattle.rules.specs.declared.orders.Side.TheVariants.{Buy, Sell}
use Rattle.rules.specs.declared.orders.Kind.{Kind}
use Rattle.rules.specs.declared.orders.Order.{Order}
use Rattle.rules.specs.declared.phases.Phase.{Phase}
use Rattle.rules.specs.Books.{Ranking, Book, good, other, side, away, with_side, with_phase}
use Rattle.rules.specs.Marks.{earns_mark}
use Rattle.rules.specs.Reserve.{on, join_hidden, show_anew, hidden_of, replenish_order, replenish, is_reserve}
use Rattle.rules.specs.Trading.{trade_side, in_reach}
use Rattle.rules.specs.Refusals.{rests}
use Rattle.rules.specs.Entering.{trade, arrived, not_placed, place, finished}

pub record Still (b c : Book) : Type 0 where
  pub phase : c.phase ≡ b.phase
  pub bid : c.bid ≡ b.bid
  pub offer : c.offer ≡ b.offer

replenish_order_still : (rank : Ranking) (b : Book) (e : Order) → Still b (replenish_order rank b e)
unfolding replenish_order
replenish_order_still rank b e = go (is_reserve e.kind)
  where
    c : Book
    c = on rank e (join_hidden b.lot e.number) b

    mark : Bool
    mark = earns_mark rank e.side e.price (min e.display (hidden_of e.number (side e.side c))) c

    go : (t : Bool) → Still b (cond t (on rank e (show_anew b.lot e mark) c) b)
    go true = record { phase = refl; bid = refl; offer = refl }
    go false = record { phase = refl; bid = refl; offer = refl }

all_still : (rank : Ranking) (b : Book) (es : List Order) → Still b (fold (replenish_order rank) b es)
all_still rank b [] = record { phase = refl; bid = refl; offer = refl }
all_still rank b (e ∷ es) =
    let r : Still (replenish_order rank b e) (fold (replenish_order rank) (replenish_order rank b e) es) = all_still rank (replenish_order rank b e) es in
    let s : Still b (replenish_order rank b e) = replenish_order_still rank b e in
    record { phase = r.phase ∙ s.phase; bid = r.bid ∙ s.bid; offer = r.offer ∙ s.offer }

pub trade_still : (rank : Ranking) (deal : Deal) (e : Order) (b : Book) → Still b (trade rank deal e (arrived e b)).rest
unfolding trade replenish
trade_still rank deal e b =
    let c : Book = arrived e b in
    let s : Side = other e.side in
    let x : Book = with_side s (trade_side deal b.lot e.number b.steps (in_reach rank c e) e.quantity (side s b)).rest c in
    let q : Still x (fold (replenish_order rank) x b.orders) = all_still rank x b.orders in
    record { phase = q.phase; bid = q.bid; offer = q.offer }

away_still : (s : Side) (b c : Book) → Still b c → away s c ≡ away s b
away_still Buy b c h = h.bid
away_still Sell b c h = h.offer

-- whether a remainder is given back is the same before and after the trades
pub not_placed_still : (rank : Ranking) (e : Order) (b c : Book) → Still b c → not_placed rank c e ≡ not_placed rank b e
unfolding not_placed
not_placed_still rank e b c h = ap (λ q. not (rests e.kind) || (not (eqb q 0) && good rank (other e.side) q e.price)) (away_still (other e.side) b c h)

place_phase : (rank : Ranking) (k : Kind) (e : Order) (n : ℕ) (b : Book) → (place rank k e n b).phase ≡ b.phase
unfolding place
place_phase rank Kind.Limit e n b = refl
place_phase rank Kind.Hidden e n b = refl
place_phase rank Kind.Reserve e n b = refl
place_phase rank Kind.Immediate e n b = refl
place_phase rank Kind.Market e n b = refl

pub finished_phase : (t u : Bool) (rank : Ranking) (e : Order) (n : ℕ) (b : Book) → (finished t u rank e n [] b).book.phase ≡ b.phase
finished_phase true u rank e n b = refl
finished_phase false true rank e n b = refl
finished_phase false false rank e n b = place_phase rank e.kind e n b

-- a book in a phase that it is in
pub same_phase : (p : Phase) (b : Book) → b.phase ≡ p → with_phase p b ≡ b
same_phase p b h = ap (λ q. with_phase q b) (sym h)
