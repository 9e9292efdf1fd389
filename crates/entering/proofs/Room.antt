-- The room that trading leaves for what is left of an order. Assumes nothing.
use Rattle.std.proofs.Common.{◌≡◌, ◌+◌, ◌*◌, ◌<◌, ◌≤◌, min, Bool, true, false, cond, ◌&&◌, eqb, leb, List, [], ◌∷◌, length, fold, sym, refl, ap, ◌∙◌, subst, arith}
use mathlib.Core.Bool.{false≢true}
use Rattle.std.specs.List.{AllByRecursion}
use Rattle.std.proofs.lemmas.List.{length-map}
use Rattle.std.proofs.lemmas.Bool.{leb-false}
use Rattle.std.proofs.ByRecursion.{All-weaker}
use Rattle.allocation.specs.Rankings.{TotalOrder}
use Rattle.allocation.specs.Dealings.{Deal, Lawful}
use Rattle.rules.proofs.Smallness.{in_range}
use Rattle.rules.specs.declared.orders.Side.{Side}
use Rattle.rules.specs.declared.orders.Side.TheVariants.{Buy, Sell}
use Rattle.rules.specs.declared.orders.Order.{Order}
use Rattle.rules.specs.Books.{Ranking, Book, Level, side, other, with_side}
use Rattle.rules.specs.Changes.{on_price}
use Rattle.rules.specs.Marks.{earns_mark}
use Rattle.rules.specs.Trading.{Traded, trade_side, in_reach}
use Rattle.rules.specs.Reserve.{on, join_hidden, show_anew, hidden_of, replenish_order, replenish, is_reserve}
use Rattle.rules.specs.Refusals.{rests}
use Rattle.rules.specs.Entering.{trade, arrived}
use Rattle.rules.specs.Invariants.{SoundBook, SoundLevel, Admitted, numbers}
use Rattle.rules.specs.Sizes.{parts_on, Small}
use Rattle.rules.proofs.Fits.{Displays, AfterTrade, after_trading, side_good}
use Rattle.rules.proofs.Ranked.{sorted_side, trade_side_prices}
use Rattle.rules.proofs.Listing.{own_each}
use Rattle.rules.proofs.Tending.{Midway, all_midway, orderly_side}
use Rattle.rules.proofs.Counting.{few_parts, few_levels}
use Rattle.rules.proofs.Smallness.{sound_small}
use Rattle.rules.proofs.Numbering.{sound_fit, rising_distinct, rising_below, admitted_displays}
use Rattle.rules.proofs.Remainder.{EntryAllowed, met_side, midway_met}
use Rattle.levels.specs.Heads.{count}
use Rattle.trading.proofs.Bounded.{side_few}
use Rattle.resting.proofs.Refilled.{length_on_price}
use Rattle.entering.specs.Remainders.{Ready}

count_parts : (ls : List Level) → count ls ≡ parts_on ls
count_parts [] = refl
count_parts (l ∷ ls) = omega (arith, count_parts ls)

-- ## How many levels there are

on_levels : (rank : Ranking) (e : Order) (f : Level → Level) (b : Book) (t : Side) → length (side t (on rank e f b)) ≤ length (side t b) + 1
on_levels rank e f b = go e.side
  where
    go : (s t : Side) → length (side t (with_side s (on_price rank s e.price f (side s b)) b)) ≤ length (side t b) + 1
    go Buy Buy = length_on_price rank Buy e.price f b.buys
    go Buy Sell = omega arith
    go Sell Buy = omega arith
    go Sell Sell = length_on_price rank Sell e.price f b.sells

replenish_order_levels : (rank : Ranking) (b : Book) (e : Order) (t : Side) → length (side t (replenish_order rank b e)) ≤ length (side t b) + 2
unfolding replenish_order
replenish_order_levels rank b e t = go (is_reserve e.kind)
  where
    c : Book
    c = on rank e (join_hidden b.lot e.number) b

    mark : Bool
    mark = earns_mark rank e.side e.price (min e.display (hidden_of e.number (side e.side c))) c

    go : (u : Bool) → length (side t (cond u (on rank e (show_anew b.lot e mark) c) b)) ≤ length (side t b) + 2
    go true = omega (arith, on_levels rank e (join_hidden b.lot e.number) b t, on_levels rank e (show_anew b.lot e mark) c t)
    go false = omega arith

all_levels : (rank : Ranking) (b : Book) (es : List Order) (t : Side) → length (side t (fold (replenish_order rank) b es)) ≤ length (side t b) + 2 * length es
all_levels rank b [] t = omega arith
all_levels rank b (e ∷ es) t = omega (arith, all_levels rank (replenish_order rank b e) es t, replenish_order_levels rank b e t)

met_levels : (t s : Side) (ls : List Level) (b : Book) → length ls ≡ length (side s b) → length (side t (with_side s ls b)) ≡ length (side t b)
met_levels Buy Buy ls b h = h
met_levels Buy Sell ls b h = refl
met_levels Sell Buy ls b h = refl
met_levels Sell Sell ls b h = h

one_of_both : (t : Side) (b : Book) → length (side t b) ≤ length b.buys + length b.sells
one_of_both Buy b = omega arith
one_of_both Sell b = omega arith

-- ## After the trades

module _ (rank : Ranking) (O : TotalOrder rank.good) (deal : Deal) (D : Lawful deal) where
  module _ (b : Book) (e : Order) (s : SoundBook rank b) where
    met : Book
    met = with_side (other e.side) (met_side rank O deal D b e) (arrived e b)

    displays : AllByRecursion Displays b.orders
    displays = All-weaker (Admitted b.lot) Displays (λ x a. admitted_displays b.lot x a) b.orders s.admitted

    midway : Midway rank O b.lot s.lot b.orders (trade rank deal e (arrived e b)).rest
    unfolding trade replenish met
    midway = all_midway rank O b.lot s.lot b.orders met b.orders displays (own_each b.orders) (midway_met rank O deal D b e s s.lot)

    pub parts_left : (t : Side) → parts_on (side t (trade rank deal e (arrived e b)).rest) ≤ 3 * length b.orders
    parts_left t =
        let x : Book = (trade rank deal e (arrived e b)).rest in
        few_parts rank O b.orders t (side t x) (rising_distinct b.last (numbers b.orders) s.rising) (sorted_side rank O t x midway.ranked) (orderly_side b.orders t x midway.both)

    met_length : length (met_side rank O deal D b e) ≡ length (side (other e.side) b)
    met_length =
        let t : Side = other e.side in
        sym (length-map (met_side rank O deal D b e) (λ l. l.price))
        ∙ ap length (trade_side_prices deal b.lot e.number b.steps (in_reach rank (arrived e b) e) e.quantity (side t b))
        ∙ length-map (side t b) (λ l. l.price)

    pub levels_left : (t : Side) → length (side t (trade rank deal e (arrived e b)).rest) ≤ 3 * length b.orders
    unfolding trade replenish met
    levels_left t =
        omega (
          arith,
          all_levels rank met b.orders t,
          met_levels t (other e.side) (met_side rank O deal D b e) (arrived e b) met_length,
          one_of_both t b,
          few_levels rank O b.orders b.buys b.sells (rising_distinct b.last (numbers b.orders) s.rising) s.buys.sorted s.sells.sorted s.buys.occupied s.sells.occupied s.buys.orderly s.sells.orderly,
        )

    pub rows_few : length (trade rank deal e (arrived e b)).rows ≤ 384
    unfolding trade
    rows_few =
        let t : Side = other e.side in
        let m : Small b = sound_small rank O b s in
        let g : AllByRecursion (SoundLevel b.lot) (side t b) = side_good b.lot t b (sound_fit rank b s).sides in
        let few = side_few deal D b.lot e.number b.steps (in_reach rank (arrived e b) e) e.quantity (side t b) g in
        go t few m.parts
      where
        go : (t : Side) → length (trade_side deal b.lot e.number b.steps (in_reach rank (arrived e b) e) e.quantity (side (other e.side) b)).rows ≤ count (side t b) → parts_on b.buys + parts_on b.sells ≤ 3 * 128
            → length (trade_side deal b.lot e.number b.steps (in_reach rank (arrived e b) e) e.quantity (side (other e.side) b)).rows ≤ 384
        go Buy h m = omega (arith, h, m, count_parts b.buys)
        go Sell h m = omega (arith, h, m, count_parts b.sells)

    -- a book that an order has traded with is ready for the rest of it
    pub ready : EntryAllowed b e → (let r : Traded Book = trade rank deal e (arrived e b) in Ready e r.left r.rest)
    ready a =
        let r : Traded Book = trade rank deal e (arrived e b) in
        let T : AfterTrade b.lot e b r = after_trading rank deal D b.lot e b (sound_fit rank b s) in
        record {
          known = ((in_range 1 24 e.participant a.participant).0, (let h = (in_range 1 24 e.participant a.participant).1 in omega (arith, h)));
          small = (in_range 1 500000 e.quantity a.quantity).1;
          left = (T.even 0).less;
          unlisted = subst (λ os. AllByRecursion (λ o. eqb e.number o.number ≡ false) os) (sym T.same.orders) (rising_below b.last e.number b.orders s.rising a.new);
          absent = omega (arith, (T.even e.number).rest, (sound_fit rank b s).fresh e.number a.new);
          table = λ k. (let h = room k in omega (arith, h, ap length T.same.orders));
          parts = λ k. (let h = room k in omega (arith, h, parts_left e.side, count_parts (side e.side r.rest)));
          prices = λ k. (let h = room k in omega (arith, h, levels_left e.side));
        }
      where
        room : rests e.kind ≡ true → length b.orders < 128
        room k = leb-false 128 (length b.orders) (go (leb 128 (length b.orders)) a.room)
          where
            go : (t : Bool) → (t && rests e.kind) ≡ false → t ≡ false
            go true h = absurd (false≢true (sym h ∙ k))
            go false h = refl
