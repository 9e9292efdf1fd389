-- After replenishing no reserve order runs low. Assumes nothing.
use Rattle.std.proofs.Common.{◌≡◌, ℕ, ◌<◌, ◌≤◌, min, Bool, true, false, eqb, List, [], ◌∷◌, fold, sym, refl, ap, ◌∙◌, subst, arith}
use mathlib.Core.Bool.{false≢true}
use Rattle.std.specs.List.{AllByRecursion}
use Rattle.std.proofs.lemmas.Bool.{eqb-true, eqb-false, ne_eqb, and_parts}
use Rattle.std.proofs.ByRecursion.{All-weaker}
use Rattle.allocation.specs.Rankings.{TotalOrder}
use Rattle.rules.specs.declared.orders.Side.{Side}
use Rattle.rules.specs.declared.orders.Side.TheVariants.{Buy, Sell}
use Rattle.rules.specs.declared.orders.Order.{Order}
use Rattle.rules.specs.declared.orders.Part.{Part}
use Rattle.rules.specs.Lists.{Distinct, has}
use Rattle.rules.specs.Books.{Book, nothing_at, Ranking, Level, side, with_side, same_side}
use Rattle.rules.specs.Quantities.{of_order}
use Rattle.rules.specs.Changes.{on_price}
use Rattle.rules.specs.Marks.{earns_mark}
use Rattle.rules.specs.Reserve.{runs_low, on, replenish_order, is_reserve, join_hidden, hidden_of, show_anew}
use Rattle.rules.specs.Invariants.{listed, Orderly, BestFirst, prices, SoundLevel, numbers}
use Rattle.rules.proofs.Renewed.{renewed_by}
use Rattle.rules.proofs.Fits.{Displays}
use Rattle.rules.proofs.Ranked.{on_price_sorted, join_hidden_still}
use Rattle.rules.proofs.AtPrice.{on_price_each, on_price_to}
use Rattle.rules.proofs.Orderly.{LowShowsOne}
use Rattle.rules.proofs.Listing.{OwnListed, Unique, none_of, others}
use Rattle.rules.proofs.Lows.{not_low, shown_anew_not_low, shown_anew_other, joined_other}
use Rattle.rules.proofs.Tending.{joined_side, Midway, midway_renewed}

abbrev pub Rested : ℕ → ℕ → Book → Type 0
Rested lot n b = AllByRecursion (λ l. runs_low lot n l ≡ false) b.buys × AllByRecursion (λ l. runs_low lot n l ≡ false) b.sells

pub nothing_low : (lot n v : ℕ) → runs_low lot n (nothing_at v) ≡ false
nothing_low lot n v = not_low lot 0 0 (λ h. omega arith)

-- ## Other orders

pub on_rested : (rank : Ranking) (e : Order) (lot k : ℕ) (f : Level → Level) (b : Book) → runs_low lot k (f (nothing_at e.price)) ≡ false → ((l : Level) → runs_low lot k l ≡ false → runs_low lot k (f l) ≡ false) → Rested lot k b → Rested lot k (on rank e f b)
on_rested rank e lot k f b fresh step h = go e.side
  where
    go : (s : Side) → Rested lot k (with_side s (on_price rank s e.price f (side s b)) b)
    go Buy = (on_price_each (λ l. runs_low lot k l ≡ false) rank Buy e.price f b.buys (nothing_low lot k e.price) step h.0, h.1)
    go Sell = (h.0, on_price_each (λ l. runs_low lot k l ≡ false) rank Sell e.price f b.sells (nothing_low lot k e.price) step h.1)

pub rested_other : (rank : Ranking) (lot k : ℕ) (b : Book) (e : Order) → eqb e.number k ≡ false → Rested lot k b → Rested lot k (replenish_order rank b e)
rested_other rank lot k b e ne h =
    renewed_by (Rested lot k) rank b e h (λ mark _.
    on_rested rank e lot k (show_anew b.lot e mark) (on rank e (join_hidden b.lot e.number) b) (shown_anew_other lot k b.lot e mark (nothing_at e.price) ne ∙ nothing_low lot k e.price) (λ l i. shown_anew_other lot k b.lot e mark l ne ∙ i)
    (on_rested rank e lot k (join_hidden b.lot e.number) b (joined_other lot k b.lot e.number (nothing_at e.price) ne ∙ nothing_low lot k e.price) (λ l i. joined_other lot k b.lot e.number l ne ∙ i) h))

pub rested_others : (rank : Ranking) (lot k : ℕ) (b : Book) (xs : List Order) → AllByRecursion (λ x. eqb x.number k ≡ false) xs → Rested lot k b → Rested lot k (fold (replenish_order rank) b xs)
rested_others rank lot k b [] ne h = h
rested_others rank lot k b (x ∷ xs) ne h = rested_others rank lot k (replenish_order rank b x) xs ne.1 (rested_other rank lot k b x ne.0 h)

-- ## The order itself

-- where an order's parts cannot be, it does not run low
absent_not_low : (es : List Order) (s : Side) (lot n : ℕ) (l : Level) → ((p : Part) → listed es s l.price p ≡ true → p.order ≡ n → ⊥) → Orderly es s l → runs_low lot n l ≡ false
absent_not_low es s lot n l never o = not_low lot (of_order n l.shown.parts) (of_order n l.hidden.parts) (λ some. (let gone = none_of es s l.price n l.hidden.parts o.1.listed never in omega arith))

other_side_not_low : (es : List Order) (s : Side) (lot : ℕ) (e : Order) (ls : List Level) → Unique es e → same_side e.side s ≡ false → AllByRecursion (Orderly es s) ls → AllByRecursion (λ l. runs_low lot e.number l ≡ false) ls
other_side_not_low es s lot e ls u ne h =
    All-weaker (Orderly es s) (λ l. runs_low lot e.number l ≡ false)
    (λ l o. absent_not_low es s lot e.number l
    (λ p i same. (let b = u s l.price p i same in
    let c = (and_parts (eqb p.participant e.participant) _ (and_parts (eqb e.number p.order) _ b).1).1 in
    false≢true (sym ne ∙ (and_parts (same_side e.side s) _ c).0))) o) ls h

module _ (rank : Ranking) (O : TotalOrder rank.good) (lot : ℕ) (pos : 0 < lot) where
  own_side : (es : List Order) (s : Side) (e : Order) (mark : Bool) (ls : List Level) → BestFirst rank s (prices ls) → AllByRecursion (SoundLevel lot) ls → Unique es e → lot ≤ e.display → AllByRecursion (Orderly es s) ls
      → AllByRecursion (λ l. runs_low lot e.number l ≡ false) (on_price rank s e.price (show_anew lot e mark) (on_price rank s e.price (join_hidden lot e.number) ls))
  own_side es s e mark ls o g u enough h =
      let v : ℕ = e.price in
      let n : ℕ = e.number in
      let xs : List Level = on_price rank s v (join_hidden lot n) ls in
      on_price_to rank O s (λ l. Orderly es s l × (l.price ≡ v → LowShowsOne lot n l)) (λ l. runs_low lot n l ≡ false) v (show_anew lot e mark) xs (on_price_sorted rank O s v (join_hidden lot n) ls (join_hidden_still lot n) o)
      (shown_anew_not_low lot e mark (nothing_at v) enough)
      (λ l same k. shown_anew_not_low lot e mark l enough)
      (λ l ne k. absent_not_low es s lot n l (λ p i same.
      (let b = u s l.price p i same in
      let c = (and_parts (eqb p.participant e.participant) _ (and_parts (eqb e.number p.order) _ b).1).1 in
      ne (sym (eqb-true e.price l.price (and_parts (same_side e.side s) _ c).1)))) k.0)
      (joined_side rank O lot pos es s v n ls o g h)

  own_both : (es : List Order) (e : Order) (s : Side) (k : ℕ) (b : Book) → k ≡ lot → e.side ≡ s → Midway rank O lot pos es b → Unique es e → lot ≤ e.display
      → (let c : Book = with_side s (on_price rank s e.price (join_hidden k e.number) (side s b)) b in
      (mark : Bool) → Rested lot e.number (with_side s (on_price rank s e.price (show_anew k e mark) (side s c)) c))
  own_both es e Buy k b is at m u enough mark = (
    subst (λ i. AllByRecursion (λ l. runs_low lot e.number l ≡ false) (on_price rank Buy e.price (show_anew i e mark) (on_price rank Buy e.price (join_hidden i e.number) b.buys))) (sym is)
        (own_side es Buy e mark b.buys m.ranked.buys m.sides.buys u enough m.both.0),
    other_side_not_low es Sell lot e b.sells u (ap (λ t. same_side t Sell) at) m.both.1,
  )
  own_both es e Sell k b is at m u enough mark = (
    other_side_not_low es Buy lot e b.buys u (ap (λ t. same_side t Buy) at) m.both.0,
    subst (λ i. AllByRecursion (λ l. runs_low lot e.number l ≡ false) (on_price rank Sell e.price (show_anew i e mark) (on_price rank Sell e.price (join_hidden i e.number) b.sells))) (sym is)
        (own_side es Sell e mark b.sells m.ranked.sells m.sides.sells u enough m.both.1),
  )

  rested_own : (es : List Order) (b : Book) (e : Order) → is_reserve e.kind ≡ true → Midway rank O lot pos es b → Unique es e → lot ≤ e.display → Rested lot e.number (replenish_order rank b e)
  unfolding replenish_order
  rested_own es b e r m u enough =
      let c : Book = on rank e (join_hidden b.lot e.number) b in
      let mark : Bool = earns_mark rank e.side e.price (min e.display (hidden_of e.number (side e.side c))) c in
      rw r (own_both es e e.side b.lot b m.sides.is refl m u enough mark)

  pub all_rested : (es : List Order) (b : Book) (xs : List Order) → Distinct (numbers xs) → AllByRecursion Displays xs → AllByRecursion (λ x. is_reserve x.kind ≡ true → lot ≤ x.display) xs → AllByRecursion (OwnListed es) xs → AllByRecursion (Unique es) xs → Midway rank O lot pos es b
      → AllByRecursion (λ x. is_reserve x.kind ≡ true → Rested lot x.number (fold (replenish_order rank) b xs)) xs
  all_rested es b [] d ok big own u m = tt
  all_rested es b (x ∷ xs) d ok big own u m = (
    (λ r. rested_others rank lot x.number (replenish_order rank b x) xs (turn x.number xs d.0) (rested_own es b x r m u.0 (big.0 r))),
    all_rested es (replenish_order rank b x) xs d.1 ok.1 big.1 own.1 u.1 (midway_renewed rank O lot pos es b x ok.0 own.0 m),
  )
    where
      turn : (n : ℕ) (xs : List Order) → has n (numbers xs) ≡ false → AllByRecursion (λ x. eqb x.number n ≡ false) xs
      turn n xs h = All-weaker (λ x. eqb n x.number ≡ false) (λ x. eqb x.number n ≡ false) (λ x e. ne_eqb x.number n (λ z. eqb-false n x.number e (sym z))) xs (others n xs h)
