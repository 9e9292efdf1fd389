-- Where an order's parts stand: on its side, at its price. Assumes nothing.
use Rattle.std.proofs.Common.{◌≡◌, ◌<◌, Bool, true, false, ◌&&◌, ◌||◌, eqb, List, [], ◌∷◌, sym, refl, ◌∙◌, arith}
use mathlib.Core.Bool.{false≢true}
use Rattle.std.specs.List.{AllByRecursion}
use Rattle.std.proofs.lemmas.Bool.{eqb-true, eq-eqb, and_parts}
use Rattle.rules.specs.declared.orders.Side.{Side}
use Rattle.rules.specs.declared.orders.Side.TheVariants.{Buy, Sell}
use Rattle.rules.specs.declared.orders.Order.{Order}
use Rattle.rules.specs.declared.orders.Part.{Part}
use Rattle.rules.specs.Lists.{has}
use Rattle.rules.specs.Books.{Level, Book, side, same_side}
use Rattle.rules.specs.Quantities.{of_level, of_side, resting}
use Rattle.rules.specs.Invariants.{Orderly, listed, prices}
use Rattle.rules.proofs.Listing.{Unique, none_of}
use Rattle.rules.proofs.Numbering.{some_of_two}

pub level_here : (es : List Order) (s : Side) (e : Order) (l : Level) → Unique es e → Orderly es s l → 0 < of_level e.number l → (same_side e.side s && eqb e.price l.price) ≡ true
level_here es s e l u o some = go (same_side e.side s && eqb e.price l.price) refl
  where
    go : (t : Bool) → (same_side e.side s && eqb e.price l.price) ≡ t → t ≡ true
    go true h = refl
    go false h =
        let never : (p : Part) → listed es s l.price p ≡ true → p.order ≡ e.number → ⊥ = λ p lp same.
        (let b = u s l.price p lp same in
        false≢true (sym h ∙ (and_parts (eqb p.participant e.participant) _ (and_parts (eqb e.number p.order) _ b).1).1)) in
        absurd (omega (arith, none_of es s l.price e.number l.shown.parts o.0.listed never, none_of es s l.price e.number l.hidden.parts o.1.listed never))

side_here : (es : List Order) (s : Side) (e : Order) (ls : List Level) → Unique es e → AllByRecursion (Orderly es s) ls → 0 < of_side e.number ls → (same_side e.side s ≡ true) × (has e.price (prices ls) ≡ true)
side_here es s e [] u o some = absurd (omega arith)
side_here es s e (l ∷ ls) u o some =
    some_of_two (of_level e.number l) (of_side e.number ls) ((same_side e.side s ≡ true) × (has e.price (prices (l ∷ ls)) ≡ true)) some
    (λ here. (let b = and_parts (same_side e.side s) (eqb e.price l.price) (level_here es s e l u o.0 here) in (b.0, rw (eq-eqb l.price e.price (sym (eqb-true e.price l.price b.1))))))
    (λ later. (let ih = side_here es s e ls u o.1 later in (ih.0, rw ih.1 (or_yes (eqb l.price e.price)))))
  where
    or_yes : (x : Bool) → (x || true) ≡ true
    or_yes true = refl
    or_yes false = refl

pub price_here : (es : List Order) (b : Book) (e : Order) → Unique es e → AllByRecursion (Orderly es Buy) b.buys → AllByRecursion (Orderly es Sell) b.sells → 0 < resting e.number b → has e.price (prices (side e.side b)) ≡ true
price_here es b e u ob os some =
    some_of_two (of_side e.number b.buys) (of_side e.number b.sells) (has e.price (prices (side e.side b)) ≡ true) some
    (λ here. (let h = side_here es Buy e b.buys u ob here in go e.side Buy h.0 h.1))
    (λ here. (let h = side_here es Sell e b.sells u os here in go e.side Sell h.0 h.1))
  where
    go : (t s : Side) → same_side t s ≡ true → has e.price (prices (side s b)) ≡ true → has e.price (prices (side t b)) ≡ true
    go Buy Buy h k = k
    go Buy Sell h k = absurd (false≢true h)
    go Sell Buy h k = absurd (false≢true h)
    go Sell Sell h k = k
