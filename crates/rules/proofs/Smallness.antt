-- A sound book is small. Assumes nothing.
use Rattle.std.proofs.Common.{◌≡◌, ℕ, ◌<◌, ◌≤◌, Bool, true, false, cond, not, ◌||◌, eqb, leb, List, [], ◌∷◌, refl, ap, arith}
use mathlib.Core.Bool.{false≢true}
use Rattle.std.specs.List.{AllByRecursion}
use Rattle.std.proofs.lemmas.Bool.{eqb-true, eq-eqb, and_parts, leb-true, not-false}
use Rattle.std.proofs.ByRecursion.{All-weaker}
use Rattle.allocation.specs.Rankings.{TotalOrder}
use Rattle.rules.specs.declared.orders.Side.{Side}
use Rattle.rules.specs.declared.orders.Side.TheVariants.{Buy, Sell}
use Rattle.rules.specs.declared.orders.Order.{Order}
use Rattle.rules.specs.declared.orders.Part.{Part}
use Rattle.rules.specs.Lists.{Distinct}
use Rattle.rules.specs.Books.{Level, Ranking}
use Rattle.rules.specs.Quantities.{of_order, of_side, resting}
use Rattle.rules.specs.Refusals.{within}
use Rattle.rules.specs.Invariants.{Admitted, listed, belongs, Orderly, numbers}
use Rattle.rules.specs.Sizes.{SmallPart, SmallParts, SoundBooksAreSmall}
use Rattle.rules.proofs.Members.{all_both}
use Rattle.rules.proofs.Numbering.{rising_distinct}
use Rattle.rules.proofs.Counting.{few_in_all, few_levels}

-- what is so of a part by its order
abbrev ByOrder : (ℕ → ℕ) → Order → Type 0
ByOrder f e = ((0 < e.participant) × (e.participant < 25)) × (f e.number ≤ 500000)

pub in_range : (low high n : ℕ) → not (within low high n) ≡ false → (low ≤ n) × (n ≤ high)
in_range low high n h =
    let w : within low high n ≡ true = not-false (within low high n) h in
    (leb-true low n (and_parts (leb low n) (leb n high) w).0, leb-true n high (and_parts (leb low n) (leb n high) w).1)

admitted_by : (lot : ℕ) (f : ℕ → ℕ) (es : List Order) → AllByRecursion (Admitted lot) es → AllByRecursion (λ e. (0 < f e.number) × (f e.number ≤ e.quantity)) es → AllByRecursion (ByOrder f) es
admitted_by lot f es a r =
    All-weaker (λ e. Admitted lot e × ((0 < f e.number) × (f e.number ≤ e.quantity))) (ByOrder f)
    (λ e h. (let p = in_range 1 24 e.participant h.0.participant in let q = in_range 1 500000 e.quantity h.0.quantity in ((omega (arith, p.0), omega (arith, p.1)), omega (arith, q.1, h.1.1))))
    es (all_both (Admitted lot) (λ e. (0 < f e.number) × (f e.number ≤ e.quantity)) es a r)

listed_by : (f : ℕ → ℕ) (es : List Order) (s : Side) (v : ℕ) (p : Part) → AllByRecursion (ByOrder f) es → listed es s v p ≡ true → ((0 < p.participant) × (p.participant < 25)) × (f p.order ≤ 500000)
listed_by f [] s v p a h = absurd (false≢true h)
listed_by f (e ∷ es) s v p a h = go (belongs e s v p) refl h (listed_by f es s v p a.1)
  where
    go : (t : Bool) → belongs e s v p ≡ t → (t || listed es s v p) ≡ true → (listed es s v p ≡ true → ((0 < p.participant) × (p.participant < 25)) × (f p.order ≤ 500000)) → ((0 < p.participant) × (p.participant < 25)) × (f p.order ≤ 500000)
    go true b h ih =
        let same : e.number ≡ p.order = eqb-true e.number p.order (and_parts (eqb e.number p.order) _ b).0 in
        let whose : p.participant ≡ e.participant = eqb-true p.participant e.participant (and_parts (eqb p.participant e.participant) _ (and_parts (eqb e.number p.order) _ b).1).0 in
        ((omega (arith, whose, a.0.0.0), omega (arith, whose, a.0.0.1)), omega (arith, ap f same, a.0.1))
    go false b h ih = ih h

-- a part is no more than its order has
part_le : (ps : List Part) → AllByRecursion (λ p. p.quantity ≤ of_order p.order ps) ps
part_le [] = tt
part_le (p ∷ ps) = (
  (let z = ap (λ t. cond t p.quantity 0) (eq-eqb p.order p.order refl) in omega (arith, z)),
  All-weaker (λ x. x.quantity ≤ of_order x.order ps) (λ x. x.quantity ≤ of_order x.order (p ∷ ps)) (λ x h. omega arith) ps (part_le ps),
)

small_parts : (f : ℕ → ℕ) (es : List Order) (s : Side) (v : ℕ) (ps : List Part) → AllByRecursion (ByOrder f) es → ((n : ℕ) → of_order n ps ≤ f n) → AllByRecursion (λ p. listed es s v p ≡ true) ps → AllByRecursion SmallPart ps
small_parts f es s v ps a le h =
    All-weaker (λ p. (listed es s v p ≡ true) × (p.quantity ≤ of_order p.order ps)) SmallPart
    (λ p k. (let x = listed_by f es s v p a k.0 in (x.0, omega (arith, x.1, k.1, le p.order)))) ps
    (all_both (λ p. listed es s v p ≡ true) (λ p. p.quantity ≤ of_order p.order ps) ps h (part_le ps))

small_levels : (f : ℕ → ℕ) (es : List Order) (s : Side) (ls : List Level) → AllByRecursion (ByOrder f) es → ((n : ℕ) → of_side n ls ≤ f n) → AllByRecursion (Orderly es s) ls → AllByRecursion SmallParts ls
small_levels f es s [] a le h = tt
small_levels f es s (l ∷ ls) a le h = (
  (small_parts f es s l.price l.shown.parts a (λ n. omega (arith, le n)) h.0.0.listed, small_parts f es s l.price l.hidden.parts a (λ n. omega (arith, le n)) h.0.1.listed),
  small_levels f es s ls a (λ n. omega (arith, le n)) h.1,
)

pub sound_small : (rank : Ranking) → TotalOrder rank.good → SoundBooksAreSmall rank
sound_small rank O b s =
    let d : Distinct (numbers b.orders) = rising_distinct b.last (numbers b.orders) s.rising in
    let f : ℕ → ℕ = λ n. resting n b in
    let a : AllByRecursion (ByOrder f) b.orders = admitted_by b.lot f b.orders s.admitted s.resting in
    record {
      parts = omega (arith, few_in_all rank O b.orders b.buys b.sells d s.buys.sorted s.sells.sorted s.buys.orderly s.sells.orderly, s.few);
      levels = omega (arith, few_levels rank O b.orders b.buys b.sells d s.buys.sorted s.sells.sorted s.buys.occupied s.sells.occupied s.buys.orderly s.sells.orderly, s.few);
      buys = small_levels f b.orders Buy b.buys a (λ n. omega arith) s.buys.orderly;
      sells = small_levels f b.orders Sell b.sells a (λ n. omega arith) s.sells.orderly;
    }
