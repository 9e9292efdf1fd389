-- There is room for the new part of a reserve order that runs low. Assumes nothing.
use Rattle.std.proofs.Common.{◌≡◌, ℕ, ◌+◌, ◌<◌, ◌≤◌, Bool, true, false, cond, ◌||◌, eqb, List, [], ◌∷◌, map, length, sym, refl, ap, ◌∙◌, subst, arith}
use mathlib.Core.Bool.{false≢true}
use Rattle.std.specs.List.{AllByRecursion}
use Rattle.std.proofs.lemmas.List.{length_push}
use Rattle.std.proofs.lemmas.Bool.{eqb-true, and_parts}
use Rattle.allocation.specs.Rankings.{TotalOrder}
use Rattle.rules.specs.declared.orders.Order.{Order}
use Rattle.rules.specs.declared.orders.Part.{Part}
use Rattle.rules.specs.Lists.{any, Distinct}
use Rattle.rules.specs.Books.{Level, Ranking, part, same_side}
use Rattle.rules.specs.Changes.{put, put_shown}
use Rattle.rules.specs.Reserve.{runs_low, join_hidden}
use Rattle.rules.specs.Invariants.{SoundLevel, Orderly, BestFirst, prices, numbers, listed, parts_of}
use Rattle.rules.specs.Sizes.{parts_at, parts_on}
use Rattle.rules.proofs.Levels.{low_hides}
use Rattle.rules.proofs.Listing.{OwnListed, Unique}
use Rattle.rules.proofs.Orderly.{LowShowsOne, orderly_put}
use Rattle.rules.proofs.Ranked.{on_price_sorted, join_hidden_still}
use Rattle.rules.proofs.Tending.{joined_side}
use Rattle.rules.proofs.Counting.{few_parts}
use Rattle.levels.specs.Heads.{count}
use Rattle.matching.proofs.Standing.{level_here}
use Rattle.resting.specs.Replenished.{joined, RoomToShow}

-- parts are counted alike
pub count_is : (ls : List Level) → count ls ≡ parts_on ls
count_is [] = refl
count_is (l ∷ ls) = omega (arith, count_is ls)

-- one more part shown where the order runs low
abbrev one_more : ℕ → ℕ → ℕ → Level → Level
one_more lot n who l = cond (runs_low lot n l) (put_shown (part n who 1 false) l) l

more_price : (lot n who : ℕ) (ls : List Level) → prices (map (one_more lot n who) ls) ≡ prices ls
more_price lot n who [] = refl
more_price lot n who (l ∷ ls) = ap (λ vs. (one_more lot n who l).price ∷ vs) (more_price lot n who ls) ∙ ap (λ v. v ∷ prices ls) (go (runs_low lot n l))
  where
    go : (t : Bool) → (cond t (put_shown (part n who 1 false) l) l).price ≡ l.price
    go true = refl
    go false = refl

one_counted : (lot n who : ℕ) (l : Level) → parts_at (one_more lot n who l) ≡ parts_at l + cond (runs_low lot n l) 1 0
unfolding put
one_counted lot n who l = go (runs_low lot n l)
  where
    go : (t : Bool) → parts_at (cond t (put_shown (part n who 1 false) l) l) ≡ parts_at l + cond t 1 0
    go true = omega (arith, length_push l.shown.parts (part n who 1 false))
    go false = omega arith

more_counted : (lot n who : ℕ) (ls : List Level) → parts_on ls ≤ parts_on (map (one_more lot n who) ls)
more_counted lot n who [] = omega arith
more_counted lot n who (l ∷ ls) = omega (arith, one_counted lot n who l, more_counted lot n who ls)

some_counted : (lot n who : ℕ) (ls : List Level) → any (runs_low lot n) ls ≡ true → parts_on ls < parts_on (map (one_more lot n who) ls)
some_counted lot n who [] h = absurd (false≢true h)
some_counted lot n who (l ∷ ls) h = go (runs_low lot n l) refl h (some_counted lot n who ls)
  where
    go : (t : Bool) → runs_low lot n l ≡ t → (t || any (runs_low lot n) ls) ≡ true → (any (runs_low lot n) ls ≡ true → parts_on ls < parts_on (map (one_more lot n who) ls)) → parts_at l + parts_on ls < parts_at (one_more lot n who l) + parts_on (map (one_more lot n who) ls)
    go true e h ih = let c = rw e at (one_counted lot n who l) in rw e (omega (arith, more_counted lot n who ls))
    go false e h ih = rw e (omega (arith, ih h))

module _ (rank : Ranking) (O : TotalOrder rank.good) (lot : ℕ) (pos : 0 < lot) (es : List Order) (e : Order) (u : Unique es e) (own : OwnListed es e) where
  abbrev JoinedOne : Level → Type 0
  JoinedOne l = Orderly es e.side l × (l.price ≡ e.price → LowShowsOne lot e.number l)

  more_orderly : (l : Level) → JoinedOne l → Orderly es e.side (one_more lot e.number e.participant l)
  more_orderly l h = go (runs_low lot e.number l) refl
    where
      x : Part
      x = part e.number e.participant 1 false

      go : (t : Bool) → runs_low lot e.number l ≡ t → Orderly es e.side (cond t (put_shown x l) l)
      go true low =
          let here : l.price ≡ e.price = (let some = low_hides lot e.number l low in sym (eqb-true e.price l.price (and_parts (same_side e.side e.side) (eqb e.price l.price) (level_here es e.side e l u h.0 (omega arith))).1)) in
          let one : parts_of e.number l.shown.parts ≤ 1 = h.1 here low in (
            orderly_put es e.side l.price 1 2 x l.shown (subst (λ v. listed es e.side v x ≡ true) (sym here) (own 1 false)) (omega (arith, h.0.0.marked)) (omega arith) h.0.0,
            h.0.1,
          )
      go false low = h.0

  all_orderly : (ls : List Level) → AllByRecursion JoinedOne ls → AllByRecursion (Orderly es e.side) (map (one_more lot e.number e.participant) ls)
  all_orderly [] a = tt
  all_orderly (l ∷ ls) a = (more_orderly l a.0, all_orderly ls a.1)

  pub room_to_show : Distinct (numbers es) → length es ≤ 128 → (ls : List Level) → BestFirst rank e.side (prices ls) → AllByRecursion (SoundLevel lot) ls → AllByRecursion (Orderly es e.side) ls → RoomToShow rank lot e ls
  room_to_show once few ls sorted sound orderly low =
      let js : List Level = joined rank lot e ls in
      let ms : List Level = map (one_more lot e.number e.participant) js in
      let best : BestFirst rank e.side (prices ms) = subst (λ vs. BestFirst rank e.side vs) (sym (more_price lot e.number e.participant js)) (on_price_sorted rank O e.side e.price (join_hidden lot e.number) ls (join_hidden_still lot e.number) sorted) in
      omega (
        arith,
        count_is js,
        some_counted lot e.number e.participant js low,
        few_parts rank O es e.side ms once best (all_orderly js (joined_side rank O lot pos es e.side e.price e.number ls sorted sound orderly)),
        few,
      )
