-- Where the orders of a sound book rest. Assumes nothing.
use Rattle.std.proofs.Common.{◌≡◌, ℕ, ◌+◌, ◌<◌, true, false, ◌&&◌, eqb, None, Some, List, [], ◌∷◌, length, take, drop, sym, refl, ap, ◌∙◌, subst, arith, Option}
use mathlib.Core.Bool.{false≢true}
use Rattle.std.specs.Option.{IsSome}
use Rattle.std.specs.List.{AllByRecursion, position}
use Rattle.std.proofs.lemmas.Bool.{and_parts, and_right, ne_eqb}
use Rattle.std.proofs.ByRecursion.{All-weaker, All-take, All-drop}
use Rattle.allocation.specs.Rankings.{TotalOrder}
use Rattle.rules.specs.declared.orders.Side.{Side}
use Rattle.rules.specs.declared.orders.Side.TheVariants.{Buy, Sell}
use Rattle.rules.specs.declared.orders.Order.{Order}
use Rattle.rules.specs.declared.orders.Part.{Part}
use Rattle.rules.specs.Lists.{Distinct}
use Rattle.rules.specs.Books.{Level, Ranking, Book, nothing_at, same_side, side, other}
use Rattle.rules.specs.Quantities.{of_side, resting}
use Rattle.rules.specs.Invariants.{SoundLevel, SoundSide, Orderly, listed, prices, SoundBook}
use Rattle.arrays.proofs.Found.{FirstAt, first_at, nowhere}
use Rattle.rules.proofs.Members.{all_both}
use Rattle.rules.proofs.Listing.{Unique, none_of}
use Rattle.rules.proofs.Numbering.{resting_listed}
use Rattle.rules.proofs.Spots.{sorted_once}
use Rattle.resting.specs.Alone.{Without, Alone}
use Rattle.giving_back.specs.Places.{RestsAt}
use Rattle.giving_back.proofs.Keeping.{apart_after, not_among}

-- a number that is not in the table does not rest
pub unlisted_rests : (rank : Ranking) (b : Book) (n : ℕ) → SoundBook rank b → AllByRecursion (λ e. (e.number ≡ n → ⊥)) b.orders → resting n b ≡ 0
unlisted_rests rank b n s a = none (resting n b) (λ some. false≢true (sym (not_among (λ e. e.number) n b.orders a) ∙ resting_listed b.orders n b (s.buys.orderly, s.sells.orderly) some))
  where
    none : (k : ℕ) → (0 < k → ⊥) → k ≡ 0
    none k never = grind arith

-- ## One order

apart_sides : (s : Side) → same_side s (other s) ≡ false
apart_sides Buy = refl
apart_sides Sell = refl

pub sound_on : (rank : Ranking) (b : Book) (t : Side) → SoundBook rank b → SoundSide rank b.lot b.orders t (side t b)
sound_on rank b Buy s = s.buys
sound_on rank b Sell s = s.sells

pub rest_on : (n : ℕ) (b : Book) (t : Side) → resting n b ≡ of_side n (side t b) + of_side n (side (other t) b)
rest_on n b Buy = refl
rest_on n b Sell = omega arith

pub none_on : (lot n : ℕ) (ls : List Level) → AllByRecursion (Without lot n) ls → of_side n ls ≡ 0
none_on lot n [] a = refl
none_on lot n (l ∷ ls) a = omega (arith, a.0.none, none_on lot n ls a.1)

module _ (b : Book) (e : Order) (u : Unique b.orders e) where
  without : (t : Side) (l : Level) → SoundLevel b.lot l × Orderly b.orders t l → (same_side e.side t && eqb e.price l.price) ≡ false → Without b.lot e.number l
  without t l s ne =
      let never : (p : Part) → listed b.orders t l.price p ≡ true → p.order ≡ e.number → ⊥ =
      λ p h o. false≢true (sym ne ∙ (and_parts (eqb p.participant e.participant) _ (and_parts (eqb e.number p.order) _ (u t l.price p h o)).1).1) in
      record {
        shown = s.0.0;
        hidden = s.0.1;
        none = omega (arith, none_of b.orders t l.price e.number l.shown.parts s.1.0.listed never, none_of b.orders t l.price e.number l.hidden.parts s.1.1.listed never);
      }

  both : (rank : Ranking) (t : Side) → SoundBook rank b → AllByRecursion (λ l. SoundLevel b.lot l × Orderly b.orders t l) (side t b)
  both rank t s = let ss = sound_on rank b t s in all_both (SoundLevel b.lot) (Orderly b.orders t) (side t b) ss.sound ss.orderly

  -- the other side has nothing of it
  other_side : (rank : Ranking) → SoundBook rank b → AllByRecursion (Without b.lot e.number) (side (other e.side) b)
  other_side rank s =
      let t : Side = other e.side in
      All-weaker (λ l. SoundLevel b.lot l × Orderly b.orders t l) (Without b.lot e.number) (λ l h. without t l h (ap (λ x. x && eqb e.price l.price) (apart_sides e.side))) (side t b) (both rank t s)

  -- nor have levels of its side at other prices
  away_from : (ls : List Level) → AllByRecursion (λ l. SoundLevel b.lot l × Orderly b.orders e.side l) ls → AllByRecursion (λ l. (l.price ≡ e.price → ⊥)) ls → AllByRecursion (Without b.lot e.number) ls
  away_from [] h a = tt
  away_from (l ∷ ls) h a = (without e.side l h.0 (and_right (same_side e.side e.side) (eqb e.price l.price) (ne_eqb e.price l.price (λ z. a.0 (sym z)))), away_from ls h.1 a.1)

  -- the level at its price is the one where it rests
  module _ (rank : Ranking) (O : TotalOrder rank.good) (s : SoundBook rank b) (some : 0 < resting e.number b) (ls : List Level) (is : ls ≡ side e.side b) where
    good : AllByRecursion (λ l. SoundLevel b.lot l × Orderly b.orders e.side l) ls
    good = subst (λ (l : List Level). AllByRecursion (λ l. SoundLevel b.lot l × Orderly b.orders e.side l) l) (sym is) (both rank e.side s)

    nowhere_else : position (λ l. eqb l.price e.price) ls ≡ None → ⊥
    nowhere_else none =
        let nothing : of_side e.number ls ≡ 0 = none_on b.lot e.number ls (away_from ls good (nowhere (λ l. l.price) e.price ls none)) in
        let here : of_side e.number (side e.side b) ≡ 0 = ap (of_side e.number) (sym is) ∙ nothing in
        omega (arith, rest_on e.number b e.side, none_on b.lot e.number (side (other e.side) b) (other_side rank s))

    -- some level of its side has its price
    pub found_somewhere : IsSome (position (λ l. eqb l.price e.price) ls)
    found_somewhere = there (position (λ l. eqb l.price e.price) ls) nowhere_else
      where
        there : (o : Option ℕ) → (o ≡ None → ⊥) → IsSome o
        there (Some i) h = refl
        there None h = absurd (h refl)

    pub found_at : (i : ℕ) → position (λ l. eqb l.price e.price) ls ≡ Some i → RestsAt b e i
    found_at i e' =
        let at : FirstAt (λ l. l.price) e.price ls i = first_at (λ l. l.price) e.price ls i e' in
        let once : Distinct (prices ls) = subst (λ (l : List Level). Distinct (prices l)) (sym is) (sorted_once rank O e.side (prices (side e.side b)) (sound_on rank b e.side s).sorted) in
        let d : Level = nothing_at 0 in
        let after : AllByRecursion (λ l. (l.price ≡ e.price → ⊥)) (drop (i + 1) ls) = subst (λ v. AllByRecursion (λ (l : Level). (l.price ≡ v → ⊥)) (drop (i + 1) ls)) (at.found d) (apart_after (λ l. l.price) ls i d once at.within) in
        let alone : Alone b.lot e.number i ls = record { before = away_from (take i ls) (All-take _ i ls good) at.others; after = away_from (drop (i + 1) ls) (All-drop _ (i + 1) ls good) after } in
        record { place = subst (λ (l : List Level). i < length l) is at.within; alone = subst (λ (l : List Level). Alone b.lot e.number i l) is alone; elsewhere = other_side rank s }
