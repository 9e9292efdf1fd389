-- What placing does to prices that hold parts, and to orders that run low. Assumes nothing.
use Rattle.std.proofs.Common.{◌≡◌, ℕ, ◌-◌, ◌≤◌, min, Bool, true, false, cond, not, ◌&&◌, ◌||◌, eqb, List, [], ◌∷◌, sym, refl, ◌∙◌, subst, arith}
use mathlib.Core.Bool.{false≢true}
use Rattle.std.specs.List.{AllByRecursion}
use Rattle.std.proofs.lemmas.Bool.{or_parts, not-false}
use Rattle.allocation.specs.Rankings.{TotalOrder}
use Rattle.rules.specs.declared.orders.Side.{Side}
use Rattle.rules.specs.declared.orders.Side.TheVariants.{Buy, Sell}
use Rattle.rules.specs.declared.orders.Kind.{Kind}
use Rattle.rules.specs.declared.orders.Order.{Order}
use Rattle.rules.specs.declared.orders.Part.{Part}
use Rattle.rules.specs.Books.{Level, Ranking, Book, good, nothing_at, side, with_side, away, other, same_side}
use Rattle.rules.specs.Quantities.{of_side, of_order, resting}
use Rattle.rules.specs.Changes.{put_shown, put_hidden, on_price}
use Rattle.rules.specs.Trading.{has_limit, in_reach}
use Rattle.rules.specs.Reserve.{runs_low, is_reserve}
use Rattle.rules.specs.Refusals.{rests}
use Rattle.rules.specs.Entering.{two_parts, shown_part, hidden_part, place, not_placed, arrived}
use Rattle.rules.specs.Invariants.{BestFirst, prices}
use Rattle.rules.proofs.Renewed.{two_parts_by}
use Rattle.rules.proofs.Members.{all_both}
use Rattle.rules.proofs.Parts.{put_all}
use Rattle.rules.proofs.AtPrice.{on_price_to}
use Rattle.rules.proofs.Chains.{good_total, good_chain}
use Rattle.rules.proofs.Walks.{Held}
use Rattle.rules.proofs.Lows.{not_low, put_shown_other, put_hidden_other, two_parts_other, two_parts_not_low}
use Rattle.rules.proofs.Rested.{Rested, on_rested, nothing_low}

-- ## Prices that hold parts

-- what an order puts at a price
put_held : (P : ℕ → Type 0) (x : Part) (l : Level) → P l.price → Held P l → Held P (put_shown x l)
put_held P x l here h = (put_all (λ _. P l.price) x l.shown h.0 here, h.1)

put_hidden_held : (P : ℕ → Type 0) (x : Part) (l : Level) → P l.price → Held P l → Held P (put_hidden x l)
put_hidden_held P x l here h = (h.0, put_all (λ _. P l.price) x l.hidden h.1 here)

two_parts_held : (P : ℕ → Type 0) (rank : Ranking) (b : Book) (e : Order) (n : ℕ) (l : Level) → P l.price → Held P l → Held P (two_parts rank b e n l)
two_parts_held P rank b e n l here h =
    let shown : Held P (put_shown (shown_part rank b e (min e.display n)) l) = put_held P (shown_part rank b e (min e.display n)) l here h in
    two_parts_by (Held P) rank b e n l (λ _. shown) (λ _. put_hidden_held P (hidden_part e (n - min e.display n)) (put_shown (shown_part rank b e (min e.display n)) l) here shown)

module _ (rank : Ranking) (O : TotalOrder rank.good) where
  placed_held : (P : ℕ → Type 0) (s : Side) (v : ℕ) (f : Level → Level) (ls : List Level) → BestFirst rank s (prices ls) → P v → ((l : Level) → P l.price → Held P l → Held P (f l)) → AllByRecursion (Held P) ls → AllByRecursion (Held P) (on_price rank s v f ls)
  placed_held P s v f ls o here step h =
      on_price_to rank O s (Held P) (Held P) v f ls o (step (nothing_at v) here (tt, tt)) (λ l same k. step l (subst P (sym same) here) k) (λ l ne k. k) h

  there : (P : ℕ → Type 0) (s : Side) (ls : List Level) (b : Book) → AllByRecursion (Held P) ls → AllByRecursion (Held P) (side s (with_side s ls b))
  there P Buy ls b h = h
  there P Sell ls b h = h

  away_from : (s : Side) (ls : List Level) (b : Book) → side (other s) (with_side s ls b) ≡ side (other s) b
  away_from Buy ls b = refl
  away_from Sell ls b = refl

  -- every price of the order's side that holds parts afterwards held some, or is the order's
  pub place_held : (P : ℕ → Type 0) (k : Kind) (e : Order) (n : ℕ) (b : Book) → BestFirst rank e.side (prices (side e.side b)) → P e.price → AllByRecursion (Held P) (side e.side b) → AllByRecursion (Held P) (side e.side (place rank k e n b))
  unfolding place
  place_held P Kind.Limit e n b o here h = there P e.side (on_price rank e.side e.price (put_shown (shown_part rank b e n)) (side e.side b)) b (placed_held P e.side e.price (put_shown (shown_part rank b e n)) (side e.side b) o here (put_held P (shown_part rank b e n)) h)
  place_held P Kind.Hidden e n b o here h = there P e.side (on_price rank e.side e.price (put_hidden (hidden_part e n)) (side e.side b)) b (placed_held P e.side e.price (put_hidden (hidden_part e n)) (side e.side b) o here (put_hidden_held P (hidden_part e n)) h)
  place_held P Kind.Reserve e n b o here h = there P e.side (on_price rank e.side e.price (two_parts rank b e n) (side e.side b)) b (placed_held P e.side e.price (two_parts rank b e n) (side e.side b) o here (two_parts_held P rank b e n) h)
  place_held P Kind.Immediate e n b o here h = h
  place_held P Kind.Market e n b o here h = h

  -- the other side stays
  pub place_other : (k : Kind) (e : Order) (n : ℕ) (b : Book) → side (other e.side) (place rank k e n b) ≡ side (other e.side) b
  unfolding place
  place_other Kind.Limit e n b = away_from e.side (on_price rank e.side e.price (put_shown (shown_part rank b e n)) (side e.side b)) b
  place_other Kind.Hidden e n b = away_from e.side (on_price rank e.side e.price (put_hidden (hidden_part e n)) (side e.side b)) b
  place_other Kind.Reserve e n b = away_from e.side (on_price rank e.side e.price (two_parts rank b e n) (side e.side b)) b
  place_other Kind.Immediate e n b = refl
  place_other Kind.Market e n b = refl

  -- ## Reach

  rests_limit : (k : Kind) → rests k ≡ true → has_limit k ≡ true
  rests_limit Kind.Limit h = refl
  rests_limit Kind.Hidden h = refl
  rests_limit Kind.Reserve h = refl
  rests_limit Kind.Immediate h = refl
  rests_limit Kind.Market h = h

  -- if a remainder is placed, a price out of reach is out of its limit
  pub out_of_limit : (e : Order) (b : Book) (w : ℕ) → not_placed rank b e ≡ false → in_reach rank (arrived e b) e w ≡ false → good rank (other e.side) w e.price ≡ false
  unfolding not_placed in_reach
  out_of_limit e b w np out =
      let parts = or_parts (not (rests e.kind)) _ np in
      let limit : has_limit e.kind ≡ true = rests_limit e.kind (not-false (rests e.kind) parts.0) in
      go (eqb q 0) (good rank s w e.price) refl parts.1 (rw limit at (same e.side out))
    where
      s : Side
      s = other e.side

      q : ℕ
      q = away s b

      same : (t : Side) → (cond (has_limit e.kind) (good rank (other t) w e.price) true && (eqb (away (other t) (arrived e b)) 0 || good rank (other t) w (away (other t) (arrived e b)))) ≡ false
          → (cond (has_limit e.kind) (good rank (other t) w e.price) true && (eqb (away (other t) b) 0 || good rank (other t) w (away (other t) b))) ≡ false
      same Buy h = h
      same Sell h = h

      go : (z g : Bool) → good rank s w e.price ≡ g → (not z && good rank s q e.price) ≡ false → (g && (z || good rank s w q)) ≡ false → g ≡ false
      go z false eg h k = refl
      go true true eg h k = k
      go false true eg h k =
          let back : good rank s e.price q ≡ true = turn (good rank s q e.price) (good rank s e.price q) h (good_total rank O s q e.price) in
          absurd (false≢true (sym k ∙ good_chain rank O s w e.price q eg back))
        where
          turn : (x y : Bool) → x ≡ false → (x || y) ≡ true → y ≡ true
          turn true y a c = absurd (false≢true (sym a))
          turn false y a c = c

  pub turned_good : (a c : ℕ) → good rank Buy a c ≡ good rank Sell c a
  turned_good a c = go rank.letter
    where
      go : (l : Side) → cond (same_side Buy l) (rank.good a c) (rank.good c a) ≡ cond (same_side Sell l) (rank.good c a) (rank.good a c)
      go Buy = refl
      go Sell = refl

  -- ## Orders that run low

  pub place_rested : (lot j : ℕ) (k : Kind) (e : Order) (n : ℕ) (b : Book) → eqb e.number j ≡ false → Rested lot j b → Rested lot j (place rank k e n b)
  unfolding place
  place_rested lot j Kind.Limit e n b ne h =
      let x : Part = shown_part rank b e n in
      on_rested rank e lot j (put_shown x) b (put_shown_other lot j x (nothing_at e.price) ne ∙ nothing_low lot j e.price) (λ l i. put_shown_other lot j x l ne ∙ i) h
  place_rested lot j Kind.Hidden e n b ne h =
      let x : Part = hidden_part e n in
      on_rested rank e lot j (put_hidden x) b (put_hidden_other lot j x (nothing_at e.price) ne ∙ nothing_low lot j e.price) (λ l i. put_hidden_other lot j x l ne ∙ i) h
  place_rested lot j Kind.Reserve e n b ne h =
      on_rested rank e lot j (two_parts rank b e n) b (two_parts_other rank b lot j e n (nothing_at e.price) ne ∙ nothing_low lot j e.price) (λ l i. two_parts_other rank b lot j e n l ne ∙ i) h
  place_rested lot j Kind.Immediate e n b ne h = h
  place_rested lot j Kind.Market e n b ne h = h

  no_part_low : (lot n : ℕ) (ls : List Level) → of_side n ls ≡ 0 → AllByRecursion (λ l. runs_low lot n l ≡ false) ls
  no_part_low lot n [] h = tt
  no_part_low lot n (l ∷ ls) h = (not_low lot (of_order n l.shown.parts) (of_order n l.hidden.parts) (λ some. omega arith), no_part_low lot n ls (omega arith))

  hides_nothing : (n : ℕ) (ls : List Level) → of_side n ls ≡ 0 → AllByRecursion (λ l. (of_order n l.hidden.parts ≡ 0)) ls
  hides_nothing n [] h = tt
  hides_nothing n (l ∷ ls) h = (omega arith, hides_nothing n ls (omega arith))

  own_reserve : (lot : ℕ) (e : Order) (n : ℕ) (b : Book) (s : Side) (ls : List Level) → BestFirst rank s (prices ls) → lot ≤ e.display → of_side e.number ls ≡ 0 → AllByRecursion (λ l. runs_low lot e.number l ≡ false) (on_price rank s e.price (two_parts rank b e n) ls)
  own_reserve lot e n b s ls o enough absent =
      on_price_to rank O s (λ l. (runs_low lot e.number l ≡ false) × (of_order e.number l.hidden.parts ≡ 0)) (λ l. runs_low lot e.number l ≡ false) e.price (two_parts rank b e n) ls o
      (two_parts_not_low rank b lot e n (nothing_at e.price) enough refl)
      (λ l same k. two_parts_not_low rank b lot e n l enough k.1)
      (λ l ne k. k.0)
      (all_both (λ l. runs_low lot e.number l ≡ false) (λ l. of_order e.number l.hidden.parts ≡ 0) ls (no_part_low lot e.number ls absent) (hides_nothing e.number ls absent))

  pub place_own_rested : (lot : ℕ) (k : Kind) (e : Order) (n : ℕ) (b : Book) → is_reserve k ≡ true → BestFirst rank Buy (prices b.buys) → BestFirst rank Sell (prices b.sells) → lot ≤ e.display → resting e.number b ≡ 0 → Rested lot e.number (place rank k e n b)
  unfolding place
  place_own_rested lot Kind.Limit e n b r ob os enough absent = absurd (false≢true r)
  place_own_rested lot Kind.Hidden e n b r ob os enough absent = absurd (false≢true r)
  place_own_rested lot Kind.Reserve e n b r ob os enough absent = go e.side
    where
      go : (s : Side) → Rested lot e.number (with_side s (on_price rank s e.price (two_parts rank b e n) (side s b)) b)
      go Buy = (own_reserve lot e n b Buy b.buys ob enough (omega arith), no_part_low lot e.number b.sells (omega arith))
      go Sell = (no_part_low lot e.number b.buys (omega arith), own_reserve lot e n b Sell b.sells os enough (omega arith))
  place_own_rested lot Kind.Immediate e n b r ob os enough absent = absurd (false≢true r)
  place_own_rested lot Kind.Market e n b r ob os enough absent = absurd (false≢true r)
