-- Orderly sides stay so through reserve and placing. Assumes nothing.
use Rattle.std.proofs.Common.{◌≡◌, ℕ, ◌+◌, ◌-◌, ◌<◌, ◌≤◌, min, Bool, true, false, cond, not, ◌&&◌, eqb, leb, List, [], ◌∷◌, fold, sym, refl, subst, arith}
use mathlib.Core.Bool.{false≢true}
use Rattle.std.specs.List.{AllByRecursion}
use Rattle.std.proofs.lemmas.Bool.{eq-eqb, or_parts}
use Rattle.allocation.specs.Rankings.{TotalOrder}
use Rattle.rules.specs.declared.orders.Side.{Side}
use Rattle.rules.specs.declared.orders.Side.TheVariants.{Buy, Sell}
use Rattle.rules.specs.declared.orders.Kind.{Kind}
use Rattle.rules.specs.declared.orders.Order.{Order}
use Rattle.rules.specs.declared.orders.Part.{Part}
use Rattle.rules.specs.Lists.{any}
use Rattle.rules.specs.Books.{part, Level, Ranking, Book, side, away, nothing_at, with_side}
use Rattle.rules.specs.Quantities.{best, of_order, of_side}
use Rattle.rules.specs.Changes.{on_price, put_shown, put_hidden}
use Rattle.rules.specs.Marks.{mark_at, earns_mark, beats, quoted}
use Rattle.rules.specs.Reserve.{join_hidden, show_anew, hidden_of, replenish_order}
use Rattle.rules.specs.Entering.{place, hidden_part, two_parts, shown_part}
use Rattle.rules.specs.Invariants.{marked_parts, Orderly, BestFirst, prices, SoundLevel, listed, parts_of}
use Rattle.rules.proofs.Renewed.{renewed_at, two_parts_by}
use Rattle.rules.proofs.Members.{all_both}
use Rattle.rules.proofs.Parts.{no_part}
use Rattle.rules.proofs.Levels.{empty_good}
use Rattle.rules.proofs.Fits.{Sides, Displays, side_good, replenish_order_fit}
use Rattle.rules.proofs.Ranked.{Ranked, sorted_side, replenish_order_ranked, on_price_sorted, join_hidden_still}
use Rattle.rules.proofs.AtPrice.{on_price_to}
use Rattle.rules.proofs.Orderly.{orderly_nothing, orderly_put, orderly_joined, joined_shows_one, orderly_shown_anew, LowShowsOne}
use Rattle.rules.proofs.Listing.{OwnListed}

-- ## Marks

no_mark : (ps : List Part) → any (λ p. p.marked) ps ≡ false → marked_parts ps ≡ 0
no_mark [] h = refl
no_mark (p ∷ ps) h = let k = or_parts p.marked (any (λ p. p.marked) ps) h in rw k.0 (omega (arith, no_mark ps k.1))

abbrev pub Clear : Bool → ℕ → Level → Type 0
Clear mark v l = mark ≡ true → l.price ≡ v → marked_parts l.shown.parts ≡ 0

pub all_clear : (mark : Bool) (v : ℕ) (ls : List Level) → (mark ≡ true → mark_at v ls ≡ false) → AllByRecursion (Clear mark v) ls
all_clear mark v [] h = tt
all_clear mark v (l ∷ ls) h = (
  (λ m same. no_mark l.shown.parts (rw (eq-eqb l.price v same) at (or_parts (eqb l.price v && any (λ p. p.marked) l.shown.parts) (mark_at v ls) (h m)).0)),
  all_clear mark v ls (λ m. (or_parts (eqb l.price v && any (λ p. p.marked) l.shown.parts) (mark_at v ls) (h m)).1),
)

pub earned_clear : (rank : Ranking) (s : Side) (v n : ℕ) (b : Book) → earns_mark rank s v n b ≡ true → mark_at v (side s b) ≡ false
unfolding earns_mark
earned_clear rank s v n b h = go (leb b.lot n) (beats rank s v (best b.lot (side s b))) (beats rank s v (quoted (away s b))) (mark_at v (side s b)) h
  where
    go : (x y z m : Bool) → (x && y && z && not m) ≡ true → m ≡ false
    go x y z false h = refl
    go true true true true h = sym h
    go true true false true h = sym h
    go true false z true h = sym h
    go false y z true h = sym h

-- ## Reserve

abbrev pub Both : List Order → Book → Type 0
Both es b = AllByRecursion (Orderly es Buy) b.buys × AllByRecursion (Orderly es Sell) b.sells

pub orderly_side : (es : List Order) (s : Side) (b : Book) → Both es b → AllByRecursion (Orderly es s) (side s b)
orderly_side es Buy b h = h.0
orderly_side es Sell b h = h.1

module _ (rank : Ranking) (O : TotalOrder rank.good) (lot : ℕ) (pos : 0 < lot) where
  pub joined_side : (es : List Order) (s : Side) (v n : ℕ) (ls : List Level) → BestFirst rank s (prices ls) → AllByRecursion (SoundLevel lot) ls → AllByRecursion (Orderly es s) ls
      → AllByRecursion (λ l. Orderly es s l × (l.price ≡ v → LowShowsOne lot n l)) (on_price rank s v (join_hidden lot n) ls)
  joined_side es s v n ls o g h =
      on_price_to rank O s (λ l. SoundLevel lot l × Orderly es s l) (λ l. Orderly es s l × (l.price ≡ v → LowShowsOne lot n l)) v (join_hidden lot n) ls o
      (orderly_joined es s lot n (nothing_at v) (empty_good lot v pos) (orderly_nothing es s v), λ _. joined_shows_one es s lot n (nothing_at v) (empty_good lot v pos) (orderly_nothing es s v))
      (λ l same k. (orderly_joined es s lot n l k.0 k.1, λ _. joined_shows_one es s lot n l k.0 k.1))
      (λ l ne k. (k.1, λ same. absurd (ne same)))
      (all_both (SoundLevel lot) (Orderly es s) ls g h)

  renewed_side : (es : List Order) (s : Side) (e : Order) (mark : Bool) (ls : List Level) → BestFirst rank s (prices ls) → AllByRecursion (SoundLevel lot) ls
      → ((n : ℕ) (m : Bool) → listed es s e.price (part e.number e.participant n m) ≡ true) → AllByRecursion (Orderly es s) ls
      → (let xs : List Level = on_price rank s e.price (join_hidden lot e.number) ls in
      (mark ≡ true → mark_at e.price xs ≡ false) → AllByRecursion (Orderly es s) (on_price rank s e.price (show_anew lot e mark) xs))
  renewed_side es s e mark ls o g own h clear =
      let v : ℕ = e.price in
      let n : ℕ = e.number in
      let xs : List Level = on_price rank s v (join_hidden lot n) ls in
      let Q : Level → Type 0 = λ l. Orderly es s l × (l.price ≡ v → LowShowsOne lot n l) in
      let q : AllByRecursion Q xs = joined_side es s v n ls o g h in
      on_price_to rank O s (λ l. Q l × Clear mark v l) (Orderly es s) v (show_anew lot e mark) xs (on_price_sorted rank O s v (join_hidden lot n) ls (join_hidden_still lot n) o)
      (orderly_shown_anew es s lot n e mark (nothing_at v) refl own (λ _. omega arith) (λ _. refl) (orderly_nothing es s v))
      (λ l same k. orderly_shown_anew es s lot n e mark l refl (λ m t. subst (λ u. listed es s u (part n e.participant m t) ≡ true) (sym same) (own m t)) (k.0.1 same) (λ z. k.1 z same) k.0.0)
      (λ l ne k. k.0.0)
      (all_both Q (Clear mark v) xs q (all_clear mark v xs clear))

  renewed_both : (es : List Order) (e : Order) (s : Side) (k : ℕ) (b : Book) → k ≡ lot → Sides lot b → Ranked rank O b
      → ((n : ℕ) (m : Bool) → listed es s e.price (part e.number e.participant n m) ≡ true) → Both es b
      → (let c : Book = with_side s (on_price rank s e.price (join_hidden k e.number) (side s b)) b in
      let mark : Bool = earns_mark rank s e.price (min e.display (hidden_of e.number (side s c))) c in
      Both es (with_side s (on_price rank s e.price (show_anew k e mark) (side s c)) c))
  renewed_both es e Buy k b is f r own h =
      let c : Book = with_side Buy (on_price rank Buy e.price (join_hidden k e.number) b.buys) b in
      let mark : Bool = earns_mark rank Buy e.price (min e.display (hidden_of e.number (side Buy c))) c in (
        subst (λ i. (mark ≡ true → mark_at e.price (on_price rank Buy e.price (join_hidden i e.number) b.buys) ≡ false) → AllByRecursion (Orderly es Buy) (on_price rank Buy e.price (show_anew i e mark) (on_price rank Buy e.price (join_hidden i e.number) b.buys))) (sym is)
            (renewed_side es Buy e mark b.buys r.buys f.buys own h.0) (earned_clear rank Buy e.price (min e.display (hidden_of e.number (side Buy c))) c),
        h.1,
      )
  renewed_both es e Sell k b is f r own h =
      let c : Book = with_side Sell (on_price rank Sell e.price (join_hidden k e.number) b.sells) b in
      let mark : Bool = earns_mark rank Sell e.price (min e.display (hidden_of e.number (side Sell c))) c in (
        h.0,
        subst (λ i. (mark ≡ true → mark_at e.price (on_price rank Sell e.price (join_hidden i e.number) b.sells) ≡ false) → AllByRecursion (Orderly es Sell) (on_price rank Sell e.price (show_anew i e mark) (on_price rank Sell e.price (join_hidden i e.number) b.sells))) (sym is)
            (renewed_side es Sell e mark b.sells r.sells f.sells own h.1) (earned_clear rank Sell e.price (min e.display (hidden_of e.number (side Sell c))) c),
      )

  -- a book inside an enter, against the orders that rested before it
  pub record Midway (es : List Order) (b : Book) : Type 0 where
    pub sides : Sides lot b
    pub ranked : Ranked rank O b
    pub both : Both es b

  pub midway_renewed : (es : List Order) (b : Book) (e : Order) → Displays e → OwnListed es e → Midway es b → Midway es (replenish_order rank b e)
  midway_renewed es b e ok own m =
      record {
        sides = replenish_order_fit rank lot b e pos ok m.sides;
        ranked = replenish_order_ranked rank O b e m.ranked;
        both = renewed_at (Both es) rank b e m.both (λ _. renewed_both es e e.side b.lot b m.sides.is m.sides m.ranked own m.both);
      }

  pub all_midway : (es : List Order) (b : Book) (xs : List Order) → AllByRecursion Displays xs → AllByRecursion (OwnListed es) xs → Midway es b → Midway es (fold (replenish_order rank) b xs)
  all_midway es b [] d own m = m
  all_midway es b (x ∷ xs) d own m = all_midway es (replenish_order rank b x) xs d.1 own.1 (midway_renewed es b x d.0 own.0 m)

  -- ## Placing

  abbrev pub Absent : ℕ → Level → Type 0
  Absent n l = (of_order n l.shown.parts ≡ 0) × (of_order n l.hidden.parts ≡ 0)

  pub all_absent : (n : ℕ) (ls : List Level) → of_side n ls ≡ 0 → AllByRecursion (Absent n) ls
  all_absent n [] h = tt
  all_absent n (l ∷ ls) h = ((omega arith, omega arith), all_absent n ls (omega arith))

  placed_side : (es : List Order) (s : Side) (v n : ℕ) (mark : Bool) (f : Level → Level) (ls : List Level) → BestFirst rank s (prices ls) → AllByRecursion (SoundLevel lot) ls → AllByRecursion (Orderly es s) ls → of_side n ls ≡ 0
      → (mark ≡ true → mark_at v ls ≡ false)
      → ((l : Level) → l.price ≡ v → Orderly es s l → parts_of n l.shown.parts ≡ 0 → parts_of n l.hidden.parts ≡ 0 → (mark ≡ true → marked_parts l.shown.parts ≡ 0) → Orderly es s (f l))
      → AllByRecursion (Orderly es s) (on_price rank s v f ls)
  placed_side es s v n mark f ls o g h absent clear step =
      on_price_to rank O s (λ l. (SoundLevel lot l × Orderly es s l) × (Absent n l × Clear mark v l)) (Orderly es s) v f ls o
      (step (nothing_at v) refl (orderly_nothing es s v) refl refl (λ _. refl))
      (λ l same k. step l same k.0.1 (no_part n l.shown.parts k.0.0.0.positive k.1.0.0) (no_part n l.hidden.parts k.0.0.1.positive k.1.0.1) (λ z. k.1.1 z same))
      (λ l ne k. k.0.1)
      (all_both (λ l. SoundLevel lot l × Orderly es s l) (λ l. Absent n l × Clear mark v l) ls (all_both (SoundLevel lot) (Orderly es s) ls g h) (all_both (Absent n) (Clear mark v) ls (all_absent n ls absent) (all_clear mark v ls clear)))

  room_for : (mark : Bool) (m : ℕ) → m ≤ 1 → (mark ≡ true → m ≡ 0) → m + cond mark 1 0 ≤ 1
  room_for true m h z = omega (arith, z refl)
  room_for false m h z = omega arith

  put_shown_orderly : (es : List Order) (s : Side) (x : Part) (l : Level) → listed es s l.price x ≡ true → parts_of x.order l.shown.parts ≡ 0 → (x.marked ≡ true → marked_parts l.shown.parts ≡ 0) → Orderly es s l → Orderly es s (put_shown x l)
  put_shown_orderly es s x l own absent clear o =
      (orderly_put es s l.price 1 2 x l.shown own (room_for x.marked (marked_parts l.shown.parts) o.0.marked clear) (omega arith) o.0, o.1)

  put_hidden_orderly : (es : List Order) (s : Side) (e : Order) (n : ℕ) (l : Level) → listed es s l.price (hidden_part e n) ≡ true → parts_of e.number l.hidden.parts ≡ 0 → Orderly es s l → Orderly es s (put_hidden (hidden_part e n) l)
  put_hidden_orderly es s e n l own absent o =
      (o.0, orderly_put es s l.price 0 1 (hidden_part e n) l.hidden own (omega (arith, o.1.marked)) (omega arith) o.1)

  two_parts_orderly : (es : List Order) (s : Side) (b : Book) (e : Order) (n : ℕ) (l : Level) → ((k : ℕ) (m : Bool) → listed es s l.price (part e.number e.participant k m) ≡ true) → parts_of e.number l.shown.parts ≡ 0 → parts_of e.number l.hidden.parts ≡ 0
      → ((shown_part rank b e (min e.display n)).marked ≡ true → marked_parts l.shown.parts ≡ 0) → Orderly es s l → Orderly es s (two_parts rank b e n l)
  two_parts_orderly es s b e n l own a c clear o = two_parts_by (Orderly es s) rank b e n l (λ _. first) (λ _. put_hidden_orderly es s e (n - d) (put_shown x l) (own (n - d) false) c first)
    where
      d : ℕ
      d = min e.display n

      x : Part
      x = shown_part rank b e d

      first : Orderly es s (put_shown x l)
      first = put_shown_orderly es s x l (own d x.marked) a clear o

  on_side : (es : List Order) (e : Order) (s : Side) (f : Level → Level) (b : Book) → Both es b → AllByRecursion (Orderly es s) (on_price rank s e.price f (side s b)) → Both es (with_side s (on_price rank s e.price f (side s b)) b)
  on_side es e Buy f b h k = (k, h.1)
  on_side es e Sell f b h k = (h.0, k)

  pub place_both : (es : List Order) (k : Kind) (e : Order) (n : ℕ) (b : Book) → OwnListed es e → of_side e.number (side e.side b) ≡ 0 → Midway es b → Both es (place rank k e n b)
  unfolding place
  place_both es Kind.Limit e n b own absent m =
      let s : Side = e.side in
      let x : Part = shown_part rank b e n in
      on_side es e s (put_shown x) b m.both
      (placed_side es s e.price e.number x.marked (put_shown x) (side s b) (sorted_side rank O s b m.ranked) (side_good lot s b m.sides) (orderly_side es s b m.both) absent
      (earned_clear rank s e.price n b)
      (λ l same o a c clear. put_shown_orderly es s x l (subst (λ u. listed es s u x ≡ true) (sym same) (own n x.marked)) a clear o))
  place_both es Kind.Hidden e n b own absent m =
      let s : Side = e.side in
      on_side es e s (put_hidden (hidden_part e n)) b m.both
      (placed_side es s e.price e.number false (put_hidden (hidden_part e n)) (side s b) (sorted_side rank O s b m.ranked) (side_good lot s b m.sides) (orderly_side es s b m.both) absent
      (λ z. absurd (false≢true z))
      (λ l same o a c clear. put_hidden_orderly es s e n l (subst (λ u. listed es s u (hidden_part e n) ≡ true) (sym same) (own n false)) c o))
  place_both es Kind.Reserve e n b own absent m =
      let s : Side = e.side in
      let x : Part = shown_part rank b e (min e.display n) in
      on_side es e s (two_parts rank b e n) b m.both
      (placed_side es s e.price e.number x.marked (two_parts rank b e n) (side s b) (sorted_side rank O s b m.ranked) (side_good lot s b m.sides) (orderly_side es s b m.both) absent
      (earned_clear rank s e.price (min e.display n) b)
      (λ l same o a c clear. two_parts_orderly es s b e n l (λ k t. subst (λ u. listed es s u (part e.number e.participant k t) ≡ true) (sym same) (own k t)) a c clear o))
  place_both es Kind.Immediate e n b own absent m = m.both
  place_both es Kind.Market e n b own absent m = m.both
