-- Reserve orders of a book are replenished one after the other. Assumes nothing.
use Rattle.std.proofs.Common.{◌≡◌, ℕ, suc, ◌+◌, ◌%◌, ◌<◌, ◌≤◌, min, Bool, true, false, not, ◌&&◌, eqb, leb, List, [], ◌∷◌, map, length, get_or, drop, fold, sym, refl, ap, ◌∙◌, subst, arith, Option}
use Rattle.std.specs.List.{ContainsAt as Has, AllByRecursion}
use Rattle.std.proofs.lemmas.List.{at_drop_more, at_drop_all, get_or-map}
use Rattle.std.proofs.lemmas.Bool.{and_parts, leb-true, not-false}
use Rattle.std.proofs.ByRecursion.{All-weaker, all-has, has_get_or}
use Rattle.allocation.specs.Rankings.{TotalOrder}
use Rattle.rules.specs.declared.orders.Side.{Side}
use Rattle.rules.specs.declared.orders.Side.TheVariants.{Buy, Sell}
use Rattle.rules.specs.declared.orders.Order.{Order}
use Rattle.rules.specs.Marks.{quoted}
use Rattle.rules.specs.Books.{Level, Ranking, Book, side, away, with_side}
use Rattle.rules.specs.Quantities.{of_side, resting}
use Rattle.rules.specs.Changes.{on_price}
use Rattle.rules.specs.Marks.{earns_mark}
use Rattle.rules.specs.Tables.{GoodTable}
use Rattle.rules.specs.Refusals.{within}
use Rattle.rules.specs.Reserve.{is_reserve, join_hidden, show_anew, hidden_of, replenish_order, replenish}
use Rattle.rules.specs.Invariants.{Admitted, BestFirst, Orderly, SoundLevel, prices}
use Rattle.rules.proofs.Crossing.{fine_good}
use Rattle.rules.proofs.Fits.{Same, all_renewed_same, all_renewed_rest}
use Rattle.rules.proofs.Listing.{OwnListed, own_each, unique_each}
use Rattle.rules.proofs.Numbering.{admitted_displays}
use Rattle.rules.proofs.Ranked.{join_hidden_still}
use Rattle.rules.proofs.Smallness.{in_range}
use Rattle.rules.proofs.Tending.{Midway, midway_renewed}
use Rattle.orders.specs.declared.tables.Resting.{Resting}
use Rattle.resting.specs.Earned.{earned}
use Rattle.resting.specs.Replenished.{joined, replenished, RoomToShow}
use Rattle.resting.proofs.Refilled.{length_on_price}
use Rattle.resting.proofs.Renewed.{on_price_twice}
use Rattle.matching.specs.Underway.{Underway}
use Rattle.matching.proofs.Room.{room_to_show}

-- ## An order among others

pub order_at : (rs : List Resting) (i : ℕ) (r : Resting) → i < length rs → r ≡ get_or rs i r → r.order ≡ get_or (map (λ r. r.order) rs) i r.order
order_at rs i r lt is = ap (λ r. r.order) is ∙ sym (get_or-map (λ r. r.order) rs i r r.order lt)

-- ## One order

-- on its side alone
renewed_side : (rank : Ranking) (s : Side) (v : ℕ) (g : Level → Level) (f : Bool → Level → Level) (n : List Level → ℕ) (b : Book)
    → (let js : List Level = on_price rank s v g (side s b) in
    let c : Book = with_side s js b in
    with_side s (on_price rank s v (f (earns_mark rank s v (n (side s c)) c)) (side s c)) c ≡ with_side s (on_price rank s v (f (earned rank s v (n js) b.lot (quoted (away s b)) js)) js) b)
unfolding earns_mark
renewed_side rank Buy v g f n b = refl
renewed_side rank Sell v g f n b = refl

pub renewed_is : (rank : Ranking) (b : Book) (e : Order) → is_reserve e.kind ≡ true → replenish_order rank b e ≡ with_side e.side (replenished rank b.lot (quoted (away e.side b)) e (side e.side b)) b
unfolding replenish_order
renewed_is rank b e r =
    rw r (renewed_side rank e.side e.price (join_hidden b.lot e.number) (show_anew b.lot e) (λ js. min e.display (hidden_of e.number js)) b)

pub not_renewed : (rank : Ranking) (b : Book) (e : Order) → is_reserve e.kind ≡ false → b ≡ replenish_order rank b e
unfolding replenish_order
not_renewed rank b e r = rw r

-- what the memory asks
pub record Ready (rank : Ranking) (lot : ℕ) (e : Order) (ls : List Level) : Type 0 where
  pub few : length ls < 385
  pub known : (0 < e.participant) × (e.participant < 25)
  pub display : e.display ≤ 500000
  pub small : of_side e.number ls ≤ 500000
  pub room : RoomToShow rank lot e ls

small_display : (lot : ℕ) (e : Order) → Admitted lot e → is_reserve e.kind ≡ true → e.display ≤ e.quantity
small_display lot e a r =
    let b : not (within 1 e.quantity e.display && eqb (e.display % lot) 0) ≡ false = rw r at a.display in
    let w = (and_parts (within 1 e.quantity e.display) (eqb (e.display % lot) 0) (not-false _ b)).0 in
    leb-true e.display e.quantity (and_parts (leb 1 e.display) (leb e.display e.quantity) w).1

module _ (rank : Ranking) (O : TotalOrder rank.good) (lot : ℕ) (es : List Order) where
  side_of : (s : Side) (b : Book) (n : ℕ) → of_side n (side s b) ≤ resting n b
  side_of Buy b n = omega arith
  side_of Sell b n = omega arith

  few_on : (s : Side) (most : ℕ) (b : Book) → Underway rank lot es most b → length (side s b) ≤ most
  few_on Buy most b h = h.few_buys
  few_on Sell most b h = h.few_sells

  sorted_on : (s : Side) (most : ℕ) (b : Book) → Underway rank lot es most b → BestFirst rank s (prices (side s b))
  sorted_on Buy most b h = h.sorted_buys
  sorted_on Sell most b h = h.sorted_sells

  sound_on : (s : Side) (most : ℕ) (b : Book) → Underway rank lot es most b → AllByRecursion (SoundLevel lot) (side s b)
  sound_on Buy most b h = h.sound_buys
  sound_on Sell most b h = h.sound_sells

  orderly_on : (s : Side) (most : ℕ) (b : Book) → Underway rank lot es most b → AllByRecursion (Orderly es s) (side s b)
  orderly_on Buy most b h = h.orderly_buys
  orderly_on Sell most b h = h.orderly_sells

  pub ready_for : (b : Book) (e : Order) → Underway rank lot es 384 b → Has es e → is_reserve e.kind ≡ true → Ready rank lot e (side e.side b)
  ready_for b e h here r =
      let a : Admitted lot e = all-has (Admitted lot) es e h.admitted here in
      let who = in_range 1 24 e.participant a.participant in
      let size = in_range 1 500000 e.quantity a.quantity in
      record {
        few = omega (arith, few_on e.side 384 b h);
        known = (omega (arith, who.0), omega (arith, who.1));
        display = omega (arith, size.1, small_display lot e a r);
        small = omega (arith, size.1, side_of e.side b e.number, all-has (λ e. resting e.number b ≤ e.quantity) es e h.resting here);
        room = room_to_show rank O lot h.positive es e (all-has _ es e (unique_each es h.once) here) (all-has _ es e (own_each es) here) h.once h.few (side e.side b) (sorted_on e.side 384 b h) (sound_on e.side 384 b h) (orderly_on e.side 384 b h);
      }

  -- ## One order after the other

  midway : (most : ℕ) (b : Book) (h : Underway rank lot es most b) → Midway rank O lot h.positive es b
  midway most b h =
      record {
        sides = record { is = h.is; buys = h.sound_buys; sells = h.sound_sells };
        ranked = record { steps = fine_good b.steps h.table; buys = h.sorted_buys; sells = h.sorted_sells };
        both = (h.orderly_buys, h.orderly_sells);
      }

  longer : (s : Side) (ls : List Level) (b : Book) (most : ℕ) → length b.buys ≤ most → length b.sells ≤ most → length ls ≤ length (side s b) + 1 → (length (with_side s ls b).buys ≤ most + 1) × (length (with_side s ls b).sells ≤ most + 1)
  longer Buy ls b most p q h = (omega (arith, p, h), omega (arith, q))
  longer Sell ls b most p q h = (omega (arith, p), omega (arith, q, h))

  one_longer : (away : Option ℕ) (e : Order) (k : ℕ) (ls : List Level) → length (replenished rank k away e ls) ≤ length ls + 1
  one_longer away e k ls =
      let mark : Bool = earned rank e.side e.price (min e.display (hidden_of e.number (joined rank k e ls))) k away (joined rank k e ls) in
      omega (
        arith,
        ap length (on_price_twice rank e.side e.price (show_anew k e mark) (join_hidden k e.number) (join_hidden_still k e.number) ls),
        length_on_price rank e.side e.price (λ l. show_anew k e mark (join_hidden k e.number l)) ls,
      )

  few_renewed : (b : Book) (e : Order) (most : ℕ) → Underway rank lot es most b → (t : Bool) → is_reserve e.kind ≡ t → (length (replenish_order rank b e).buys ≤ most + 1) × (length (replenish_order rank b e).sells ≤ most + 1)
  few_renewed b e most h true r =
      subst (λ (c : Book). (length c.buys ≤ most + 1) × (length c.sells ≤ most + 1)) (sym (renewed_is rank b e r))
      (longer e.side (replenished rank b.lot (quoted (away e.side b)) e (side e.side b)) b most h.few_buys h.few_sells (one_longer (quoted (away e.side b)) e b.lot (side e.side b)))
  few_renewed b e most h false r =
      subst (λ (c : Book). (length c.buys ≤ most + 1) × (length c.sells ≤ most + 1)) (not_renewed rank b e r) (omega (arith, h.few_buys), omega (arith, h.few_sells))

  -- an order more is looked at
  underway_more : (b : Book) (e : Order) (most : ℕ) → Underway rank lot es most b → Has es e → Underway rank lot es (most + 1) (replenish_order rank b e)
  underway_more b e most h here =
      let c : Book = replenish_order rank b e in
      let m : Midway rank O lot h.positive es c = midway_renewed rank O lot h.positive es b e (admitted_displays lot e (all-has (Admitted lot) es e h.admitted here)) (all-has (OwnListed es) es e (own_each es) here) (midway most b h) in
      let same : Same b c = all_renewed_same rank b (e ∷ []) in
      let few = few_renewed b e most h (is_reserve e.kind) refl in
      record {
        is = m.sides.is;
        orders = same.orders ∙ h.orders;
        positive = h.positive;
        table = subst GoodTable (sym same.steps) h.table;
        sound_buys = m.sides.buys;
        sound_sells = m.sides.sells;
        sorted_buys = m.ranked.buys;
        sorted_sells = m.ranked.sells;
        orderly_buys = m.both.0;
        orderly_sells = m.both.1;
        few_buys = few.0;
        few_sells = few.1;
        once = h.once;
        few = h.few;
        admitted = h.admitted;
        resting = All-weaker (λ x. resting x.number b ≤ x.quantity) (λ x. resting x.number c ≤ x.quantity) (λ x k. omega (arith, k, all_renewed_rest rank x.number b (e ∷ []))) es h.resting;
      }

  pub underway_within : (b : Book) (most more : ℕ) → most ≤ more → Underway rank lot es most b → Underway rank lot es more b
  underway_within b most more le h =
      record {
        is = h.is;
        orders = h.orders;
        positive = h.positive;
        table = h.table;
        sound_buys = h.sound_buys;
        sound_sells = h.sound_sells;
        sorted_buys = h.sorted_buys;
        sorted_sells = h.sorted_sells;
        orderly_buys = h.orderly_buys;
        orderly_sells = h.orderly_sells;
        few_buys = omega (arith, h.few_buys);
        few_sells = omega (arith, h.few_sells);
        once = h.once;
        few = h.few;
        admitted = h.admitted;
        resting = h.resting;
      }

  -- all of some orders are looked at
  pub all_underway : (b : Book) (xs : List Order) (most : ℕ) → AllByRecursion (Has es) xs → Underway rank lot es most b → Underway rank lot es (most + length xs) (fold (replenish_order rank) b xs)
  all_underway b [] most a h = underway_within b most (most + 0) (omega arith) h
  all_underway b (x ∷ xs) most a h =
      let c : Book = fold (replenish_order rank) (replenish_order rank b x) xs in
      underway_within c (most + 1 + length xs) (most + suc (length xs)) (omega arith) (all_underway (replenish_order rank b x) xs (most + 1) a.1 (underway_more b x most h a.0))

  -- by the book's own round lot and orders
  pub underway_own : (b : Book) (most : ℕ) → Underway rank lot es most b → Underway rank b.lot b.orders most b
  underway_own b most h = subst (λ k. Underway rank k b.orders most b) (sym h.is) (subst (λ os. Underway rank lot os most b) (sym h.orders) h)

  -- i orders are looked at: the others give the whole
  pub record Renewing (i : ℕ) (before now : Book) : Type 0 where
    pub whole : fold (replenish_order rank) now (drop i es) ≡ fold (replenish_order rank) before es
    pub underway : Underway rank lot es (128 + i) now

  pub renewing_start : (b : Book) → Underway rank lot es 128 b → Renewing 0 b b
  renewing_start b h = record { whole = refl; underway = underway_within b 128 (128 + 0) (omega arith) h }

  pub renewing_more : (i : ℕ) (before now next : Book) (d : Order) → i < length es → Renewing i before now → next ≡ replenish_order rank now (get_or es i d) → Renewing (i + 1) before next
  renewing_more i before now next d lt h is =
      let e : Order = get_or es i d in
      let more : fold (replenish_order rank) now (drop i es) ≡ fold (replenish_order rank) (replenish_order rank now e) (drop (i + 1) es) = at_drop_more (fold (replenish_order rank) now) es i d lt in
      record {
        whole = ap (λ b. fold (replenish_order rank) b (drop (i + 1) es)) is ∙ sym more ∙ h.whole;
        underway = subst (Underway rank lot es (128 + (i + 1))) (sym is) (underway_within (replenish_order rank now e) (128 + i + 1) (128 + (i + 1)) (omega arith) (underway_more now e (128 + i) h.underway (has_get_or es i d lt)));
      }

  pub renewing_over : (i : ℕ) (before now : Book) → length es ≤ i → before.orders ≡ es → Renewing i before now → now ≡ replenish rank before
  unfolding replenish
  renewing_over i before now le same h =
      let end : fold (replenish_order rank) now (drop i es) ≡ now = at_drop_all (fold (replenish_order rank) now) es i le in
      sym end ∙ h.whole ∙ ap (fold (replenish_order rank) before) (sym same)
