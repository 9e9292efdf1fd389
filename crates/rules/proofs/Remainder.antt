-- A sound book, after an order has traded and its remainder is placed or given back. Assumes nothing.
use Rattle.std.proofs.Common.{◌≡◌, ℕ, ◌+◌, ◌<◌, ◌≤◌, Bool, true, false, cond, ◌&&◌, ◌||◌, eqb, leb, List, [], ◌∷◌, ◌++◌, length, None, fold, sym, refl, ap, ◌∙◌, subst, arith}
use mathlib.Core.Bool.{false≢true}
use Rattle.std.specs.List.{AllByRecursion}
use Rattle.std.proofs.lemmas.List.{map_push, length_push}
use Rattle.std.proofs.lemmas.Bool.{eq-eqb, leb-false}
use Rattle.std.proofs.ByRecursion.{All-weaker, All-push}
use Rattle.allocation.specs.Rankings.{TotalOrder}
use Rattle.allocation.specs.Dealings.{Deal, Lawful}
use Rattle.rules.specs.declared.orders.Side.{Side}
use Rattle.rules.specs.declared.orders.Side.TheVariants.{Buy, Sell}
use Rattle.rules.specs.declared.orders.Order.{Order}
use Rattle.rules.specs.declared.phases.Step.{Step}
use Rattle.rules.specs.declared.calls.Call.TheVariants.{Enter}
use Rattle.rules.specs.Lists.{Distinct}
use Rattle.rules.specs.Books.{Book, Level, Ranking, good, side, other, with_side}
use Rattle.rules.specs.Quantities.{resting, of_side}
use Rattle.rules.specs.Trading.{trade_side, in_reach, Traded}
use Rattle.rules.specs.Reserve.{is_reserve, replenish, replenish_order}
use Rattle.rules.specs.Refusals.{bad_number, bad_participant, bad_quantity, bad_price, bad_display, no_place, first, refusals, rests}
use Rattle.rules.specs.Entering.{place, trade, arrived, not_placed, with_order}
use Rattle.rules.specs.Tables.{count, has_step, same_step, GoodTable}
use Rattle.rules.specs.Invariants.{SoundBook, SoundLevel, BestFirst, Orderly, numbers, Admitted, listed, Rising}
use Rattle.rules.proofs.Members.{all_both}
use Rattle.rules.proofs.Trades.{trade_side_good}
use Rattle.rules.proofs.Fits.{Sides, Same, Displays, Fit, AfterTrade, after_trading, side_good, side_fit, place_rest}
use Rattle.rules.proofs.Rulings.{none_applies}
use Rattle.rules.proofs.Effects.{place_same, placed_rests}
use Rattle.rules.proofs.Ranked.{Ranked, sorted_side, side_ranked, trade_side_prices}
use Rattle.rules.proofs.Walks.{each_traded, orderly_step, Held, held_step}
use Rattle.rules.proofs.Listing.{own_each, own_last, unique_each, listed_push}
use Rattle.rules.proofs.Tending.{Both, orderly_side, Midway, all_midway, place_both}
use Rattle.rules.proofs.Rested.{Rested, all_rested}
use Rattle.rules.proofs.Emptied.{side_emptied}
use Rattle.rules.proofs.Uncrossed.{Apart, apart_changed, uncrossed_apart, held_weaker, held_and, nothing_held, all_held, all_apart}
use Rattle.rules.proofs.Numbering.{rising_push, rising_distinct, rising_below, admitted_displays, display_enough, sound_fit, sound_ranked}
use Rattle.rules.proofs.Placing.{place_held, place_other, out_of_limit, turned_good, place_rested, place_own_rested}
use Rattle.rules.proofs.Upkeep.{Upkept, upkept_less}

-- ## What the refusals have seen to

pub record EntryAllowed (b : Book) (e : Order) : Type 0 where
  pub number : bad_number e.number ≡ false
  pub participant : bad_participant e.participant ≡ false
  pub quantity : bad_quantity e.quantity ≡ false
  pub price : bad_price e.kind e.price ≡ false
  pub display : bad_display b.lot e.kind e.quantity e.display ≡ false
  pub new : b.last < e.number
  pub room : no_place b e ≡ false

pub entry_allowed : (b : Book) (room : ℕ) (e : Order) → first (refusals b room (Enter e)) ≡ None → EntryAllowed b e
unfolding refusals
entry_allowed b room e h =
    let f = none_applies (refusals b room (Enter e)) h in
    record {
      number = f.0;
      participant = f.1.0;
      quantity = f.1.1.0;
      price = f.1.1.1.0;
      display = f.1.1.1.1.0;
      new = leb-false e.number b.last f.1.1.1.1.1.1.1.0;
      room = f.1.1.1.1.1.1.1.1.0;
    }

-- ## The steps of a table

has_counted : (s : Step) (ss : List Step) → count s ss ≡ 1 → has_step s ss ≡ true
has_counted s [] h = let no_way : ⊥ = omega arith in absurd no_way
has_counted s (t ∷ ss) h = go (same_step t s) h (has_counted s ss)
  where
    go : (x : Bool) → cond x 1 0 + count s ss ≡ 1 → (count s ss ≡ 1 → has_step s ss ≡ true) → (x || has_step s ss) ≡ true
    go true h ih = refl
    go false h ih = ih (omega arith)

module _ (rank : Ranking) (O : TotalOrder rank.good) (deal : Deal) (D : Lawful deal) where
  -- ## After trading and replenishing

  -- the other side after the trades
  abbrev pub met_side : Book → Order → List Level
  met_side b e = (trade_side deal b.lot e.number b.steps (in_reach rank (arrived e b) e) e.quantity (side (other e.side) b)).rest

  pub midway_met : (b : Book) (e : Order) → SoundBook rank b → (pos : 0 < b.lot) → Midway rank O b.lot pos b.orders (with_side (other e.side) (met_side b e) (arrived e b))
  midway_met b e s pos =
      let t : Side = other e.side in
      let c : Book = arrived e b in
      let reach : ℕ → Bool = in_reach rank c e in
      let k : Ranked rank O b = sound_ranked rank O b s in
      let g : AllByRecursion (SoundLevel b.lot) (side t b) = side_good b.lot t b (record { is = refl; buys = s.buys.sound; sells = s.sells.sound }) in
      record {
        sides = side_fit b.lot t (met_side b e) c (record { is = refl; buys = s.buys.sound; sells = s.sells.sound }) (trade_side_good deal D b.lot e.number b.steps reach e.quantity (side t b) g);
        ranked = side_ranked rank O t (met_side b e) c (record { steps = k.steps; buys = k.buys; sells = k.sells }) (subst (λ vs. BestFirst rank t vs) (sym (trade_side_prices deal b.lot e.number b.steps reach e.quantity (side t b))) (sorted_side rank O t b k));
        both = with_both t (met_side b e) (each_traded (Orderly b.orders t) (orderly_step b.orders t) deal b.lot e.number b.steps reach e.quantity (side t b) (orderly_side b.orders t b (s.buys.orderly, s.sells.orderly)));
      }
    where
      with_both : (t : Side) (ls : List Level) → AllByRecursion (Orderly b.orders t) ls → Both b.orders (with_side t ls (arrived e b))
      with_both Buy ls h = (h, s.sells.orderly)
      with_both Sell ls h = (s.buys.orderly, h)

  record MetBook (b : Book) (e : Order) (r : Traded Book) (pos : 0 < b.lot) : Type 0 where
    midway : Midway rank O b.lot pos b.orders r.rest
    apart : Apart rank r.rest.buys r.rest.sells
    rested : AllByRecursion (λ x. is_reserve x.kind ≡ true → Rested b.lot x.number r.rest) b.orders
    emptied : 0 < r.left → AllByRecursion (Held (λ w. in_reach rank (arrived e b) e w ≡ false)) (side (other e.side) r.rest)

  met_book : (b : Book) (e : Order) (s : SoundBook rank b) → MetBook b e (trade rank deal e (arrived e b)) s.lot
  unfolding trade replenish
  met_book b e s =
      record {
        midway = all_midway rank O b.lot s.lot es reached_part es displays (own_each es) mid;
        apart = all_apart rank reached_part es (apart_met t);
        rested = all_rested rank O b.lot s.lot es reached_part es once displays big (own_each es) (unique_each es once) mid;
        emptied = λ some. kept_empty t (side_emptied deal D b.lot e.number b.steps (has_counted Step.Displayed b.steps s.table.one_displayed) (has_counted Step.Hidden b.steps s.table.one_hidden) reach e.quantity (side t c) (side_good b.lot t b sides) some);
      }
    where
      es : List Order
      es = b.orders

      c : Book
      c = arrived e b

      t : Side
      t = other e.side

      reach : ℕ → Bool
      reach = in_reach rank c e

      rest : List Level
      rest = (trade_side deal b.lot e.number b.steps reach e.quantity (side t c)).rest

      reached_part : Book
      reached_part = with_side t rest c

      sides : Sides b.lot b
      sides = record { is = refl; buys = s.buys.sound; sells = s.sells.sound }

      once : Distinct (numbers es)
      once = rising_distinct b.last (numbers es) s.rising

      displays : AllByRecursion Displays es
      displays = All-weaker (Admitted b.lot) Displays (λ x a. admitted_displays b.lot x a) es s.admitted

      big : AllByRecursion (λ x. is_reserve x.kind ≡ true → b.lot ≤ x.display) es
      big = All-weaker (Admitted b.lot) (λ x. is_reserve x.kind ≡ true → b.lot ≤ x.display) (λ x a r. display_enough b.lot x s.lot a r) es s.admitted

      mid : Midway rank O b.lot s.lot es reached_part
      mid = midway_met b e s s.lot

      traded_held : (t : Side) (P : ℕ → Type 0) → AllByRecursion (Held P) (side t c) → AllByRecursion (Held P) (trade_side deal b.lot e.number b.steps reach e.quantity (side t c)).rest
      traded_held t P h = each_traded (Held P) (held_step P) deal b.lot e.number b.steps reach e.quantity (side t c) h

      apart_met : (t : Side) → (let x : Book = with_side t (trade_side deal b.lot e.number b.steps reach e.quantity (side t c)).rest c in Apart rank x.buys x.sells)
      apart_met Buy = apart_changed rank b.buys (trade_side deal b.lot e.number b.steps reach e.quantity b.buys).rest b.sells b.sells (traded_held Buy) (λ P h. h) (uncrossed_apart rank b.buys b.sells s.uncrossed)
      apart_met Sell = apart_changed rank b.buys b.buys b.sells (trade_side deal b.lot e.number b.steps reach e.quantity b.sells).rest (λ P h. h) (traded_held Sell) (uncrossed_apart rank b.buys b.sells s.uncrossed)

      kept_empty : (t : Side) → AllByRecursion (Held (λ w. reach w ≡ false)) (trade_side deal b.lot e.number b.steps reach e.quantity (side t c)).rest
          → AllByRecursion (Held (λ w. reach w ≡ false)) (side t (fold (replenish_order rank) (with_side t (trade_side deal b.lot e.number b.steps reach e.quantity (side t c)).rest c) es))
      kept_empty Buy h = (all_held (λ w. reach w ≡ false) (λ _. Unit {0}) rank (with_side Buy (trade_side deal b.lot e.number b.steps reach e.quantity b.buys).rest c) es (h, nothing_held b.sells)).0
      kept_empty Sell h = (all_held (λ _. Unit {0}) (λ w. reach w ≡ false) rank (with_side Sell (trade_side deal b.lot e.number b.steps reach e.quantity b.sells).rest c) es (nothing_held b.buys, h)).1

  -- ## What becomes of the remainder

  module _ (b : Book) (e : Order) (s : SoundBook rank b) (a : EntryAllowed b e) where
    unfoldable pub trading : Traded Book
    trading = trade rank deal e (arrived e b)

    T : AfterTrade b.lot e b trading
    unfolding trading
    T = after_trading rank deal D b.lot e b (sound_fit rank b s)

    M : MetBook b e trading s.lot
    unfolding trading
    M = met_book b e s

    -- nothing of it is placed
    pub not_resting : Fit b.lot trading.rest → Ranked rank O trading.rest → Upkept rank O b.lot trading.rest
    not_resting f k =
        upkept_less rank O b.lot b trading.rest refl s f k T.same.orders (omega (arith, T.same.last, a.new)) T.same.steps (λ n. omega (arith, (T.even n).rest)) M.midway.both M.apart M.rested

    new_here : resting e.number trading.rest ≡ 0
    new_here = omega (arith, (T.even e.number).rest, (sound_fit rank b s).fresh e.number a.new)

    es : List Order
    es = b.orders

    grown : (s : Side) (l : Level) → Orderly b.orders s l → Orderly (b.orders ++ (e ∷ [])) s l
    grown s l o = (
      record { listed = All-weaker (λ p. listed b.orders s l.price p ≡ true) (λ p. listed (b.orders ++ (e ∷ [])) s l.price p ≡ true) (λ p h. listed_push b.orders e s l.price p h) l.shown.parts o.0.listed; marked = o.0.marked; few = o.0.few },
      record { listed = All-weaker (λ p. listed b.orders s l.price p ≡ true) (λ p. listed (b.orders ++ (e ∷ [])) s l.price p ≡ true) (λ p h. listed_push b.orders e s l.price p h) l.hidden.parts o.1.listed; marked = o.1.marked; few = o.1.few },
    )

    grown_midway : Midway rank O b.lot s.lot (b.orders ++ (e ∷ [])) trading.rest
    grown_midway = record {
      sides = M.midway.sides;
      ranked = M.midway.ranked;
      both = (
        All-weaker (Orderly b.orders Buy) (Orderly (b.orders ++ (e ∷ [])) Buy) (grown Buy) trading.rest.buys M.midway.both.0,
        All-weaker (Orderly b.orders Sell) (Orderly (b.orders ++ (e ∷ [])) Sell) (grown Sell) trading.rest.sells M.midway.both.1,
      );
    }

    side_new : (t : Side) → of_side e.number (side t trading.rest) ≡ 0
    side_new Buy = omega (arith, new_here)
    side_new Sell = omega (arith, new_here)

    placed_apart : (n : ℕ) → 0 < trading.left → not_placed rank b e ≡ false → (let x : Book = place rank e.kind e n trading.rest in Apart rank x.buys x.sells)
    placed_apart n some np = go e.side refl
      where
        y : Book
        y = trading.rest

        x : Book
        x = place rank e.kind e n y

        held : (t : Side) → e.side ≡ t → (P : ℕ → Type 0) → P e.price → AllByRecursion (Held P) (side t y) → AllByRecursion (Held P) (side t x)
        held t eq P = subst (λ t. P e.price → AllByRecursion (Held P) (side t y) → AllByRecursion (Held P) (side t x)) eq (place_held rank O P e.kind e n y (sorted_side rank O e.side y M.midway.ranked))

        apart_side : (t : Side) → e.side ≡ t → side (other t) x ≡ side (other t) y
        apart_side t eq = subst (λ t. side (other t) x ≡ side (other t) y) eq (place_other rank O e.kind e n y)

        clear : (t : Side) → e.side ≡ t → AllByRecursion (Held (λ w. good rank (other t) w e.price ≡ false)) (side (other t) y)
        clear t eq = subst (λ t. AllByRecursion (Held (λ w. good rank (other t) w e.price ≡ false)) (side (other t) y)) eq
            (held_weaker (λ w. in_reach rank (arrived e b) e w ≡ false) (λ w. good rank (other e.side) w e.price ≡ false) (λ w h. out_of_limit rank O e b w np h) (side (other e.side) y) (M.emptied some))

        go : (t : Side) → e.side ≡ t → Apart rank x.buys x.sells
        go Buy eq = subst (λ ss. Apart rank x.buys ss) (sym (apart_side Buy eq)) (held Buy eq (λ v. AllByRecursion (Held (λ w. good rank Sell w v ≡ false)) y.sells) (clear Buy eq) M.apart)
        go Sell eq = subst (λ bs. Apart rank bs x.sells) (sym (apart_side Sell eq))
            (held_weaker (λ v. AllByRecursion (Held (λ w. good rank Sell w v ≡ false)) y.sells × (good rank Buy v e.price ≡ false)) (λ v. AllByRecursion (Held (λ w. good rank Sell w v ≡ false)) x.sells)
            (λ v h. held Sell eq (λ w. good rank Sell w v ≡ false) (sym (turned_good rank O v e.price) ∙ h.1) h.0) y.buys
            (held_and (λ v. AllByRecursion (Held (λ w. good rank Sell w v ≡ false)) y.sells) (λ v. good rank Buy v e.price ≡ false) y.buys M.apart (clear Sell eq)))

    pub resting_one : Fit b.lot (with_order e (place rank e.kind e trading.left trading.rest)) → Ranked rank O (with_order e (place rank e.kind e trading.left trading.rest)) → 0 < trading.left → not_placed rank b e ≡ false
        → Upkept rank O b.lot (with_order e (place rank e.kind e trading.left trading.rest))
    resting_one f k some np =
        record {
          fit = f;
          ranked = k;
          table = subst GoodTable (sym (same.steps ∙ T.same.steps)) s.table;
          both = subst (λ os. Both os x) (sym orders) (place_both rank O b.lot s.lot (b.orders ++ (e ∷ [])) e.kind e n trading.rest (own_last b.orders e) (side_new e.side) grown_midway);
          apart = placed_apart n some np;
          rising = subst (λ j. Rising j (numbers (x.orders ++ (e ∷ [])))) (sym (same.last ∙ T.same.last))
              (subst (λ os. Rising e.number (numbers os)) (sym orders) (subst (λ ns. Rising e.number ns) (sym (map_push (λ e. e.number) b.orders e)) (rising_push b.last e.number (numbers b.orders) a.new s.rising)));
          few = subst (λ os. length os ≤ 128) (sym orders) (omega (arith, length_push b.orders e, room));
          admitted = subst (λ os. AllByRecursion (Admitted b.lot) os) (sym orders) (All-push (Admitted b.lot) b.orders e s.admitted own);
          inside = subst (λ os. AllByRecursion (λ o. resting o.number x ≤ o.quantity) os) (sym orders)
              (All-push (λ o. resting o.number x ≤ o.quantity) b.orders e
              (All-weaker (λ o. (eqb e.number o.number ≡ false) × ((0 < resting o.number b) × (resting o.number b ≤ o.quantity))) (λ o. resting o.number x ≤ o.quantity)
              (λ o h. (let p = rw h.0 at (more o.number) in omega (arith, (T.even o.number).rest, h.1.1))) b.orders
              (all_both (λ o. eqb e.number o.number ≡ false) (λ o. (0 < resting o.number b) × (resting o.number b ≤ o.quantity)) b.orders below s.resting))
              (let p = rw (eq-eqb e.number e.number refl) at (more e.number) in omega (arith, new_here, (T.even e.number).less)));
          rested = subst (λ os. AllByRecursion (λ o. is_reserve o.kind ≡ true → Rested b.lot o.number x) os) (sym orders)
              (All-push (λ o. is_reserve o.kind ≡ true → Rested b.lot o.number x) b.orders e
              (All-weaker (λ o. (eqb e.number o.number ≡ false) × (is_reserve o.kind ≡ true → Rested b.lot o.number trading.rest)) (λ o. is_reserve o.kind ≡ true → Rested b.lot o.number x)
              (λ o h v. place_rested rank O b.lot o.number e.kind e n trading.rest h.0 (h.1 v)) b.orders
              (all_both (λ o. eqb e.number o.number ≡ false) (λ o. is_reserve o.kind ≡ true → Rested b.lot o.number trading.rest) b.orders below M.rested))
              (λ v. place_own_rested rank O b.lot e.kind e n trading.rest v M.midway.ranked.buys M.midway.ranked.sells (display_enough b.lot e s.lot own v) new_here));
        }
      where
        n : ℕ
        n = trading.left

        x : Book
        x = place rank e.kind e n trading.rest

        kind_rests : rests e.kind ≡ true
        kind_rests = placed_rests rank b e np

        same : Same trading.rest x
        same = place_same rank e.kind e n trading.rest

        orders : x.orders ++ (e ∷ []) ≡ b.orders ++ (e ∷ [])
        orders = ap (λ os. os ++ (e ∷ [])) (same.orders ∙ T.same.orders)

        more : (j : ℕ) → resting j x ≡ resting j trading.rest + cond (eqb e.number j) n 0
        more j = place_rest rank e.kind e n j trading.rest kind_rests

        below : AllByRecursion (λ o. eqb e.number o.number ≡ false) b.orders
        below = rising_below b.last e.number b.orders s.rising a.new

        own : Admitted b.lot e
        own = record { number = a.number; participant = a.participant; quantity = a.quantity; price = a.price; display = a.display; rests = kind_rests }

        room : length b.orders < 128
        room = leb-false 128 (length b.orders) (go (leb 128 (length b.orders)) a.room)
          where
            go : (t : Bool) → (t && rests e.kind) ≡ false → t ≡ false
            go true h = absurd (false≢true (sym h ∙ kind_rests))
            go false h = refl
