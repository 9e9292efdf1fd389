-- A sound book while an order arrives and trades. Assumes nothing.
use Rattle.std.proofs.Common.{◌≡◌, ℕ, ◌+◌, ◌-◌, ◌<◌, ◌≤◌, true, false, List, [], ◌∷◌, ◌++◌, length, take, drop, sym, refl, ap, ◌∙◌, subst, arith}
use Rattle.std.specs.List.{AllByRecursion}
use Rattle.std.proofs.lemmas.List.{length-map, take-append-le, take_all, length-append}
use Rattle.std.proofs.ByRecursion.{All-weaker, all_has_itself}
use Rattle.allocation.specs.Rankings.{TotalOrder}
use Rattle.allocation.specs.Dealings.{Deal, Lawful}
use Rattle.rules.specs.declared.orders.Side.{Side}
use Rattle.rules.specs.declared.orders.Side.TheVariants.{Buy, Sell}
use Rattle.rules.specs.declared.orders.Order.{Order}
use Rattle.rules.specs.declared.calls.Call.TheVariants.{Enter}
use Rattle.rules.specs.declared.answers.Row.{Row}
use Rattle.rules.specs.declared.answers.Row.TheVariants.{Trade, GivenBack}
use Rattle.rules.specs.Lists.{has, sum_of}
use Rattle.rules.specs.Books.{Level, Ranking, Book, side, other, with_side}
use Rattle.rules.specs.Quantities.{resting}
use Rattle.rules.specs.Trading.{Traded, in_reach}
use Rattle.rules.specs.Reserve.{is_reserve, runs_low, replenish_order, replenish}
use Rattle.rules.specs.Entering.{arrived, trade}
use Rattle.rules.specs.Reports.{Names}
use Rattle.rules.specs.Invariants.{SoundBook, SoundLevel, BestFirst, prices, numbers}
use Rattle.rules.proofs.Members.{all_both}
use Rattle.rules.proofs.Trades.{as_resting}
use Rattle.rules.proofs.Fits.{AfterTrade, after_trading, side_good, all_renewed_rest}
use Rattle.rules.proofs.Ranked.{trade_side_prices, sorted_side}
use Rattle.rules.proofs.Listing.{Unique, unique_each}
use Rattle.rules.proofs.Numbering.{sound_fit, sound_ranked, rising_distinct}
use Rattle.rules.proofs.Smallness.{sound_small}
use Rattle.rules.proofs.Tending.{Midway}
use Rattle.rules.proofs.Remainder.{midway_met}
use Rattle.rules.proofs.Reporting.{met_rows}
use Rattle.orders.specs.declared.tables.Resting.{Resting}
use Rattle.orders.specs.Deducted.{taken_from, deducted, Named}
use Rattle.memory.specs.States.{Tallied}
use Rattle.trading.specs.Written.{written}
use Rattle.matching.specs.Meeting.{met}
use Rattle.matching.specs.Underway.{Underway}
use Rattle.matching.proofs.Renewing.{underway_within, all_underway}
use Rattle.matching.proofs.Standing.{price_here}
use Rattle.matching.proofs.Quiet.{quiet_low, unchanged, all_unchanged}

-- the rows of a call stand in the front of its report
pub front_rows : (report rows : List Row) (n : ℕ) → n ≡ length rows → take (n - 0) (written report 0 rows) ≡ rows
front_rows report rows n e =
    let all : n - 0 ≡ length rows = omega arith in
    ap (λ k. take k (rows ++ drop (0 + length rows) report)) all ∙ take-append-le (length rows) rows (drop (0 + length rows) report) (omega arith) ∙ take_all (length rows) rows (omega arith)

pub fits_report : (report rows after : List Row) (n : ℕ) → after ≡ written report 0 rows → n ≡ length rows → n ≤ length after
fits_report report rows after n is e = omega (arith, ap length is, length-append rows (drop (0 + length rows) report))

pub none_left : {X : Type 0} (xs : List X) → length xs ≤ 0 → xs ≡ []
none_left [] h = refl
none_left (x ∷ xs) h = absurd (omega arith)

names_named : (b : Book) (e : Order) (ns : List ℕ) → ((n : ℕ) → 0 < resting n b → has n ns ≡ true) → (xs : List Row) → AllByRecursion (Names b (Enter e)) xs → AllByRecursion (Named ns) xs
names_named b e ns covered [] a = tt
names_named b e ns covered (Trade s r m v q ∷ xs) a = (covered r a.0.1, names_named b e ns covered xs a.1)
names_named b e ns covered (GivenBack n q ∷ xs) a = (tt, names_named b e ns covered xs a.1)

all_tallied : (b c : Book) (xs : List Row) → ((n : ℕ) → resting n b ≡ taken_from n xs + resting n c) → (rs : List Resting) → Tallied rs b → Tallied (deducted xs rs) c
all_tallied b c xs h [] t = tt
all_tallied b c xs h (r ∷ rs) t = (omega (arith, t.0, h r.order.number), all_tallied b c xs h rs t.1)

few_sides : (s : Side) (ls : List Level) (b : Book) (most : ℕ) → length ls ≡ length (side s b) → length b.buys + length b.sells ≤ most → (length (with_side s ls b).buys ≤ most) × (length (with_side s ls b).sells ≤ most)
few_sides Buy ls b most e h = (omega (arith, e), omega arith)
few_sides Sell ls b most e h = (omega arith, omega (arith, e))

module _ (rank : Ranking) (O : TotalOrder rank.good) (deal : Deal) (D : Lawful deal) (b : Book) (e : Order) (s : SoundBook rank b) where
  abbrev pub meeting : Traded (List Level)
  meeting = met rank deal e (arrived e b)

  -- the book after the trades
  abbrev pub after : Book
  after = with_side (other e.side) meeting.rest (arrived e b)

  pub trade_left : (trade rank deal e (arrived e b)).left ≡ meeting.left
  unfolding trade
  trade_left = refl

  pub trade_rows : (trade rank deal e (arrived e b)).rows ≡ meeting.rows
  unfolding trade
  trade_rows = refl

  pub trade_rest : (trade rank deal e (arrived e b)).rest ≡ replenish rank after
  unfolding trade
  trade_rest = refl

  pub opposite_ready : AllByRecursion (SoundLevel b.lot) (side (other e.side) b)
  opposite_ready = side_good b.lot (other e.side) b (sound_fit rank b s).sides

  pub opposite_sorted : BestFirst rank (other e.side) (prices (side (other e.side) b))
  opposite_sorted = sorted_side rank O (other e.side) b (sound_ranked rank O b s)

  pub few_rows : length meeting.rows ≤ 384
  few_rows = subst (λ xs. length xs ≤ 384) trade_rows (met_rows rank O deal D b e s).few

  -- ## The table

  split : (n : ℕ) → resting n b ≡ taken_from n meeting.rows + resting n (replenish rank after)
  split n =
      let T : AfterTrade b.lot e b (trade rank deal e (arrived e b)) = after_trading rank deal D b.lot e b (sound_fit rank b s) in
      omega (arith, (T.even n).rest, ap (resting n) trade_rest, ap (sum_of (as_resting n)) trade_rows)

  pub rows_named : AllByRecursion (Named (numbers b.orders)) meeting.rows
  rows_named = names_named b e (numbers b.orders) (sound_fit rank b s).covered meeting.rows (subst (AllByRecursion (Names b (Enter e))) trade_rows (met_rows rank O deal D b e s).names)

  pub rows_enough : (rs : List Resting) → Tallied rs b → AllByRecursion (λ r. taken_from r.order.number meeting.rows ≤ r.quantity) rs
  rows_enough rs t = All-weaker (λ r. r.quantity ≡ resting r.order.number b) (λ r. taken_from r.order.number meeting.rows ≤ r.quantity) (λ r h. omega (arith, h, split r.order.number)) rs t

  pub still_tallied : (rs now : List Resting) (x : Book) → now ≡ deducted meeting.rows rs → x ≡ replenish rank after → Tallied rs b → Tallied now x
  still_tallied rs now x here is t = subst (λ (ys : List Resting). Tallied ys x) (sym here) (subst (λ (y : Book). Tallied (deducted meeting.rows rs) y) (sym is) (all_tallied b (replenish rank after) meeting.rows split rs t))

  -- ## The book after the trades

  after_rest : (n : ℕ) → resting n after ≤ resting n b
  unfolding replenish
  after_rest n = omega (arith, split n, all_renewed_rest rank n after b.orders)

  pub after_underway : Underway rank b.lot b.orders 128 after
  after_underway =
      let m : Midway rank O b.lot s.lot b.orders after = midway_met rank O deal D b e s s.lot in
      let same : length meeting.rest ≡ length (side (other e.side) b) =
      omega (
        arith,
        ap length (trade_side_prices deal b.lot e.number b.steps (in_reach rank (arrived e b) e) e.quantity (side (other e.side) b)),
        length-map meeting.rest (λ l. l.price),
        length-map (side (other e.side) b) (λ l. l.price),
      ) in
      let few = few_sides (other e.side) meeting.rest (arrived e b) 128 same (sound_small rank O b s).levels in
      record {
        is = refl;
        orders = refl;
        positive = s.lot;
        table = s.table;
        sound_buys = m.sides.buys;
        sound_sells = m.sides.sells;
        sorted_buys = m.ranked.buys;
        sorted_sells = m.ranked.sells;
        orderly_buys = m.both.0;
        orderly_sells = m.both.1;
        few_buys = few.0;
        few_sells = few.1;
        once = rising_distinct b.last (numbers b.orders) s.rising;
        few = s.few;
        admitted = s.admitted;
        resting = All-weaker (λ o. (0 < resting o.number b) × (resting o.number b ≤ o.quantity)) (λ o. resting o.number after ≤ o.quantity) (λ o h. omega (arith, h.1, after_rest o.number)) b.orders s.resting;
      }

  -- and after its reserve is replenished, which is where the order is placed
  pub trade_underway : Underway rank b.lot b.orders 256 (trade rank deal e (arrived e b)).rest
  unfolding replenish
  trade_underway =
      let x : Book = replenish rank after in
      subst (Underway rank b.lot b.orders 256) (sym trade_rest) (underway_within rank O b.lot b.orders x (128 + length b.orders) 256 (omega (arith, s.few)) (all_underway rank O b.lot b.orders after b.orders 128 (all_has_itself b.orders) after_underway))

  -- ## Nothing traded

  prices_after : (t : Side) → prices (side t after) ≡ prices (side t b)
  prices_after t = go (other e.side) (trade_side_prices deal b.lot e.number b.steps (in_reach rank (arrived e b) e) e.quantity (side (other e.side) b)) t
    where
      go : (u : Side) → prices meeting.rest ≡ prices (side u b) → (t : Side) → prices (side t (with_side u meeting.rest (arrived e b))) ≡ prices (side t b)
      go Buy h Buy = h
      go Buy h Sell = refl
      go Sell h Buy = refl
      go Sell h Sell = h

  low_after : (n : ℕ) (t : Side) → meeting.rows ≡ [] → AllByRecursion (λ l. runs_low b.lot n l ≡ false) b.buys × AllByRecursion (λ l. runs_low b.lot n l ≡ false) b.sells → AllByRecursion (λ l. runs_low b.lot n l ≡ false) (side t after)
  low_after n t none low = go (other e.side) (quiet_low deal b.lot e.number b.lot n b.steps (in_reach rank (arrived e b) e) e.quantity (side (other e.side) b) opposite_ready none (pick_low (other e.side))) t
    where
      pick_low : (u : Side) → AllByRecursion (λ l. runs_low b.lot n l ≡ false) (side u b)
      pick_low Buy = low.0
      pick_low Sell = low.1

      go : (u : Side) → AllByRecursion (λ l. runs_low b.lot n l ≡ false) meeting.rest → (t : Side) → AllByRecursion (λ l. runs_low b.lot n l ≡ false) (side t (with_side u meeting.rest (arrived e b)))
      go Buy h Buy = h
      go Buy h Sell = low.1
      go Sell h Buy = low.0
      go Sell h Sell = h

  pub nothing_renewed : meeting.rows ≡ [] → after ≡ replenish rank after
  unfolding replenish
  nothing_renewed none =
      let once = rising_distinct b.last (numbers b.orders) s.rising in
      sym (all_unchanged rank after b.orders
      (All-weaker
      (λ o. Unique b.orders o × (((0 < resting o.number b) × (resting o.number b ≤ o.quantity)) × (is_reserve o.kind ≡ true → AllByRecursion (λ l. runs_low b.lot o.number l ≡ false) b.buys × AllByRecursion (λ l. runs_low b.lot o.number l ≡ false) b.sells)))
      (λ o. replenish_order rank after o ≡ after)
      (λ o h. unchanged rank after o (sorted_side rank O o.side after (midway_met rank O deal D b e s s.lot).ranked)
      (ap (has o.price) (prices_after o.side) ∙ price_here b.orders b o h.0 s.buys.orderly s.sells.orderly h.1.0.0)
      (λ r. low_after o.number o.side none (h.1.1 r)))
      b.orders
      (all_both (Unique b.orders) _ b.orders (unique_each b.orders once) (all_both _ _ b.orders s.resting s.replenished))))
