-- Answers and rows agree, and rows name orders that rested or arrive. Assumes nothing.
use Rattle.std.proofs.Common.{◌≡◌, ℕ, ◌+◌, ◌-◌, ◌<◌, ◌≤◌, Bool, true, false, not, eqb, leb, List, [], ◌∷◌, length, Some, None, Option, sym, refl, ap, ◌∙◌, subst, inl, inr, arith}
use Rattle.std.specs.List.{AllByRecursion}
use Rattle.std.proofs.lemmas.List.{length_push, length-map}
use Rattle.std.proofs.lemmas.Bool.{eqb-false, eq-eqb, and_parts, leb-true}
use Rattle.std.proofs.ByRecursion.{All-weaker, All-push}
use Rattle.allocation.specs.Rankings.{TotalOrder}
use Rattle.allocation.specs.Dealings.{Deal, Lawful}
use Rattle.rules.specs.declared.orders.Side.{Side}
use Rattle.rules.specs.declared.orders.Order.{Order}
use Rattle.rules.specs.declared.calls.Call.{Call}
use Rattle.rules.specs.declared.calls.Call.TheVariants.{Enter, Close, Open, Halt, Resume, Quote, Cancel, Reduce}
use Rattle.rules.specs.declared.answers.Refusal.{Refusal}
use Rattle.rules.specs.declared.answers.Row.{Row}
use Rattle.rules.specs.declared.answers.Row.TheVariants.{Trade, GivenBack}
use Rattle.rules.specs.Lists.{sum_of}
use Rattle.rules.specs.Books.{Book, Ranking, other, side, with_sides, with_quote}
use Rattle.rules.specs.Quantities.{resting}
use Rattle.rules.specs.Marks.{unmarked}
use Rattle.rules.specs.TakingOff.{take_off}
use Rattle.rules.specs.Trading.{Traded, in_reach}
use Rattle.rules.specs.Refusals.{first, refusals, bad_quantity, within}
use Rattle.rules.specs.Entering.{with_order, place, trade, arrived, finished, done, enter, not_placed}
use Rattle.rules.specs.Rules.{row_traded, row_given_back, all_back, effect, rule, ruled}
use Rattle.rules.specs.OrderLaw.{forget}
use Rattle.rules.specs.Invariants.{SoundBook, numbers}
use Rattle.rules.specs.Reports.{Names, WellReported, most_rows, ReportsWell}
use Rattle.rules.specs.Codes.{accepted, answer_number}
use Rattle.rules.proofs.Members.{sum_of_append}
use Rattle.rules.proofs.Trades.{as_resting, as_arriving, Arrives}
use Rattle.rules.proofs.Fits.{Fit, AfterTrade, after_trading, side_good}
use Rattle.rules.proofs.Rulings.{none_applies, effect_number}
use Rattle.rules.proofs.Ranked.{Ranked, sorted_side}
use Rattle.rules.proofs.Ordering.{Core, core}
use Rattle.rules.proofs.Numbering.{sound_fit, sound_ranked, rising_distinct}
use Rattle.rules.proofs.Counting.{few_parts, reach_few, rows_few, rows_some}
use Rattle.rules.proofs.Tending.{orderly_side}

-- ## Rows of trades

-- each row is at most the sum
all_below_each : {X : Type 0} (f : ℕ → X → ℕ) (xs : List X) → AllByRecursion (λ x. (n : ℕ) → f n x ≤ sum_of (f n) xs) xs
all_below_each f [] = tt
all_below_each f (x ∷ xs) = ((λ n. omega arith), All-weaker (λ y. (n : ℕ) → f n y ≤ sum_of (f n) xs) (λ y. (n : ℕ) → f n y ≤ f n x + sum_of (f n) xs) (λ y h n. omega (arith, h n)) xs (all_below_each f xs))

trades_sum : (a : ℕ) (rs : List Row) → AllByRecursion (Arrives a) rs → sum_of row_traded rs ≡ sum_of (as_arriving a) rs
trades_sum a [] h = refl
trades_sum a (Trade s r b v q ∷ rs) h = rw (eq-eqb b a h.0) (omega (arith, trades_sum a rs h.1))
trades_sum a (GivenBack n q ∷ rs) h = absurd h.0

trades_give_nothing : (a : ℕ) (rs : List Row) → AllByRecursion (Arrives a) rs → sum_of row_given_back rs ≡ 0
trades_give_nothing a [] h = refl
trades_give_nothing a (Trade s r b v q ∷ rs) h = omega (arith, trades_give_nothing a rs h.1)
trades_give_nothing a (GivenBack n q ∷ rs) h = absurd h.0

trade_names : (b : Book) (e : Order) (rs : List Row) → AllByRecursion (Arrives e.number) rs → AllByRecursion (λ r. 0 < row_traded r) rs → AllByRecursion (λ r. (n : ℕ) → as_resting n r ≤ resting n b) rs → AllByRecursion (Names b (Enter e)) rs
trade_names b e [] h p k = tt
trade_names b e (Trade s r a v q ∷ rs) h p k = (
  (p.0, (let z = rw (eq-eqb r r refl) at (k.0 r) in omega (arith, p.0)), eq-eqb e.number a (sym h.0)),
  trade_names b e rs h.1 p.1 k.1,
)
trade_names b e (GivenBack n q ∷ rs) h p k = absurd h.0

-- ## Rows of a close

back_sum : (b : Book) (es : List Order) → sum_of row_traded (all_back b es) ≡ 0
back_sum b [] = refl
back_sum b (e ∷ es) = omega (arith, back_sum b es)

back_names : (b : Book) (es : List Order) → AllByRecursion (λ e. 0 < resting e.number b) es → AllByRecursion (Names b Close) (all_back b es)
back_names b [] h = tt
back_names b (e ∷ es) h = ((h.0, inl h.0), back_names b es h.1)

back_length : (b : Book) (es : List Order) → length (all_back b es) ≡ length es
back_length b [] = refl
back_length b (e ∷ es) = omega (arith, back_length b es)

-- ## Every call

module _ (rank : Ranking) (O : TotalOrder rank.good) (deal : Deal) (D : Lawful deal) where
  pub record MetRows (b : Book) (e : Order) (r : Traded Book) : Type 0 where
    pub traded : sum_of row_traded r.rows + r.left ≡ e.quantity
    pub given : sum_of row_given_back r.rows ≡ 0
    pub names : AllByRecursion (Names b (Enter e)) r.rows
    pub few : length r.rows ≤ 384

  pub met_rows : (b : Book) (e : Order) → SoundBook rank b → MetRows b e (trade rank deal e (arrived e b))
  unfolding trade
  met_rows b e s =
      let f : Fit b.lot b = sound_fit rank b s in
      let k : Ranked rank O b = sound_ranked rank O b s in
      let r : Traded Book = trade rank deal e (arrived e b) in
      let T : AfterTrade b.lot e b r = after_trading rank deal D b.lot e b f in
      let ar : AllByRecursion (Arrives e.number) r.rows = (T.even e.number).arrives in
      let t : Side = other e.side in
      let reach : ℕ → Bool = in_reach rank (arrived e b) e in
      let c : Core rank O deal D t b.lot e.number e.quantity reach (side t b) b.steps = core rank O deal D t b.lot e.number e.quantity reach (side t b) b.steps k.steps (side_good b.lot t b f.sides) (sorted_side rank O t b k) in
      let came = rw (eq-eqb e.number e.number refl) at (T.even e.number).came in
      record {
        traded = omega (arith, trades_sum e.number r.rows ar, came);
        given = trades_give_nothing e.number r.rows ar;
        names = trade_names b e r.rows ar (subst (λ rs. AllByRecursion (λ r. 0 < row_traded r) rs) (sym c.rows') (rows_some e.number c.mets'))
            (All-weaker (λ x. (n : ℕ) → as_resting n x ≤ sum_of (as_resting n) r.rows) (λ x. (n : ℕ) → as_resting n x ≤ resting n b) (λ x h n. omega (arith, h n, (T.even n).rest)) r.rows (all_below_each as_resting r.rows));
        few = omega (
          arith,
          ap length c.rows',
          rows_few e.number c.mets',
          length-map c.mets' forget,
          ap length c.whom',
          reach_few b.lot b.steps (λ l. reach l.price) (side t b) k.steps,
          few_parts rank O b.orders t (side t b) (rising_distinct b.last (numbers b.orders) s.rising) (sorted_side rank O t b k) (orderly_side b.orders t b (s.buys.orderly, s.sells.orderly)),
          s.few,
        );
      }

  accepted_zero : (X : Type 0) (t g : ℕ) → 0 < answer_number (accepted t g) → X
  accepted_zero X t g h = let no_way : ⊥ = omega arith in absurd no_way

  -- nothing is given back at the end
  met_reported : (b : Book) (e : Order) (r : Traded Book) (x : Book) → MetRows b e r → WellReported b (Enter e) (done (e.quantity - r.left) 0 r.rows x)
  met_reported b e r x m =
      record {
        traded = omega (arith, m.traded);
        given_back = sym m.given;
        refused = accepted_zero _ (e.quantity - r.left) 0;
        names = m.names;
        few = omega (arith, m.few);
      }

  finished_reported : (b : Book) (e : Order) (t u : Bool) (r : Traded Book) → eqb r.left 0 ≡ t → MetRows b e r → WellReported b (Enter e) (finished t u rank e r.left r.rows r.rest)
  finished_reported b e true u r z m = met_reported b e r r.rest m
  finished_reported b e false true r z m =
      let last : Row = GivenBack e.number r.left in
      record {
        traded = omega (arith, m.traded, sum_of_append row_traded r.rows (last ∷ []));
        given_back = omega (arith, m.given, sum_of_append row_given_back r.rows (last ∷ []));
        refused = accepted_zero _ (e.quantity - r.left) r.left;
        names = All-push (Names b (Enter e)) r.rows last m.names (omega (arith, eqb-false r.left 0 z), inr (eq-eqb e.number e.number refl));
        few = omega (arith, m.few, length_push r.rows last);
      }
  finished_reported b e false false r z m = met_reported b e r (with_order e (place rank e.kind e r.left r.rest)) m

  no_rows : (b : Book) (c : Call) (x : Book) → WellReported b c (done 0 0 [] x)
  no_rows b c x = record { traded = refl; given_back = refl; refused = accepted_zero _ 0 0; names = tt; few = omega arith }

  one_row : (b : Book) (c : Call) (n m : ℕ) (x : Book) → 1 ≤ most_rows c → 0 < m → 0 < resting n b → WellReported b c (done 0 m (GivenBack n m ∷ []) x)
  one_row b c n m x room some rests-here =
      record { traded = refl; given_back = omega arith; refused = accepted_zero _ 0 m; names = ((some, inl rests-here), tt); few = omega (arith, room) }

  effect_reported : (b : Book) (room : ℕ) (c : Call) → SoundBook rank b → first (refusals b room c) ≡ None → WellReported b c (effect rank deal b c)
  unfolding effect enter refusals
  effect_reported b room Open s h = no_rows b Open b
  effect_reported b room Halt s h = no_rows b Halt (with_sides (unmarked b.buys) (unmarked b.sells) b)
  effect_reported b room Resume s h = no_rows b Resume b
  effect_reported b room Close s h =
      record {
        traded = sym (back_sum b b.orders);
        given_back = refl;
        refused = accepted_zero _ 0 (sum_of row_given_back (all_back b b.orders));
        names = back_names b b.orders (All-weaker (λ e. (0 < resting e.number b) × (resting e.number b ≤ e.quantity)) (λ e. 0 < resting e.number b) (λ e k. k.0) b.orders s.resting);
        few = omega (arith, back_length b b.orders, s.few);
      }
  effect_reported b room (Quote bid offer) s h = no_rows b (Quote bid offer) (with_quote bid offer b)
  effect_reported b room (Enter e) s h =
      let r : Traded Book = trade rank deal e (arrived e b) in
      finished_reported b e (eqb r.left 0) (not_placed rank b e) r refl (met_rows b e s)
  effect_reported b room (Cancel n) s h =
      let f = none_applies (refusals b room (Cancel n)) h in
      let some : 0 < resting n b = (let k = eqb-false (resting n b) 0 f.1.1.1.0 in omega (arith, k)) in
      one_row b (Cancel n) n (resting n b) (take_off n (resting n b) b) (omega arith) some some
  effect_reported b room (Reduce n m) s h =
      let f = none_applies (refusals b room (Reduce n m)) h in
      let some : 0 < resting n b = (let k = eqb-false (resting n b) 0 f.1.1.1.1.0 in omega (arith, k)) in
      one_row b (Reduce n m) n m (take_off n m b) (omega arith) (positive (bad_quantity m) refl f.1.0) some
    where
      positive : (t : Bool) → bad_quantity m ≡ t → t ≡ false → 0 < m
      positive t e z = leb-true 1 m (and_parts (leb 1 m) (leb m 500000) (yes (within 1 500000 m) (e ∙ z))).0
        where
          yes : (x : Bool) → not x ≡ false → x ≡ true
          yes true h = refl
          yes false h = sym h

  pub reports_well : ReportsWell rank deal
  unfolding rule
  reports_well b room c s = go (first (refusals b room c)) refl
    where
      go : (o : Option Refusal) → first (refusals b room c) ≡ o → WellReported b c (ruled o rank deal b c)
      go None h =
          let w : WellReported b c (effect rank deal b c) = effect_reported b room c s h in
          record { traded = w.traded; given_back = w.given_back; refused = λ k. absurd (never k); names = w.names; few = w.few }
        where
          never : 0 < answer_number (effect rank deal b c).answer → ⊥
          never k = omega (arith, effect_number rank deal D b.lot b c)
      go (Some x) h = record { traded = refl; given_back = refl; refused = λ _. (refl, refl); names = tt; few = omega arith }
