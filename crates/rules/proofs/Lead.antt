-- The lead law. Assumes nothing.
use Rattle.std.proofs.Common.{◌≡◌, ℕ, ◌+◌, ◌-◌, ◌<◌, ◌≤◌, Bool, cond, ◌⊎◌, List, [], ◌∷◌, Some, None, filter, Option, refl, ap, ◌∙◌, subst, inl, inr, arith}
use Rattle.std.specs.List.{AllByRecursion}
use Rattle.std.proofs.lemmas.Bool.{cases_eq}
use Rattle.allocation.specs.Rankings.{TotalOrder}
use Rattle.allocation.specs.Dealings.{parity}
use Rattle.rules.specs.declared.orders.Side.{Side}
use Rattle.rules.specs.declared.orders.Side.TheVariants.{Buy, Sell}
use Rattle.rules.specs.declared.orders.Category.{Category}
use Rattle.rules.specs.declared.phases.Phase.{Phase}
use Rattle.rules.specs.declared.phases.Step.{Step}
use Rattle.rules.specs.declared.calls.Call.{Call}
use Rattle.rules.specs.declared.calls.Call.TheVariants.{Open, Halt, Resume, Close, Quote, Enter, Cancel, Reduce}
use Rattle.rules.specs.declared.answers.Refusal.{Refusal}
use Rattle.rules.specs.Codes.{answer_number}
use Rattle.rules.specs.Lists.{sum_of}
use Rattle.rules.specs.Books.{side, Book, Ranking, good, Level, with_sides, with_phase, nothing_at}
use Rattle.rules.specs.Quantities.{resting, of_side}
use Rattle.rules.specs.Marks.{unmarked}
use Rattle.rules.specs.TakingOff.{take_off_side, take_off, take_off_level}
use Rattle.rules.specs.Refusals.{first, refusals, next_phase, phase_after}
use Rattle.rules.specs.Entering.{Outcome}
use Rattle.rules.specs.Rules.{tidy, holds, effect, rule, ruled, new_with}
use Rattle.rules.specs.Runs.{run, Ask, Event, final}
use Rattle.rules.specs.Tables.{GoodTable}
use Rattle.rules.specs.LeadLaw.{level_at, older, queue_in, faces, gained, trades_on, deals_on, Spot, Keeps, dealt_to, queue_at, NobodyLeadsByMoreThanALot}
use Rattle.rules.specs.Invariants.{SoundLevel}
use Rattle.rules.proofs.Fits.{side_good}
use Rattle.rules.proofs.Rulings.{effect_number, rule_did}
use Rattle.allocation.proofs.Slack.{slack_of, slack_le}
use Rattle.rules.proofs.Ranked.{effect_ranked}
use Rattle.rules.proofs.Leads.{lose_slack}
use Rattle.rules.proofs.Spots.{good_at, take_off_at, unmarked_wheel, kept_at}
use Rattle.rules.proofs.Carry.{has_int, slack_in}
use Rattle.rules.proofs.Kept.{rule_sound, new_sound}
use Rattle.rules.proofs.LeadEnter.{Kept, fit, ranked, once_at, older_less, enter_lead}
use Rattle.allocation.specs.Turning.{parity_lawful}

tidy_side : (s : Side) (b : Book) → side s (tidy b) ≡ filter holds (side s b)
unfolding tidy
tidy_side Buy b = refl
tidy_side Sell b = refl

module _ (rank : Ranking) (O : TotalOrder rank.good) (lot : ℕ) where
  -- ## Every call

  take_off_stays : (p r : ℕ) (c : Call) (cat : Category) (n m v : ℕ) (ls : List Level) → SoundLevel lot (level_at v ls)
      → 0 < older c p (queue_in cat (level_at v (take_off_side n m ls))).parts → slack_in p r lot cat (level_at v ls) ≤ slack_in p r lot cat (level_at v (take_off_side n m ls))
  unfolding take_off_level
  take_off_stays p r c cat n m v ls g =
      take_off_at (λ x. 0 < older c p (queue_in cat x).parts → slack_in p r lot cat (level_at v ls) ≤ slack_in p r lot cat x) n m v ls (λ k. one cat k)
    where
      l : Level
      l = level_at v ls

      one : (cat : Category) (k : ℕ) → 0 < older c p (queue_in cat (take_off_level n k l)).parts → slack_in p r lot cat l ≤ slack_in p r lot cat (take_off_level n k l)
      one Category.Displayed k h = lose_slack p r lot _ l.shown g.0 (let a = older_less c p (take_off_level n k l).shown.parts in omega arith)
      one Category.Hidden k h = lose_slack p r lot _ l.hidden g.1 (let a = older_less c p (take_off_level n k l).hidden.parts in omega arith)

  -- the level of a wheel before an accepted call and after it, before tidying
  effect_lead : (p r : ℕ) → (p ≡ r → ⊥) → (cat : Category) (s : Side) (v : ℕ) (b : Book) (c : Call) → Kept rank O lot b
      → (let d : Outcome = effect rank parity b c in let t : Bool = faces s c in
      cond t (sum_of (gained (trades_on cat) v b.orders p) d.rows) 0 < has_int cat p (level_at v (side s b))
      → 0 < older c p (queue_in cat (level_at v (side s d.book))).parts
      → cond t (sum_of (gained (deals_on cat) v b.orders r) d.rows) 0 + slack_in p r lot cat (level_at v (side s b))
      ≤ cond t (sum_of (gained (deals_on cat) v b.orders p) d.rows) 0 + slack_in p r lot cat (level_at v (side s d.book)))
  unfolding effect take_off
  effect_lead p r ne cat s v b Open k some after = omega arith
  effect_lead p r ne cat s v b Halt k some after = go s
    where
      go : (s : Side) → 0 + slack_in p r lot cat (level_at v (side s b)) ≤ 0 + slack_in p r lot cat (level_at v (side s (with_sides (unmarked b.buys) (unmarked b.sells) b)))
      go Buy = rw (unmarked_wheel cat v b.buys) (omega arith)
      go Sell = rw (unmarked_wheel cat v b.sells) (omega arith)
  effect_lead p r ne cat s v b Resume k some after = omega arith
  effect_lead p r ne cat s v b Close k some after = absurd (gone s cat after)
    where
      gone : (s : Side) (cat : Category) → 0 < older Close p (queue_in cat (level_at v (side s (with_sides [] [] b)))).parts → ⊥
      gone Buy Category.Displayed h = omega arith
      gone Buy Category.Hidden h = omega arith
      gone Sell Category.Displayed h = omega arith
      gone Sell Category.Hidden h = omega arith
  effect_lead p r ne cat Buy v b (Quote x y) k some after = omega arith
  effect_lead p r ne cat Sell v b (Quote x y) k some after = omega arith
  effect_lead p r ne cat s v b (Enter e) k some after = enter_lead rank O lot p r ne cat s v e b k some after
  effect_lead p r ne cat s v b (Cancel n) k some after = go s after
    where
      g : (s : Side) → SoundLevel lot (level_at v (side s b))
      g s = good_at lot v (side s b) (fit rank O lot b k).pos (side_good lot s b (fit rank O lot b k).sides)

      go : (s : Side) → 0 < older (Cancel n) p (queue_in cat (level_at v (side s (take_off n (resting n b) b)))).parts → 0 + slack_in p r lot cat (level_at v (side s b)) ≤ 0 + slack_in p r lot cat (level_at v (side s (take_off n (resting n b) b)))
      go Buy h = omega (arith, take_off_stays p r (Cancel n) cat n (resting n b) v b.buys (g Buy) h)
      go Sell h = omega (arith, take_off_stays p r (Cancel n) cat n (resting n b - of_side n b.buys) v b.sells (g Sell) h)
  effect_lead p r ne cat s v b (Reduce n m) k some after = go s after
    where
      g : (s : Side) → SoundLevel lot (level_at v (side s b))
      g s = good_at lot v (side s b) (fit rank O lot b k).pos (side_good lot s b (fit rank O lot b k).sides)

      go : (s : Side) → 0 < older (Reduce n m) p (queue_in cat (level_at v (side s (take_off n m b)))).parts → 0 + slack_in p r lot cat (level_at v (side s b)) ≤ 0 + slack_in p r lot cat (level_at v (side s (take_off n m b)))
      go Buy h = omega (arith, take_off_stays p r (Reduce n m) cat n m v b.buys (g Buy) h)
      go Sell h = omega (arith, take_off_stays p r (Reduce n m) cat n (m - of_side n b.buys) v b.sells (g Sell) h)

  -- ## The rule, and runs

  rule_kept : (b : Book) (room : ℕ) (c : Call) → Kept rank O lot b → Kept rank O lot (rule rank parity b room c).book
  rule_kept b room c k = record { is = (rule_did rank parity parity_lawful lot b room c (fit rank O lot b k)).did.fit.sides.is; sound = rule_sound rank O parity parity_lawful b room c k.sound }

  phase_side : (s : Side) (p : Phase) (b : Book) → side s (with_phase p b) ≡ side s b
  phase_side Buy p b = refl
  phase_side Sell p b = refl

  none_older : (c : Call) (p : ℕ) (cat : Category) (v : ℕ) → 0 < older c p (queue_in cat (nothing_at v)).parts → ⊥
  none_older c p Category.Displayed v h = omega arith
  none_older c p Category.Hidden v h = omega arith

  rule_lead : (p r : ℕ) → (p ≡ r → ⊥) → (cat : Category) (s : Side) (v : ℕ) (b : Book) (room : ℕ) (c : Call) → Kept rank O lot b
      → (let d : Outcome = rule rank parity b room c in let t : Bool = faces s c in
      cond t (sum_of (gained (trades_on cat) v b.orders p) d.rows) 0 < has_int cat p (level_at v (side s b))
      → (answer_number d.answer ≡ 0 → 0 < older c p (queue_in cat (level_at v (side s d.book))).parts)
      → cond t (sum_of (gained (deals_on cat) v b.orders r) d.rows) 0 + slack_in p r lot cat (level_at v (side s b))
      ≤ cond t (sum_of (gained (deals_on cat) v b.orders p) d.rows) 0 + slack_in p r lot cat (level_at v (side s d.book)))
  unfolding rule
  rule_lead p r ne cat s v b room c k = go (first (refusals b room c))
    where
      go : (o : Option Refusal)
          → (let d : Outcome = ruled o rank parity b c in let t : Bool = faces s c in
          cond t (sum_of (gained (trades_on cat) v b.orders p) d.rows) 0 < has_int cat p (level_at v (side s b))
          → (answer_number d.answer ≡ 0 → 0 < older c p (queue_in cat (level_at v (side s d.book))).parts)
          → cond t (sum_of (gained (deals_on cat) v b.orders r) d.rows) 0 + slack_in p r lot cat (level_at v (side s b))
          ≤ cond t (sum_of (gained (deals_on cat) v b.orders p) d.rows) 0 + slack_in p r lot cat (level_at v (side s d.book)))
      go None some after =
          let ph : Phase = next_phase b.phase (phase_after b.phase c) in
          let d : Outcome = effect rank parity b c in
          let x : Book = d.book in
          let at : side s (tidy (with_phase ph x)) ≡ filter holds (side s x) = tidy_side s (with_phase ph x) ∙ ap (filter holds) (phase_side s ph x) in
          let P : Level → Type 0 = λ m. 0 < older c p (queue_in cat m).parts in
          let h : P (level_at v (filter holds (side s x))) = subst (λ ls. P (level_at v ls)) at (after (effect_number rank parity parity_lawful lot b c)) in
          let same : level_at v (filter holds (side s x)) ≡ level_at v (side s x) = kept_at P holds v (side s x) (once_at rank O lot s x (effect_ranked rank O parity b c (ranked rank O lot b k))) (none_older c p cat v) h in
          let to : level_at v (side s (tidy (with_phase ph x))) ≡ level_at v (side s x) = ap (level_at v) at ∙ same in
          let main = effect_lead p r ne cat s v b c k some (subst P same h) in
          rw to main
      go (Some _) some after = omega arith

  run_lead : (p r : ℕ) → (p ≡ r → ⊥) → (w : Spot) (b : Book) (asks : List Ask) → Kept rank O lot b → AllByRecursion (Keeps w p) (run rank parity b asks)
      → (let past : List Event = run rank parity b asks in
      sum_of (dealt_to w r) past + slack_of p r lot (queue_at w b).wheel ≤ sum_of (dealt_to w p) past + slack_of p r lot (queue_at w (final b past)).wheel)
  run_lead p r ne w b [] k h = omega arith
  run_lead p r ne w b (a ∷ asks) k h =
      let d : Outcome = rule rank parity b a.0 a.1 in
      let here = rule_lead p r ne w.category w.side w.price b a.0 a.1 k h.0.traded h.0.after in
      let rest = run_lead p r ne w d.book asks (rule_kept b a.0 a.1 k) h.1 in
      omega arith

  run_kept : (b : Book) (asks : List Ask) → Kept rank O lot b → Kept rank O lot (final b (run rank parity b asks))
  run_kept b [] k = k
  run_kept b (a ∷ asks) k = run_kept (rule rank parity b a.0 a.1).book asks (rule_kept b a.0 a.1 k)

  fresh_kept : 0 < lot → (table : List Step) → GoodTable table → Kept rank O lot (new_with lot table)
  fresh_kept pos table good = record { is = refl; sound = new_sound rank O parity parity_lawful lot pos table good }

  small_slack : (p r : ℕ) (w : Spot) (b : Book) → Kept rank O lot b → slack_of p r lot (queue_at w b).wheel ≤ lot
  small_slack p r w b k = go w.category
    where
      g : SoundLevel lot (level_at w.price (side w.side b))
      g = good_at lot w.price (side w.side b) (fit rank O lot b k).pos (side_good lot w.side b (fit rank O lot b k).sides)

      go : (cat : Category) → slack_of p r lot (queue_in cat (level_at w.price (side w.side b))).wheel ≤ lot
      go Category.Displayed = slack_le p r lot _ _ (let a = g.0.seated.below in omega arith)
      go Category.Hidden = slack_le p r lot _ _ (let a = g.1.seated.below in omega arith)

pub nobody_leads : (rank : Ranking) → TotalOrder rank.good → NobodyLeadsByMoreThanALot rank parity
nobody_leads rank O lot pos table good earlier later w p q h = go (cases_eq p q)
  where
    b : Book
    b = final (new_with lot table) (run rank parity (new_with lot table) earlier)

    past : List Event
    past = run rank parity b later

    k : Kept rank O lot b
    k = run_kept rank O lot (new_with lot table) earlier (fresh_kept rank O lot pos table good)

    go : (p ≡ q) ⊎ (p ≡ q → ⊥) → sum_of (dealt_to w q) past ≤ sum_of (dealt_to w p) past + lot
    go (inl e) = let z : sum_of (dealt_to w p) past ≡ sum_of (dealt_to w q) past = ap (λ n. sum_of (dealt_to w n) past) e in omega arith
    go (inr ne) = omega (arith, run_lead rank O lot p q ne w b later k h, small_slack rank O lot p q w (final b past) (run_kept rank O lot b later k))
