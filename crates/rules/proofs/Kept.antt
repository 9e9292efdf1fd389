-- Every call keeps a sound book sound. Assumes nothing.
use Rattle.std.proofs.Common.{◌≡◌, ℕ, ◌-◌, ◌<◌, ◌≤◌, Bool, true, false, eqb, List, [], ◌∷◌, map, Some, None, Option, sym, refl, ap, subst, arith}
use Rattle.std.specs.List.{AllByRecursion}
use Rattle.std.proofs.lemmas.Bool.{eqb-false}
use Rattle.std.proofs.ByRecursion.{All-weaker}
use Rattle.allocation.specs.Rankings.{TotalOrder}
use Rattle.allocation.specs.Dealings.{Deal, Lawful}
use Rattle.rules.specs.declared.orders.Side.{Side}
use Rattle.rules.specs.declared.orders.Side.TheVariants.{Buy, Sell}
use Rattle.rules.specs.declared.orders.Order.{Order}
use Rattle.rules.specs.declared.phases.Step.{Step}
use Rattle.rules.specs.declared.calls.Call.{Call}
use Rattle.rules.specs.declared.calls.Call.TheVariants.{Open, Halt, Resume, Close, Quote, Enter, Cancel, Reduce}
use Rattle.rules.specs.declared.answers.Refusal.{Refusal}
use Rattle.rules.specs.Books.{Ranking, good, Book, part, side, Level, level, queue, with_sides, with_quote}
use Rattle.rules.specs.Quantities.{resting, of_side}
use Rattle.rules.specs.Marks.{unmarked}
use Rattle.rules.specs.TakingOff.{take_off}
use Rattle.rules.specs.Trading.{Traded}
use Rattle.rules.specs.Reserve.{runs_low, is_reserve}
use Rattle.rules.specs.Refusals.{first, refusals, next_phase, phase_after}
use Rattle.rules.specs.Entering.{finished, trade, arrived, not_placed, enter}
use Rattle.rules.specs.Rules.{effect, rule, ruled, new_with}
use Rattle.rules.specs.Runs.{run, Ask, final}
use Rattle.rules.specs.Tables.{GoodTable}
use Rattle.rules.specs.Invariants.{SoundBook, Orderly, StaysSound}
use Rattle.rules.proofs.Fits.{Fit}
use Rattle.rules.proofs.Rulings.{allowed, effect_did}
use Rattle.rules.proofs.Effects.{unmarked_of, take_off_rest}
use Rattle.rules.proofs.Ranked.{Ranked, effect_ranked}
use Rattle.rules.proofs.Orderly.{orderly_unmarked}
use Rattle.rules.proofs.Walks.{each_taken, each_mapped, orderly_taken, Held, held_taken, held_unmarked}
use Rattle.rules.proofs.Lows.{taken_not_low, unmarked_low}
use Rattle.rules.proofs.Tending.{Both}
use Rattle.rules.proofs.Rested.{Rested}
use Rattle.rules.proofs.Uncrossed.{Apart, apart_changed, uncrossed_apart}
use Rattle.rules.proofs.Numbering.{sound_fit, sound_ranked}
use Rattle.rules.proofs.Upkeep.{Upkept, upkept_less, tidy_sound}
use Rattle.rules.proofs.Remainder.{EntryAllowed, entry_allowed, trading, not_resting, resting_one}

module _ (rank : Ranking) (O : TotalOrder rank.good) (deal : Deal) (D : Lawful deal) where
  module _ (b : Book) (s : SoundBook rank b) where
    apart_before : Apart rank b.buys b.sells
    apart_before = uncrossed_apart rank b.buys b.sells s.uncrossed

    both_before : Both b.orders b
    both_before = (s.buys.orderly, s.sells.orderly)

    -- what a change of each level does to a book
    changed : (x : Book) → Fit b.lot x → Ranked rank O x → x.orders ≡ b.orders → b.last ≤ x.last → x.steps ≡ b.steps → ((n : ℕ) → resting n x ≤ resting n b)
        → ((t : Side) → AllByRecursion (Orderly b.orders t) (side t b) → AllByRecursion (Orderly b.orders t) (side t x)) → ((t : Side) (P : ℕ → Type 0) → AllByRecursion (Held P) (side t b) → AllByRecursion (Held P) (side t x))
        → ((t : Side) (n : ℕ) → AllByRecursion (λ l. runs_low b.lot n l ≡ false) (side t b) → AllByRecursion (λ l. runs_low b.lot n l ≡ false) (side t x)) → Upkept rank O b.lot x
    changed x f k o l t le orderly held low =
        upkept_less rank O b.lot b x refl s f k o l t le (orderly Buy s.buys.orderly, orderly Sell s.sells.orderly)
        (apart_changed rank b.buys x.buys b.sells x.sells (held Buy) (held Sell) apart_before)
        (All-weaker (λ e. is_reserve e.kind ≡ true → Rested b.lot e.number b) (λ e. is_reserve e.kind ≡ true → Rested b.lot e.number x)
        (λ e h v. (low Buy e.number (h v).0, low Sell e.number (h v).1)) b.orders s.replenished)

    unmark : Level → Level
    unmark l = level l.price (queue (map (λ p. part p.order p.participant p.quantity false) l.shown.parts) l.shown.wheel) l.hidden

    halted : Fit b.lot (with_sides (unmarked b.buys) (unmarked b.sells) b) → Ranked rank O (with_sides (unmarked b.buys) (unmarked b.sells) b) → Upkept rank O b.lot (with_sides (unmarked b.buys) (unmarked b.sells) b)
    unfolding unmark
    halted f k = changed (with_sides (unmarked b.buys) (unmarked b.sells) b) f k refl (omega arith) refl (λ n. omega (arith, unmarked_of n b.buys, unmarked_of n b.sells)) orderly held low
      where
        orderly : (t : Side) → AllByRecursion (Orderly b.orders t) (side t b) → AllByRecursion (Orderly b.orders t) (side t (with_sides (unmarked b.buys) (unmarked b.sells) b))
        orderly Buy h = each_mapped (Orderly b.orders Buy) unmark (λ l o. (orderly_unmarked b.orders Buy l.price 1 2 l.shown.parts o.0, o.1)) b.buys h
        orderly Sell h = each_mapped (Orderly b.orders Sell) unmark (λ l o. (orderly_unmarked b.orders Sell l.price 1 2 l.shown.parts o.0, o.1)) b.sells h

        held : (t : Side) (P : ℕ → Type 0) → AllByRecursion (Held P) (side t b) → AllByRecursion (Held P) (side t (with_sides (unmarked b.buys) (unmarked b.sells) b))
        held Buy P h = each_mapped (Held P) unmark (held_unmarked P) b.buys h
        held Sell P h = each_mapped (Held P) unmark (held_unmarked P) b.sells h

        low : (t : Side) (n : ℕ) → AllByRecursion (λ l. runs_low b.lot n l ≡ false) (side t b) → AllByRecursion (λ l. runs_low b.lot n l ≡ false) (side t (with_sides (unmarked b.buys) (unmarked b.sells) b))
        low Buy n h = each_mapped (λ l. runs_low b.lot n l ≡ false) unmark (λ l i. unmarked_low b.lot n l i) b.buys h
        low Sell n h = each_mapped (λ l. runs_low b.lot n l ≡ false) unmark (λ l i. unmarked_low b.lot n l i) b.sells h

    taken_off : (n m : ℕ) → Fit b.lot (take_off n m b) → Ranked rank O (take_off n m b) → Upkept rank O b.lot (take_off n m b)
    unfolding take_off
    taken_off n m f k = changed (take_off n m b) f k refl (omega arith) refl (λ j. omega (arith, take_off_rest j n m b)) orderly held low
      where
        orderly : (t : Side) → AllByRecursion (Orderly b.orders t) (side t b) → AllByRecursion (Orderly b.orders t) (side t (take_off n m b))
        orderly Buy h = each_taken (Orderly b.orders Buy) (orderly_taken b.orders Buy) n m b.buys h
        orderly Sell h = each_taken (Orderly b.orders Sell) (orderly_taken b.orders Sell) n (m - of_side n b.buys) b.sells h

        held : (t : Side) (P : ℕ → Type 0) → AllByRecursion (Held P) (side t b) → AllByRecursion (Held P) (side t (take_off n m b))
        held Buy P h = each_taken (Held P) (held_taken P) n m b.buys h
        held Sell P h = each_taken (Held P) (held_taken P) n (m - of_side n b.buys) b.sells h

        low : (t : Side) (j : ℕ) → AllByRecursion (λ l. runs_low b.lot j l ≡ false) (side t b) → AllByRecursion (λ l. runs_low b.lot j l ≡ false) (side t (take_off n m b))
        low Buy j h = each_taken (λ l. runs_low b.lot j l ≡ false) (λ n m l i. taken_not_low b.lot j n m l i) n m b.buys h
        low Sell j h = each_taken (λ l. runs_low b.lot j l ≡ false) (λ n m l i. taken_not_low b.lot j n m l i) n (m - of_side n b.buys) b.sells h

    -- nothing that rests changes
    as_it_was : (x : Book) → Fit b.lot x → Ranked rank O x → x.orders ≡ b.orders → b.last ≤ x.last → x.steps ≡ b.steps → x.buys ≡ b.buys → x.sells ≡ b.sells → Upkept rank O b.lot x
    as_it_was x f k o l t eb es =
        changed x f k o l t (λ n. omega (arith, ap (of_side n) eb, ap (of_side n) es)) (λ u h. same u (AllByRecursion (Orderly b.orders u)) h) (λ u P h. same u (AllByRecursion (Held P)) h) (λ u n h. same u (AllByRecursion (λ l. runs_low b.lot n l ≡ false)) h)
      where
        same : (u : Side) (Q : List Level → Type 0) → Q (side u b) → Q (side u x)
        same Buy Q h = subst Q (sym eb) h
        same Sell Q h = subst Q (sym es) h

    -- nothing rests
    closed : Fit b.lot (with_sides [] [] b) → Ranked rank O (with_sides [] [] b) → Upkept rank O b.lot (with_sides [] [] b)
    closed f k = changed (with_sides [] [] b) f k refl (omega arith) refl (λ n. omega arith) (λ u h. none_left u (Orderly b.orders u)) (λ u P h. none_left u (Held P)) (λ u n h. none_left u (λ l. runs_low b.lot n l ≡ false))
      where
        none_left : (u : Side) (Q : Level → Type 0) → AllByRecursion Q (side u (with_sides [] [] b))
        none_left Buy Q = tt
        none_left Sell Q = tt

    finished_upkept : (e : Order) → EntryAllowed b e → (let r : Traded Book = trade rank deal e (arrived e b) in
        (t u : Bool) → eqb r.left 0 ≡ t → not_placed rank b e ≡ u → (let x : Book = (finished t u rank e r.left r.rows r.rest).book in Fit b.lot x → Ranked rank O x → Upkept rank O b.lot x))
    unfolding trading
    finished_upkept e a true u z np f k = not_resting rank O deal D b e s a f k
    finished_upkept e a false true z np f k = not_resting rank O deal D b e s a f k
    finished_upkept e a false false z np f k = resting_one rank O deal D b e s a f k (let h = eqb-false (trade rank deal e (arrived e b)).left 0 z in omega (arith, h)) np

    effect_upkept : (room : ℕ) (c : Call) → first (refusals b room c) ≡ None → (let x : Book = (effect rank deal b c).book in Fit b.lot x → Ranked rank O x → Upkept rank O b.lot x)
    unfolding effect enter
    effect_upkept room Open h f k = as_it_was b f k refl (omega arith) refl refl refl
    effect_upkept room Halt h f k = halted f k
    effect_upkept room Resume h f k = as_it_was b f k refl (omega arith) refl refl refl
    effect_upkept room Close h f k = closed f k
    effect_upkept room (Quote bid offer) h f k = as_it_was (with_quote bid offer b) f k refl (omega arith) refl refl refl
    effect_upkept room (Enter e) h f k = finished_upkept e (entry_allowed b room e h) (eqb (trade rank deal e (arrived e b)).left 0) (not_placed rank b e) refl refl f k
    effect_upkept room (Cancel n) h f k = taken_off n (resting n b) f k
    effect_upkept room (Reduce n m) h f k = taken_off n m f k

  pub rule_sound : (b : Book) (room : ℕ) (c : Call) → SoundBook rank b → SoundBook rank (rule rank deal b room c).book
  unfolding rule
  rule_sound b room c s = go (first (refusals b room c)) refl
    where
      go : (o : Option Refusal) → first (refusals b room c) ≡ o → SoundBook rank (ruled o rank deal b c).book
      go None h =
          tidy_sound rank O b.lot (next_phase b.phase (phase_after b.phase c)) (effect rank deal b c).book
          (effect_upkept b s room c h (effect_did rank deal D b.lot b c (sound_fit rank b s) (allowed b room c h)).fit (effect_ranked rank O deal b c (sound_ranked rank O b s)))
      go (Some x) h = s

  pub new_sound : (lot : ℕ) → 0 < lot → (table : List Step) → GoodTable table → SoundBook rank (new_with lot table)
  new_sound lot pos table good =
      record {
        lot = pos;
        table = good;
        buys = record { sound = tt; orderly = tt; sorted = tt; occupied = tt };
        sells = record { sound = tt; orderly = tt; sorted = tt; occupied = tt };
        uncrossed = tt;
        rising = tt;
        few = omega arith;
        admitted = tt;
        resting = tt;
        replenished = tt;
      }

  pub stays_sound : StaysSound rank deal
  stays_sound = record { new = new_sound; call = rule_sound }

  pub run_sound : (b : Book) (asks : List Ask) → SoundBook rank b → SoundBook rank (final b (run rank deal b asks))
  run_sound b [] s = s
  run_sound b (a ∷ asks) s = run_sound (rule rank deal b a.0 a.1).book asks (rule_sound b a.0 a.1 s)
