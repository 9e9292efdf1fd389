-- What one step does. Assumes nothing.
use Rattle.std.proofs.Common.{◌≡◌, ℕ, zero, suc, ◌+◌, ◌-◌, true, false, List, [], ◌∷◌, length, set, sym, refl, ap, ◌∙◌, arith}
use Rattle.std.proofs.lemmas.Bool.{both_ways}
use Rattle.allocation.specs.Dealings.{Deal, Dealt, Lawful, sum}
use Rattle.rules.specs.Books.{Level, queue, nothing_at}
use Rattle.rules.specs.Changes.{lowered}
use Rattle.rules.specs.Trading.{queue_of, with_queue, dealt, setter_shares, step_shares, rows_of}
use Rattle.rules.specs.declared.orders.Part.{Part}
use Rattle.rules.specs.declared.phases.Step.{Step}
use Rattle.rules.specs.declared.answers.Row.{Row}
use Rattle.trading.specs.Written.{written}
use Rattle.trading.proofs.Writing.{written_none}
use Rattle.std.proofs.lemmas.List.{set-get_or}
use Rattle.rules.specs.declared.phases.Step.TheVariants.{Setter, Displayed, Hidden}
use Rattle.rules.specs.Invariants.{SoundLevel}
use Rattle.rules.proofs.Stages.{rows_none}
use Rattle.rules.proofs.Trades.{lowered_none, fair_shares, with_good}
use Rattle.trading.specs.Steps.{step_rest, step_rows, opens, part_shares, open_shares, at_place}

-- ## Nothing is dealt without quantity or claims

pub no_quantity : (deal : Deal) (lot q : ℕ) (t : Step) (l : Level) → q ≡ 0 → step_shares deal lot q t l ≡ dealt [] (queue_of t l).wheel
unfolding step_shares
no_quantity deal lot zero t l e = refl
no_quantity deal lot (suc q) t l e = absurd (omega arith)

pub no_claims : (deal : Deal) (lot q : ℕ) (t : Step) (l : Level) → opens lot t (queue_of t l).parts ≡ false → step_shares deal lot q t l ≡ dealt [] (queue_of t l).wheel
unfolding step_shares
no_claims deal lot zero t l e = refl
no_claims deal lot (suc q) Setter l e = ap (λ t. setter_shares t (suc q) l.shown) e
no_claims deal lot (suc q) Displayed l e = go l.shown.parts e
  where
    go : (ps : List Part) → opens lot Displayed ps ≡ false → step_shares deal lot (suc q) Displayed (record { price = l.price; shown = queue ps l.shown.wheel; hidden = l.hidden }) ≡ dealt [] l.shown.wheel
    go [] e = refl
    go (p ∷ ps) e = absurd (both_ways true e refl)
no_claims deal lot (suc q) Hidden l e = go l.hidden.parts e
  where
    go : (ps : List Part) → opens lot Hidden ps ≡ false → step_shares deal lot (suc q) Hidden (record { price = l.price; shown = l.shown; hidden = queue ps l.hidden.wheel }) ≡ dealt [] l.hidden.wheel
    go [] e = refl
    go (p ∷ ps) e = absurd (both_ways true e refl)

pub some_claims : (deal : Deal) (lot q : ℕ) (t : Step) (l : Level) → (q ≡ 0 → ⊥) → opens lot t (queue_of t l).parts ≡ true → step_shares deal lot q t l ≡ open_shares deal lot q t l
unfolding step_shares
some_claims deal lot zero t l h e = absurd (h refl)
some_claims deal lot (suc q) Setter l h e = ap (λ t. setter_shares t (suc q) l.shown) e
some_claims deal lot (suc q) Displayed l h e = go l.shown.parts e
  where
    go : (ps : List Part) → opens lot Displayed ps ≡ true → step_shares deal lot (suc q) Displayed (record { price = l.price; shown = queue ps l.shown.wheel; hidden = l.hidden }) ≡ part_shares deal lot (suc q) Displayed l.shown.wheel ps
    go [] e = absurd (both_ways false refl e)
    go (p ∷ ps) e = refl
some_claims deal lot (suc q) Hidden l h e = go l.hidden.parts e
  where
    go : (ps : List Part) → opens lot Hidden ps ≡ true → step_shares deal lot (suc q) Hidden (record { price = l.price; shown = l.shown; hidden = queue ps l.hidden.wheel }) ≡ part_shares deal lot (suc q) Hidden l.hidden.wheel ps
    go [] e = absurd (both_ways false refl e)
    go (p ∷ ps) e = refl

-- ## A step that deals nothing

pub idle_rest : (deal : Deal) (lot q : ℕ) (t : Step) (l : Level) → step_shares deal lot q t l ≡ dealt [] (queue_of t l).wheel → step_rest deal lot q t l ≡ l
idle_rest deal lot q t l e =
    ap (λ (x : Dealt). with_queue t (queue (lowered (queue_of t l).parts x.shares) x.wheel) l) e
    ∙ ap (λ ps. with_queue t (queue ps (queue_of t l).wheel) l) (lowered_none (queue_of t l).parts)
    ∙ same t
  where
    same : (t : Step) → with_queue t (queue (queue_of t l).parts (queue_of t l).wheel) l ≡ l
    same Setter = refl
    same Displayed = refl
    same Hidden = refl

pub idle_left : (deal : Deal) (lot q : ℕ) (t : Step) (l : Level) → step_shares deal lot q t l ≡ dealt [] (queue_of t l).wheel → q ≡ q - sum (step_shares deal lot q t l).shares
idle_left deal lot q t l e = omega (arith, ap (λ (x : Dealt). sum x.shares) e)

pub idle_rows : (deal : Deal) (lot arriving q : ℕ) (t : Step) (l : Level) → step_shares deal lot q t l ≡ dealt [] (queue_of t l).wheel → step_rows deal lot arriving q t l ≡ []
idle_rows deal lot arriving q t l e = ap (λ (x : Dealt). rows_of t arriving l.price (queue_of t l).parts x.shares) e ∙ rows_none t arriving l.price (queue_of t l).parts

-- ## A step leaves a level ready

pub ready_step : (deal : Deal) → Lawful deal → (lot q : ℕ) (t : Step) (l : Level) → SoundLevel lot l → SoundLevel lot (step_rest deal lot q t l)
ready_step deal D lot q t l r =
    with_good lot t (queue (lowered (queue_of t l).parts (step_shares deal lot q t l).shares) (step_shares deal lot q t l).wheel) l (fair_shares deal D lot q t l r).sound r

-- a step that deals nothing leaves the levels, the quantity and the report as they were
pub record Stays (deal : Deal) (lot arriving q : ℕ) (t : Step) (ls : List Level) (i : ℕ) (rs : List Row) (a : ℕ) : Type 0 where
  pub level : ls ≡ set ls i (step_rest deal lot q t (at_place ls i))
  pub left : q ≡ q - sum (step_shares deal lot q t (at_place ls i)).shares
  pub rows : rs ≡ written rs a (step_rows deal lot arriving q t (at_place ls i))
  pub count : a ≡ a + length (step_rows deal lot arriving q t (at_place ls i))

pub stays : (deal : Deal) (lot arriving q : ℕ) (t : Step) (ls : List Level) (i : ℕ) (rs : List Row) (a : ℕ) → step_shares deal lot q t (at_place ls i) ≡ dealt [] (queue_of t (at_place ls i)).wheel → Stays deal lot arriving q t ls i rs a
stays deal lot arriving q t ls i rs a none =
    let l : Level = at_place ls i in
    let rows : step_rows deal lot arriving q t l ≡ [] = idle_rows deal lot arriving q t l none in
    record {
      level = sym (ap (set ls i) (idle_rest deal lot q t l none) ∙ set-get_or ls i (nothing_at 0));
      left = idle_left deal lot q t l none;
      rows = sym (ap (written rs a) rows ∙ written_none rs a);
      count = omega (arith, ap length rows);
    }
