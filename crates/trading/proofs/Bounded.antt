-- Trading writes no more rows than there are parts. Assumes nothing.
use Rattle.std.proofs.Common.{◌≡◌, ℕ, zero, suc, ◌+◌, ◌-◌, ◌<◌, ◌≤◌, min, Bool, true, false, cond, eqb, leb, ◌⊎◌, List, [], ◌∷◌, map, length, sym, refl, ap, ◌∙◌, subst, inl, inr, ⊎_elim, arith}
use Rattle.std.specs.List.{AllByRecursion}
use Rattle.std.proofs.lemmas.List.{length-append}
use Rattle.std.proofs.lemmas.Bool.{cases_eq, eq-eqb, le-leb}
use Rattle.allocation.specs.ByTime.{shares_in_order}
use Rattle.allocation.specs.Wheels.{Wheel}
use Rattle.allocation.specs.Dealings.{Deal, Lawful, Within, sum, total}
use Rattle.rules.specs.Books.{Level, queue, part}
use Rattle.rules.specs.Quantities.{claims}
use Rattle.rules.specs.Changes.{lowered}
use Rattle.rules.specs.Trading.{Traded, queue_of, with_queue, setter_shares, dealing_shares, step_shares, taken, rows_of, trade_price, trade_reached, trade_side}
use Rattle.rules.specs.declared.orders.Part.{Part}
use Rattle.rules.specs.declared.phases.Step.{Step}
use Rattle.rules.specs.declared.phases.Step.TheVariants.{Setter, Displayed, Hidden}
use Rattle.rules.specs.declared.answers.Row.{Row}
use Rattle.rules.specs.declared.answers.Row.TheVariants.{Trade}
use Rattle.allocation.proofs.InOrder.{in_order_cons, sum_in_order}
use Rattle.levels.specs.Heads.{count}
use Rattle.trading.specs.Steps.{step_rest, step_rows}
use Rattle.trading.proofs.Stepping.{ready_step}
use Rattle.trading.proofs.Touring.{price_none}
use Rattle.rules.specs.Invariants.{SoundQueue, SoundLevel}

-- each part gets nothing or all that it has
abbrev Whole : List Part → List ℕ → Type 0
Whole [] xs = Unit {0}
Whole (p ∷ ps) [] = Unit {0}
Whole (p ∷ ps) (x ∷ xs) = ((x ≡ 0) ⊎ (p.quantity ≤ x)) × Whole ps xs

-- ## Rows and parts left

few_rows : (t : Step) (a v : ℕ) (ps : List Part) (xs : List ℕ) → length (rows_of t a v ps xs) ≤ length ps
few_rows t a v [] xs = omega arith
few_rows t a v (p ∷ ps) [] = omega arith
few_rows t a v (p ∷ ps) (x ∷ xs) = go (eqb x 0) (few_rows t a v ps xs)
  where
    go : (b : Bool) → length (rows_of t a v ps xs) ≤ length ps → length (cond b (rows_of t a v ps xs) (Trade t p.order a v x ∷ rows_of t a v ps xs)) ≤ suc (length ps)
    go true h = omega arith
    go false h = omega arith

whole_rows : (t : Step) (a v : ℕ) (ps : List Part) (xs : List ℕ) → Whole ps xs → length (rows_of t a v ps xs) + length (lowered ps xs) ≤ length ps
whole_rows t a v [] xs w = omega arith
whole_rows t a v (p ∷ ps) [] w = omega arith
whole_rows t a v (p ∷ ps) (x ∷ xs) w =
    ⊎_elim
    (λ e. rw (eq-eqb x 0 e) (go (leb p.quantity x) (whole_rows t a v ps xs w.1)))
    (λ le. rw (le-leb p.quantity x le) (on (eqb x 0) (whole_rows t a v ps xs w.1)))
    w.0
  where
    go : (b : Bool) → length (rows_of t a v ps xs) + length (lowered ps xs) ≤ length ps → length (rows_of t a v ps xs) + length (cond b (lowered ps xs) (part p.order p.participant (p.quantity - x) p.marked ∷ lowered ps xs)) ≤ suc (length ps)
    go true h = omega arith
    go false h = omega arith

    on : (b : Bool) → length (rows_of t a v ps xs) + length (lowered ps xs) ≤ length ps → length (cond b (rows_of t a v ps xs) (Trade t p.order a v x ∷ rows_of t a v ps xs)) + length (lowered ps xs) ≤ suc (length ps)
    on true h = omega arith
    on false h = omega arith

-- ## A step that leaves some quantity

in_order_full : (q : ℕ) (ns : List ℕ) → sum ns ≤ q → shares_in_order q ns ≡ ns
in_order_full q [] le = refl
in_order_full q (n ∷ ns) le =
    let here : min q n ≡ n = omega arith in
    in_order_cons q n ns ∙ ap (λ m. m ∷ shares_in_order (q - n) ns) here ∙ ap (λ l. n ∷ l) (in_order_full (q - n) ns (omega arith))

marked_whole : (ps : List Part) → Whole ps (map (λ p. cond p.marked p.quantity 0) ps)
marked_whole [] = tt
marked_whole (p ∷ ps) = (go p.marked, marked_whole ps)
  where
    go : (b : Bool) → (cond b p.quantity 0 ≡ 0) ⊎ (p.quantity ≤ cond b p.quantity 0)
    go true = inr (omega arith)
    go false = inl refl

setter_whole : (q : ℕ) (t : Bool) (ps : List Part) (w : Wheel) → 0 < q - sum (setter_shares t q (queue ps w)).shares → Whole ps (setter_shares t q (queue ps w)).shares
setter_whole q false [] w pos = tt
setter_whole q false (p ∷ ps) w pos = tt
setter_whole q true ps w pos =
    let ns : List ℕ = map (λ p. cond p.marked p.quantity 0) ps in
    subst (λ (xs : List ℕ). Whole ps xs) (sym (in_order_full q ns (omega (arith, sum_in_order q ns)))) (marked_whole ps)

within_sum : (xs : List ℕ) (ps : List Part) → Within xs (claims ps) → sum xs ≤ total (claims ps)
within_sum [] [] h = omega arith
within_sum [] (p ∷ ps) h = absurd h
within_sum (x ∷ xs) [] h = absurd h
within_sum (x ∷ xs) (p ∷ ps) h = omega (arith, h.0, within_sum xs ps h.1)

within_whole : (xs : List ℕ) (ps : List Part) → Within xs (claims ps) → total (claims ps) ≤ sum xs → Whole ps xs
within_whole [] [] h le = tt
within_whole [] (p ∷ ps) h le = absurd h
within_whole (x ∷ xs) [] h le = absurd h
within_whole (x ∷ xs) (p ∷ ps) h le = (inr (omega (arith, within_sum xs ps h.1)), within_whole xs ps h.1 (omega (arith, h.0)))

dealing_whole : (deal : Deal) → Lawful deal → (lot q : ℕ) (w : Wheel) (ps : List Part) → SoundQueue lot (queue ps w) → 0 < q - sum (dealing_shares deal lot q w ps).shares → Whole ps (dealing_shares deal lot q w ps).shares
dealing_whole deal D lot q w [] r pos = tt
dealing_whole deal D lot q w (p ∷ ps) r pos =
    let good = D q w lot (claims (p ∷ ps)) r.seated in
    within_whole (deal q w lot (claims (p ∷ ps))).shares (p ∷ ps) good.within (omega (arith, good.all))

none_whole : (ps : List Part) → Whole ps []
none_whole [] = tt
none_whole (p ∷ ps) = tt

step_whole : (deal : Deal) → Lawful deal → (lot q : ℕ) (t : Step) (l : Level) → SoundLevel lot l → 0 < q - sum (step_shares deal lot q t l).shares → Whole (queue_of t l).parts (step_shares deal lot q t l).shares
unfolding step_shares
step_whole deal D lot zero t l r pos = none_whole (queue_of t l).parts
step_whole deal D lot (suc q) Setter l r pos = setter_whole (suc q) (taken lot l) l.shown.parts l.shown.wheel pos
step_whole deal D lot (suc q) Displayed l r pos = dealing_whole deal D lot (suc q) l.shown.wheel l.shown.parts r.0 pos
step_whole deal D lot (suc q) Hidden l r pos = dealing_whole deal D lot (suc q) l.hidden.wheel l.hidden.parts r.1 pos

-- ## A price, and a side

abbrev pub parts_in : Level → ℕ
parts_in l = length l.shown.parts + length l.hidden.parts

queue_parts : (t : Step) (l : Level) → length (queue_of t l).parts ≤ parts_in l
queue_parts Setter l = omega arith
queue_parts Displayed l = omega arith
queue_parts Hidden l = omega arith

with_parts : (t : Step) (l : Level) (ps : List Part) (w : Wheel) → parts_in (with_queue t (queue ps w) l) + length (queue_of t l).parts ≡ parts_in l + length ps
with_parts Setter l ps w = omega arith
with_parts Displayed l ps w = omega arith
with_parts Hidden l ps w = omega arith

pub price_few : (deal : Deal) → Lawful deal → (lot arriving : ℕ) (table : List Step) (q : ℕ) (l : Level) → SoundLevel lot l → length (trade_price deal lot arriving table q l).rows ≤ parts_in l
unfolding trade_price
price_few deal D lot arriving [] q l r = omega arith
price_few deal D lot arriving (s ∷ ss) q l r =
    let xs : List ℕ = (step_shares deal lot q s l).shares in
    let n : ℕ = q - sum xs in
    let m : Level = step_rest deal lot q s l in
    let here : List Row = step_rows deal lot arriving q s l in
    let long = length-append here (trade_price deal lot arriving ss n m).rows in
    ⊎_elim
    (λ (none : n ≡ 0).
    omega (
      arith,
      long,
      few_rows s arriving l.price (queue_of s l).parts xs,
      queue_parts s l,
      ap (λ (x : Traded Level). length x.rows) (ap (λ k. trade_price deal lot arriving ss k m) none ∙ price_none deal lot arriving ss m),
    ))
    (λ (some : n ≡ 0 → ⊥).
    omega (
      arith,
      long,
      price_few deal D lot arriving ss n m (ready_step deal D lot q s l r),
      whole_rows s arriving l.price (queue_of s l).parts xs (step_whole deal D lot q s l r (omega (arith, positive n some))),
      with_parts s l (lowered (queue_of s l).parts xs) (step_shares deal lot q s l).wheel,
    ))
    (cases_eq n 0)
  where
    positive : (n : ℕ) → (n ≡ 0 → ⊥) → 0 < n
    positive zero h = absurd (h refl)
    positive (suc n) h = omega arith

reached_few : (deal : Deal) → Lawful deal → (lot arriving : ℕ) (table : List Step) (t : Bool) (q : ℕ) (l : Level) → SoundLevel lot l → length (trade_reached deal lot arriving table t q l).rows ≤ parts_in l
reached_few deal D lot arriving table true q l r = price_few deal D lot arriving table q l r
reached_few deal D lot arriving table false q l r = omega arith

-- trading with a side writes no more rows than the side has parts
pub side_few : (deal : Deal) → Lawful deal → (lot arriving : ℕ) (table : List Step) (reach : ℕ → Bool) (q : ℕ) (ls : List Level) → AllByRecursion (SoundLevel lot) ls → length (trade_side deal lot arriving table reach q ls).rows ≤ count ls
unfolding trade_side
side_few deal D lot arriving table reach q [] r = omega arith
side_few deal D lot arriving table reach q (l ∷ ls) r =
    let x : Traded Level = trade_reached deal lot arriving table (reach l.price) q l in
    omega (arith, length-append x.rows (trade_side deal lot arriving table reach x.left ls).rows, reached_few deal D lot arriving table (reach l.price) q l r.0, side_few deal D lot arriving table reach x.left ls r.1)
