-- Step after step at a price, and price after price. Assumes nothing.
use Rattle.std.proofs.Common.{◌≡◌, ℕ, zero, suc, ◌+◌, ◌-◌, ◌<◌, ◌≤◌, List, [], ◌∷◌, ◌++◌, length, get_or, drop, set, sym, refl, ap, ◌∙◌, subst, arith}
use Rattle.std.proofs.lemmas.List.{get_or-set_same, length-set, drop_more, drop_all, length-append}
use Rattle.allocation.specs.Dealings.{Deal, Lawful, sum}
use Rattle.rules.specs.Books.{Level, nothing_at}
use Rattle.rules.specs.Trading.{Traded, step_shares, trade_price}
use Rattle.rules.specs.declared.phases.Step.{Step}
use Rattle.rules.specs.declared.answers.Row.{Row}
use Rattle.trading.specs.Written.{written}
use Rattle.trading.specs.Steps.{step_rest, step_rows, at_place}
use Rattle.trading.proofs.Writing.{written_none, written_then, length_written}
use Rattle.trading.proofs.Stepping.{ready_step}
use Rattle.rules.specs.Invariants.{SoundLevel}

-- ## Step after step

-- of the steps of the table, j are done at the level at i
pub record Walk (deal : Deal) (lot arriving : ℕ) (table : List Step) (i j : ℕ) (ls₀ : List Level) (q₀ : ℕ) (rs₀ : List Row) (a₀ : ℕ) (ls : List Level) (q : ℕ) (rs : List Row) (a : ℕ) : Type 0 where
  pub level : ls ≡ set ls₀ i (at_place ls i)
  pub left : (trade_price deal lot arriving (drop j table) q (at_place ls i)).left ≡ (trade_price deal lot arriving table q₀ (at_place ls₀ i)).left
  pub rest : (trade_price deal lot arriving (drop j table) q (at_place ls i)).rest ≡ (trade_price deal lot arriving table q₀ (at_place ls₀ i)).rest
  pub rows : written rs a (trade_price deal lot arriving (drop j table) q (at_place ls i)).rows ≡ written rs₀ a₀ (trade_price deal lot arriving table q₀ (at_place ls₀ i)).rows
  pub count : a + length (trade_price deal lot arriving (drop j table) q (at_place ls i)).rows ≡ a₀ + length (trade_price deal lot arriving table q₀ (at_place ls₀ i)).rows
  pub ready : SoundLevel lot (at_place ls i)
  pub long : length rs ≡ length rs₀

module _ (deal : Deal) (lot arriving q : ℕ) (s : Step) (ss : List Step) (l : Level) where
  -- one step of a table, then the others
  one_left : (trade_price deal lot arriving (s ∷ ss) q l).left ≡ (trade_price deal lot arriving ss (q - sum (step_shares deal lot q s l).shares) (step_rest deal lot q s l)).left
  unfolding trade_price
  one_left = refl

  one_rest : (trade_price deal lot arriving (s ∷ ss) q l).rest ≡ (trade_price deal lot arriving ss (q - sum (step_shares deal lot q s l).shares) (step_rest deal lot q s l)).rest
  unfolding trade_price
  one_rest = refl

  one_rows : (trade_price deal lot arriving (s ∷ ss) q l).rows ≡ step_rows deal lot arriving q s l ++ (trade_price deal lot arriving ss (q - sum (step_shares deal lot q s l).shares) (step_rest deal lot q s l)).rows
  unfolding trade_price
  one_rows = refl

module _ {deal : Deal} {lot arriving : ℕ} {table : List Step} {i j : ℕ} {ls₀ : List Level} {q₀ : ℕ} {rs₀ : List Row} {a₀ : ℕ} {ls : List Level} {q : ℕ} {rs : List Row} {a : ℕ} (w : Walk deal lot arriving table i j ls₀ q₀ rs₀ a₀ ls q rs a) (place : i < length ls₀) (fits : a₀ + length (trade_price deal lot arriving table q₀ (at_place ls₀ i)).rows ≤ length rs₀) where
  pub walk_place : i < length ls
  walk_place = omega (arith, ap length w.level, length-set ls₀ i (at_place ls i))

  module _ (s : Step) (lt : j < length table) (read : get_or table j s ≡ s) where
    here : drop j table ≡ s ∷ drop (j + 1) table
    here = drop_more table j s lt ∙ ap (λ x. x ∷ drop (j + 1) table) read

    rows_here : (trade_price deal lot arriving (drop j table) q (at_place ls i)).rows ≡ step_rows deal lot arriving q s (at_place ls i) ++ (trade_price deal lot arriving (drop (j + 1) table) (q - sum (step_shares deal lot q s (at_place ls i)).shares) (step_rest deal lot q s (at_place ls i))).rows
    rows_here = ap (λ ss. (trade_price deal lot arriving ss q (at_place ls i)).rows) here ∙ one_rows deal lot arriving q s (drop (j + 1) table) (at_place ls i)

    pub walk_room : a + length (step_rows deal lot arriving q s (at_place ls i)) ≤ length rs
    walk_room =
        omega (
          arith,
          fits,
          w.long,
          w.count,
          ap length rows_here,
          length-append (step_rows deal lot arriving q s (at_place ls i)) (trade_price deal lot arriving (drop (j + 1) table) (q - sum (step_shares deal lot q s (at_place ls i)).shares) (step_rest deal lot q s (at_place ls i))).rows,
        )

    pub walk_more : Lawful deal → (ms : List Level) (q' : ℕ) (rs' : List Row) (a' : ℕ) → ms ≡ set ls i (step_rest deal lot q s (at_place ls i)) → q' ≡ q - sum (step_shares deal lot q s (at_place ls i)).shares
        → rs' ≡ written rs a (step_rows deal lot arriving q s (at_place ls i)) → a' ≡ a + length (step_rows deal lot arriving q s (at_place ls i)) → Walk deal lot arriving table i (j + 1) ls₀ q₀ rs₀ a₀ ms q' rs' a'
    walk_more D ms q' rs' a' level left rows count =
        let l : Level = at_place ls i in
        let m : Level = step_rest deal lot q s l in
        let n : ℕ = q - sum (step_shares deal lot q s l).shares in
        let ss : List Step = drop (j + 1) table in
        let xs : List Row = step_rows deal lot arriving q s l in
        let now : at_place ms i ≡ m = ap (λ x. at_place x i) level ∙ get_or-set_same ls i m (nothing_at 0) walk_place in
        let same : trade_price deal lot arriving ss q' (at_place ms i) ≡ trade_price deal lot arriving ss n m = ap (λ k. trade_price deal lot arriving ss k (at_place ms i)) left ∙ ap (trade_price deal lot arriving ss n) now in
        record {
          level = level ∙ ap (λ x. set x i m) w.level ∙ twice ls₀ i l m ∙ ap (set ls₀ i) (sym now);
          left = ap (λ (r : Traded Level). r.left) same ∙ sym (ap (λ x. (trade_price deal lot arriving x q l).left) here ∙ one_left deal lot arriving q s ss l) ∙ w.left;
          rest = ap (λ (r : Traded Level). r.rest) same ∙ sym (ap (λ x. (trade_price deal lot arriving x q l).rest) here ∙ one_rest deal lot arriving q s ss l) ∙ w.rest;
          rows = ap (λ (r : Traded Level). written rs' a' r.rows) same
              ∙ ap (λ x. written x a' (trade_price deal lot arriving ss n m).rows) rows
              ∙ ap (λ k. written (written rs a xs) k (trade_price deal lot arriving ss n m).rows) count
              ∙ written_then rs a xs (trade_price deal lot arriving ss n m).rows walk_room
              ∙ ap (written rs a) (sym rows_here) ∙ w.rows;
          count = omega (arith, count, ap (λ (r : Traded Level). length r.rows) same, ap length rows_here, length-append xs (trade_price deal lot arriving ss n m).rows, w.count);
          ready = subst (λ (x : Level). SoundLevel lot x) (sym now) (ready_step deal D lot q s l w.ready);
          long = ap length rows ∙ length_written rs a xs walk_room ∙ w.long;
        }
      where
        twice : (xs : List Level) (i : ℕ) (x y : Level) → set (set xs i x) i y ≡ set xs i y
        twice [] i x y = refl
        twice (z ∷ xs) zero x y = refl
        twice (z ∷ xs) (suc i) x y = ap (λ l. z ∷ l) (twice xs i x y)

  module _ (end : length table ≤ j) where
    over : drop j table ≡ []
    over = drop_all j table end

    none_left : (trade_price deal lot arriving [] q (at_place ls i)).left ≡ q
    unfolding trade_price
    none_left = refl

    none_rest : (trade_price deal lot arriving [] q (at_place ls i)).rest ≡ at_place ls i
    unfolding trade_price
    none_rest = refl

    none_rows : (trade_price deal lot arriving [] q (at_place ls i)).rows ≡ []
    unfolding trade_price
    none_rows = refl

    pub walk_level : ls ≡ set ls₀ i (trade_price deal lot arriving table q₀ (at_place ls₀ i)).rest
    walk_level = w.level ∙ ap (set ls₀ i) (sym (ap (λ x. (trade_price deal lot arriving x q (at_place ls i)).rest) over ∙ none_rest) ∙ w.rest)

    pub walk_left : q ≡ (trade_price deal lot arriving table q₀ (at_place ls₀ i)).left
    walk_left = sym (ap (λ x. (trade_price deal lot arriving x q (at_place ls i)).left) over ∙ none_left) ∙ w.left

    pub walk_rows : rs ≡ written rs₀ a₀ (trade_price deal lot arriving table q₀ (at_place ls₀ i)).rows
    walk_rows = sym (ap (λ x. written rs a (trade_price deal lot arriving x q (at_place ls i)).rows) over ∙ ap (written rs a) none_rows ∙ written_none rs a) ∙ w.rows

    pub walk_count : a ≡ a₀ + length (trade_price deal lot arriving table q₀ (at_place ls₀ i)).rows
    walk_count = omega (arith, ap (λ x. length (trade_price deal lot arriving x q (at_place ls i)).rows) over, ap length none_rows, w.count)
