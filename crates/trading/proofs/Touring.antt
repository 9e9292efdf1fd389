-- Price after price of a side. Assumes nothing.
use Rattle.std.proofs.Common.{◌≡◌, ℕ, ◌+◌, ◌-◌, ◌<◌, ◌≤◌, Bool, true, false, List, [], ◌∷◌, ◌++◌, length, take, drop, set, sym, refl, ap, ◌∙◌, subst, append_assoc, arith}
use Rattle.std.specs.List.{AllByRecursion}
use Rattle.std.proofs.lemmas.List.{set-get_or, drop_more, drop_all, take_more_set, drop-set-lt, length-set, length-append, take-append-drop}
use Rattle.allocation.specs.Dealings.{Deal, sum}
use Rattle.rules.specs.Books.{Level, nothing_at}
use Rattle.rules.specs.Trading.{Traded, traded, step_shares, trade_price, trade_reached, trade_side}
use Rattle.rules.specs.declared.phases.Step.{Step}
use Rattle.rules.specs.declared.answers.Row.{Row}
use Rattle.trading.specs.Written.{written}
use Rattle.trading.specs.Steps.{step_rest, step_rows, at_place}
use Rattle.trading.proofs.Writing.{written_none, written_then, length_written}
use Rattle.trading.proofs.Stepping.{no_quantity, idle_rest, idle_left, idle_rows}
use Rattle.rules.specs.Invariants.{SoundLevel}

-- ## Nothing left to trade

pub price_none : (deal : Deal) (lot arriving : ℕ) (table : List Step) (l : Level) → trade_price deal lot arriving table 0 l ≡ traded 0 [] l
unfolding trade_price
price_none deal lot arriving [] l = refl
price_none deal lot arriving (s ∷ ss) l =
    let none = no_quantity deal lot 0 s l refl in
    let on : trade_price deal lot arriving ss (0 - sum (step_shares deal lot 0 s l).shares) (step_rest deal lot 0 s l) ≡ traded 0 [] l =
    ap (λ n. trade_price deal lot arriving ss n (step_rest deal lot 0 s l)) (sym (idle_left deal lot 0 s l none)) ∙ ap (trade_price deal lot arriving ss 0) (idle_rest deal lot 0 s l none) ∙ price_none deal lot arriving ss l in
    ap (λ (r : Traded Level). traded r.left (step_rows deal lot arriving 0 s l ++ r.rows) r.rest) on ∙ ap (λ rs. traded 0 (rs ++ []) l) (idle_rows deal lot arriving 0 s l none)

reached_none : (deal : Deal) (lot arriving : ℕ) (table : List Step) (t : Bool) (l : Level) → trade_reached deal lot arriving table t 0 l ≡ traded 0 [] l
reached_none deal lot arriving table true l = price_none deal lot arriving table l
reached_none deal lot arriving table false l = refl

pub side_none : (deal : Deal) (lot arriving : ℕ) (table : List Step) (reach : ℕ → Bool) (ls : List Level) → trade_side deal lot arriving table reach 0 ls ≡ traded 0 [] ls
unfolding trade_side
side_none deal lot arriving table reach [] = refl
side_none deal lot arriving table reach (l ∷ ls) =
    ap (λ (r : Traded Level). let t : Traded (List Level) = trade_side deal lot arriving table reach r.left ls in traded t.left (r.rows ++ t.rows) (r.rest ∷ t.rest)) (reached_none deal lot arriving table (reach l.price) l)
    ∙ ap (λ (t : Traded (List Level)). traded t.left t.rows (l ∷ t.rest)) (side_none deal lot arriving table reach ls)

-- ## One price, then the others

module _ (deal : Deal) (lot arriving : ℕ) (table : List Step) (reach : ℕ → Bool) (q : ℕ) (l : Level) (ls : List Level) (r : Traded Level) (is : trade_reached deal lot arriving table (reach l.price) q l ≡ r) where
  first_left : (trade_side deal lot arriving table reach q (l ∷ ls)).left ≡ (trade_side deal lot arriving table reach r.left ls).left
  unfolding trade_side
  first_left = ap (λ (r : Traded Level). (trade_side deal lot arriving table reach r.left ls).left) is

  first_rest : (trade_side deal lot arriving table reach q (l ∷ ls)).rest ≡ r.rest ∷ (trade_side deal lot arriving table reach r.left ls).rest
  unfolding trade_side
  first_rest = ap (λ (r : Traded Level). r.rest ∷ (trade_side deal lot arriving table reach r.left ls).rest) is

  first_rows : (trade_side deal lot arriving table reach q (l ∷ ls)).rows ≡ r.rows ++ (trade_side deal lot arriving table reach r.left ls).rows
  unfolding trade_side
  first_rows = ap (λ (r : Traded Level). r.rows ++ (trade_side deal lot arriving table reach r.left ls).rows) is

-- the first i levels are done
pub record Tour (deal : Deal) (lot arriving : ℕ) (table : List Step) (reach : ℕ → Bool) (i : ℕ) (ls₀ : List Level) (q₀ : ℕ) (rs₀ : List Row) (a₀ : ℕ) (ls : List Level) (q : ℕ) (rs : List Row) (a : ℕ) : Type 0 where
  pub left : (trade_side deal lot arriving table reach q (drop i ls)).left ≡ (trade_side deal lot arriving table reach q₀ ls₀).left
  pub rest : take i ls ++ (trade_side deal lot arriving table reach q (drop i ls)).rest ≡ (trade_side deal lot arriving table reach q₀ ls₀).rest
  pub rows : written rs a (trade_side deal lot arriving table reach q (drop i ls)).rows ≡ written rs₀ a₀ (trade_side deal lot arriving table reach q₀ ls₀).rows
  pub count : a + length (trade_side deal lot arriving table reach q (drop i ls)).rows ≡ a₀ + length (trade_side deal lot arriving table reach q₀ ls₀).rows
  pub ready : AllByRecursion (SoundLevel lot) (drop i ls)
  pub long : length rs ≡ length rs₀
  pub size : length ls ≡ length ls₀

pub tour_none : (deal : Deal) (lot arriving : ℕ) (table : List Step) (reach : ℕ → Bool) (ls : List Level) (q : ℕ) (rs : List Row) (a : ℕ) → AllByRecursion (SoundLevel lot) ls → Tour deal lot arriving table reach 0 ls q rs a ls q rs a
tour_none deal lot arriving table reach ls q rs a r = record { left = refl; rest = refl; rows = refl; count = refl; ready = r; long = refl; size = refl }

module _ {deal : Deal} {lot arriving : ℕ} {table : List Step} {reach : ℕ → Bool} {i : ℕ} {ls₀ : List Level} {q₀ : ℕ} {rs₀ : List Row} {a₀ : ℕ} {ls : List Level} {q : ℕ} {rs : List Row} {a : ℕ} (w : Tour deal lot arriving table reach i ls₀ q₀ rs₀ a₀ ls q rs a) (fits : a₀ + length (trade_side deal lot arriving table reach q₀ ls₀).rows ≤ length rs₀) where
  module _ (lt : i < length ls) where
    here : drop i ls ≡ at_place ls i ∷ drop (i + 1) ls
    here = drop_more ls i (nothing_at 0) lt

    module _ (r : Traded Level) (is : trade_reached deal lot arriving table (reach (at_place ls i).price) q (at_place ls i) ≡ r) where
      rows_here : (trade_side deal lot arriving table reach q (drop i ls)).rows ≡ r.rows ++ (trade_side deal lot arriving table reach r.left (drop (i + 1) ls)).rows
      rows_here = ap (λ l. (trade_side deal lot arriving table reach q l).rows) here ∙ first_rows deal lot arriving table reach q (at_place ls i) (drop (i + 1) ls) r is

      room_here : a + length r.rows ≤ length rs
      room_here = omega (arith, fits, w.long, w.count, ap length rows_here, length-append r.rows (trade_side deal lot arriving table reach r.left (drop (i + 1) ls)).rows)

      tour_on : (ms : List Level) (q' : ℕ) (rs' : List Row) (a' : ℕ) → ms ≡ set ls i r.rest → q' ≡ r.left → rs' ≡ written rs a r.rows → a' ≡ a + length r.rows → Tour deal lot arriving table reach (i + 1) ls₀ q₀ rs₀ a₀ ms q' rs' a'
      tour_on ms q' rs' a' level left rows count =
          let later : drop (i + 1) ms ≡ drop (i + 1) ls = ap (drop (i + 1)) level ∙ drop-set-lt (i + 1) ls i r.rest (omega arith) in
          let done : take (i + 1) ms ≡ take i ls ++ (r.rest ∷ []) = ap (take (i + 1)) level ∙ take_more_set ls i r.rest lt in
          let t : Traded (List Level) = trade_side deal lot arriving table reach r.left (drop (i + 1) ls) in
          let same : trade_side deal lot arriving table reach q' (drop (i + 1) ms) ≡ t = ap (λ n. trade_side deal lot arriving table reach n (drop (i + 1) ms)) left ∙ ap (trade_side deal lot arriving table reach r.left) later in
          record {
            left = ap (λ (x : Traded (List Level)). x.left) same ∙ sym (ap (λ l. (trade_side deal lot arriving table reach q l).left) here ∙ first_left deal lot arriving table reach q (at_place ls i) (drop (i + 1) ls) r is) ∙ w.left;
            rest = ap (λ l. l ++ (trade_side deal lot arriving table reach q' (drop (i + 1) ms)).rest) done
                ∙ ap (λ (x : Traded (List Level)). (take i ls ++ (r.rest ∷ [])) ++ x.rest) same
                ∙ append_assoc (take i ls) (r.rest ∷ []) t.rest
                ∙ ap (λ l. take i ls ++ l) (sym (ap (λ l. (trade_side deal lot arriving table reach q l).rest) here ∙ first_rest deal lot arriving table reach q (at_place ls i) (drop (i + 1) ls) r is))
                ∙ w.rest;
            rows = ap (λ (x : Traded (List Level)). written rs' a' x.rows) same
                ∙ ap (λ x. written x a' t.rows) rows
                ∙ ap (λ k. written (written rs a r.rows) k t.rows) count
                ∙ written_then rs a r.rows t.rows room_here
                ∙ ap (written rs a) (sym rows_here) ∙ w.rows;
            count = omega (arith, count, ap (λ (x : Traded (List Level)). length x.rows) same, ap length rows_here, length-append r.rows t.rows, w.count);
            ready = subst (λ (l : List Level). AllByRecursion (SoundLevel lot) l) (sym later) (subst (λ (l : List Level). AllByRecursion (SoundLevel lot) l) here w.ready).1;
            long = ap length rows ∙ length_written rs a r.rows room_here ∙ w.long;
            size = ap length level ∙ length-set ls i r.rest ∙ w.size;
          }

    -- a price in reach
    module _ (yes : reach (at_place ls i).price ≡ true) where
      in_reach : trade_reached deal lot arriving table (reach (at_place ls i).price) q (at_place ls i) ≡ trade_price deal lot arriving table q (at_place ls i)
      in_reach = ap (λ t. trade_reached deal lot arriving table t q (at_place ls i)) yes

      pub tour_room : a + length (trade_price deal lot arriving table q (at_place ls i)).rows ≤ length rs
      tour_room = room_here (trade_price deal lot arriving table q (at_place ls i)) in_reach

      pub tour_more : (ms : List Level) (q' : ℕ) (rs' : List Row) (a' : ℕ) → ms ≡ set ls i (trade_price deal lot arriving table q (at_place ls i)).rest → q' ≡ (trade_price deal lot arriving table q (at_place ls i)).left
          → rs' ≡ written rs a (trade_price deal lot arriving table q (at_place ls i)).rows → a' ≡ a + length (trade_price deal lot arriving table q (at_place ls i)).rows → Tour deal lot arriving table reach (i + 1) ls₀ q₀ rs₀ a₀ ms q' rs' a'
      tour_more = tour_on (trade_price deal lot arriving table q (at_place ls i)) in_reach

    -- a price out of reach
    pub tour_past : reach (at_place ls i).price ≡ false → (ms : List Level) (q' : ℕ) (rs' : List Row) (a' : ℕ) → ms ≡ ls → q' ≡ q → rs' ≡ rs → a' ≡ a → Tour deal lot arriving table reach (i + 1) ls₀ q₀ rs₀ a₀ ms q' rs' a'
    tour_past out ms q' rs' a' level left rows count =
        tour_on (traded q [] (at_place ls i)) (ap (λ t. trade_reached deal lot arriving table t q (at_place ls i)) out) ms q' rs' a' (level ∙ sym (set-get_or ls i (nothing_at 0))) left (rows ∙ sym (written_none rs a)) (omega (arith, count))

  -- no level or no quantity is left
  pub tour_over : trade_side deal lot arriving table reach q (drop i ls) ≡ traded q [] (drop i ls)
      → (ls ≡ (trade_side deal lot arriving table reach q₀ ls₀).rest) × (q ≡ (trade_side deal lot arriving table reach q₀ ls₀).left) × (rs ≡ written rs₀ a₀ (trade_side deal lot arriving table reach q₀ ls₀).rows) × (a ≡ a₀ + length (trade_side deal lot arriving table reach q₀ ls₀).rows)
  tour_over end = (
    sym (take-append-drop i ls) ∙ ap (λ (x : Traded (List Level)). take i ls ++ x.rest) (sym end) ∙ w.rest,
    ap (λ (x : Traded (List Level)). x.left) (sym end) ∙ w.left,
    sym (written_none rs a) ∙ ap (λ (x : Traded (List Level)). written rs a x.rows) (sym end) ∙ w.rows,
    omega (arith, ap (λ (x : Traded (List Level)). length x.rows) end, w.count),
  )

  no_levels : trade_side deal lot arriving table reach q [] ≡ traded q [] []
  unfolding trade_side
  no_levels = refl

  pub over_levels : length ls ≤ i → trade_side deal lot arriving table reach q (drop i ls) ≡ traded q [] (drop i ls)
  over_levels le = let none : drop i ls ≡ [] = drop_all i ls le in ap (trade_side deal lot arriving table reach q) none ∙ no_levels ∙ ap (traded q []) (sym none)

  pub over_quantity : q ≡ 0 → trade_side deal lot arriving table reach q (drop i ls) ≡ traded q [] (drop i ls)
  over_quantity e = ap (λ n. trade_side deal lot arriving table reach n (drop i ls)) e ∙ side_none deal lot arriving table reach (drop i ls) ∙ ap (λ n. traded n [] (drop i ls)) (sym e)
