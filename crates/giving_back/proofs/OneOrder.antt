-- One order of the table is cancelled or reduced. Assumes nothing.
use Rattle.std.proofs.Common.{◌≡◌, ℕ, suc, ◌+◌, ◌-◌, ◌<◌, ◌≤◌, min, Bool, true, false, cond, eqb, ltb, List, [], ◌∷◌, ◌++◌, map, length, get_or, take, drop, set, filter, sym, refl, ap, ◌∙◌, subst, ⊎_elim, arith}
use Rattle.std.specs.List.{AllByRecursion}
use Rattle.std.proofs.lemmas.List.{take-set, drop-set-lt, length-set, set_split}
use Rattle.std.proofs.lemmas.Bool.{eq-eqb, ne_eqb, lt-ltb, le-ltb, cases_Bool, cond-false}
use Rattle.std.proofs.ByRecursion.{All-weaker, All-take, All-drop, All-set, All-append}
use Rattle.rules.specs.declared.orders.Side.{Side}
use Rattle.rules.specs.declared.orders.Order.{Order}
use Rattle.rules.specs.Books.{Level, Ranking, Book, side, other, pick, with_side, with_orders}
use Rattle.rules.specs.Quantities.{of_level, of_side, resting}
use Rattle.rules.specs.TakingOff.{take_off_level, take_off_side, take_off}
use Rattle.rules.specs.Rules.{holds, tidy}
use Rattle.rules.specs.Invariants.{SoundBook}
use Rattle.rules.proofs.Effects.{take_off_rest, tidy_rest, holds_of}
use Rattle.orders.specs.declared.tables.Resting.{Resting}
use Rattle.orders.specs.Rows.{less}
use Rattle.resting.proofs.Elsewhere.{off_alone}
use Rattle.memory.specs.States.{Tallied}
use Rattle.giving_back.specs.Places.{RestsAt}
use Rattle.giving_back.proofs.Keeping.{kept_one, kept_map}
use Rattle.giving_back.proofs.Found.{none_on, rest_on, sound_on}
use Rattle.giving_back.proofs.Tabled.{Known, known, rows_rest}
use Rattle.giving_back.proofs.Still.{tidy_as, tidy_still}
use Rattle.giving_back.proofs.Taken.{off_on, side_of, other_of, off_orders, side_alone, kept_sides, both_sides, map_same_set}

-- what rests of any other order stays
other_rest : (b : Book) (n m x : ℕ) → (x ≡ n → ⊥) → resting x (take_off n m b) ≡ resting x b
other_rest b n m x ne =
    let away : cond (eqb n x) (min m (resting n b)) 0 ≡ 0 = cond-false _ _ _ (ne_eqb n x (λ e. ne (sym e))) in
    omega (arith, take_off_rest x n m b)

own_rest : (b : Book) (n m : ℕ) → m ≤ resting n b → resting n (take_off n m b) + m ≡ resting n b
own_rest b n m le =
    let here : cond (eqb n n) (min m (resting n b)) 0 ≡ min m (resting n b) = ap (λ t. cond t (min m (resting n b)) 0) (eq-eqb n n refl) in
    omega (arith, take_off_rest n n m b)

-- a level is kept if it has a part
abbrev pub dropped : ℕ → Level → List Level → List Level
dropped i d ls = cond (holds (get_or ls i d)) ls (take i ls ++ drop (i + 1) ls)

module _ (rank : Ranking) (b : Book) (sound : SoundBook rank b) (rows : List Resting) (is : b.orders ≡ map (λ r. r.order) rows) (tallied : Tallied rows b) (k : ℕ) (r : Resting) (lt : k < length rows) (read : r ≡ get_or rows k r) (i : ℕ) (at : RestsAt b r.order i) (d : Level) where
  abbrev number : ℕ
  number = r.order.number

  abbrev own : Side
  own = r.order.side

  row : Known b rows k r
  row = known rank b rows is sound tallied k r lt read

  -- ## The sides

  abbrev level_after : ℕ → Level
  level_after m = take_off_level number m (get_or (side own b) i d)

  own_side : (m : ℕ) → side own (take_off number m b) ≡ set (side own b) i (level_after m)
  own_side m =
      ap (side own) (off_on b.lot number m own b at.elsewhere) ∙ side_of own (take_off_side number m (side own b)) b ∙ off_alone b.lot number m i (side own b) d at.place at.alone

  other_side : (m : ℕ) → side (other own) (take_off number m b) ≡ side (other own) b
  other_side m = ap (side (other own)) (off_on b.lot number m own b at.elsewhere) ∙ other_of own (take_off_side number m (side own b)) b

  pub place_after : (m : ℕ) → i < length (side own (take_off number m b))
  place_after m = omega (arith, ap length (own_side m), length-set (side own b) i (level_after m), at.place)

  other_full : (m : ℕ) → AllByRecursion (λ l. holds l ≡ true) (side (other own) (take_off number m b))
  other_full m = subst (λ (l : List Level). AllByRecursion (λ l. holds l ≡ true) l) (sym (other_side m)) (sound_on rank b (other own) sound).occupied

  own_kept : (m : ℕ) → filter holds (side own (take_off number m b)) ≡ dropped i d (side own (take_off number m b))
  own_kept m =
      let ls : List Level = side own (take_off number m b) in
      let full = (sound_on rank b own sound).occupied in
      let front : take i ls ≡ take i (side own b) = ap (take i) (own_side m) ∙ take-set (side own b) i (level_after m) in
      let back : drop (i + 1) ls ≡ drop (i + 1) (side own b) = ap (drop (i + 1)) (own_side m) ∙ drop-set-lt (i + 1) (side own b) i (level_after m) (omega arith) in
      kept_one holds ls i d (place_after m) (subst (λ (l : List Level). AllByRecursion (λ l. holds l ≡ true) l) (sym front) (All-take (λ l. holds l ≡ true) i (side own b) full)) (subst (λ (l : List Level). AllByRecursion (λ l. holds l ≡ true) l) (sym back) (All-drop (λ l. holds l ≡ true) (i + 1) (side own b) full))

  -- ## The rows

  -- what is so of each other row
  abbrev Untouched : ℕ → Resting → Type 0
  Untouched m x = (x.quantity ≡ resting x.order.number (take_off number m b)) × (0 < resting x.order.number (take_off number m b))

  untouched : (m : ℕ) (xs : List Resting) → AllByRecursion (λ x. x.quantity ≡ resting x.order.number b) xs → AllByRecursion (λ x. (0 < resting x.order.number b) × (resting x.order.number b ≤ x.order.quantity)) xs → AllByRecursion (λ x. (x.order.number ≡ number → ⊥)) xs → AllByRecursion (Untouched m) xs
  untouched m [] t s a = tt
  untouched m (x ∷ xs) t s a =
      let same : resting x.order.number (take_off number m b) ≡ resting x.order.number b = other_rest b number m x.order.number a.0 in
      ((t.0 ∙ sym same, omega (arith, s.0.0)), untouched m xs t.1 s.1 a.1)

  abbrev all_rest : AllByRecursion (λ x. (0 < resting x.order.number b) × (resting x.order.number b ≤ x.order.quantity)) rows
  all_rest = rows_rest rank b rows is sound

  front_rows : (m : ℕ) → AllByRecursion (Untouched m) (take k rows)
  front_rows m = untouched m (take k rows) (All-take _ k rows tallied) (All-take _ k rows all_rest) row.before

  back_rows : (m : ℕ) → AllByRecursion (Untouched m) (drop (k + 1) rows)
  back_rows m = untouched m (drop (k + 1) rows) (All-drop _ (k + 1) rows tallied) (All-drop _ (k + 1) rows all_rest) row.after

  rests : (m : ℕ) (xs : List Resting) → AllByRecursion (Untouched m) xs → AllByRecursion (λ x. ltb 0 (resting x.order.number (take_off number m b)) ≡ true) xs
  rests m = All-weaker (Untouched m) (λ x. ltb 0 (resting x.order.number (take_off number m b)) ≡ true) (λ x h. lt-ltb 0 (resting x.order.number (take_off number m b)) h.1)

  -- ## A cancel

  pub cancelled_orders : filter (λ e. ltb 0 (resting e.number (take_off number r.quantity b))) (take_off number r.quantity b).orders ≡ map (λ x. x.order) (take k rows ++ drop (k + 1) rows)
  cancelled_orders =
      let m : ℕ = r.quantity in
      let f : Order → Bool = λ e. ltb 0 (resting e.number (take_off number m b)) in
      let gone : resting number (take_off number m b) ≤ 0 = omega (arith, own_rest b number m (omega (arith, row.tells)), row.tells) in
      let no : f (get_or rows k r).order ≡ false = ap (λ x. f x.order) (sym read) ∙ le-ltb 0 (resting number (take_off number m b)) gone in
      ap (filter f) (off_orders number m b ∙ is) ∙ kept_map f (λ x. x.order) rows
      ∙ ap (map (λ x. x.order)) (kept_one (λ x. f x.order) rows k r lt (rests m (take k rows) (front_rows m)) (rests m (drop (k + 1) rows) (back_rows m)) ∙ cond-false _ _ _ no)

  -- the row goes, and so does the level if it is empty
  pub cancelled : (b1 b2 : Book) (os : List Order) → b1 ≡ take_off number r.quantity b → b2 ≡ with_side own (dropped i d (side own b1)) b1 → os ≡ map (λ x. x.order) (take k rows ++ drop (k + 1) rows)
      → with_orders os b2 ≡ tidy (take_off number r.quantity b)
  cancelled b1 b2 os off drop' left =
      let c : Book = take_off number r.quantity b in
      let sides = kept_sides own c (dropped i d (side own c)) (own_kept r.quantity) (other_full r.quantity) in
      ap (λ x. with_orders os x) drop' ∙ ap (λ x. with_orders os (with_side own (dropped i d (side own x)) x)) off ∙ ap (λ x. with_orders x (with_side own (dropped i d (side own c)) c)) left
      ∙ sym (tidy_as c (map (λ x. x.order) (take k rows ++ drop (k + 1) rows)) (pick own (dropped i d (side own c)) c.buys) (pick own c.sells (dropped i d (side own c))) cancelled_orders sides.0 sides.1)

  pub cancelled_tallied : Tallied (take k rows ++ drop (k + 1) rows) (tidy (take_off number r.quantity b))
  cancelled_tallied =
      let c : Book = take_off number r.quantity b in
      All-weaker (Untouched r.quantity) (λ x. x.quantity ≡ resting x.order.number (tidy c)) (λ x h. h.0 ∙ sym (tidy_rest x.order.number c)) (take k rows ++ drop (k + 1) rows)
      (All-append (Untouched r.quantity) (take k rows) (drop (k + 1) rows) (front_rows r.quantity) (back_rows r.quantity))

  -- ## A reduction

  module _ (m : ℕ) (below : m < r.quantity) where
    own_left : resting number (take_off number m b) ≡ r.quantity - m
    own_left = omega (arith, own_rest b number m (omega (arith, row.tells)), row.tells)

    level_full : holds (level_after m) ≡ true
    level_full =
        let c : Book = take_off number m b in
        let here : of_side number (side own c) ≡ of_level number (level_after m) = ap (of_side number) (own_side m) ∙ side_alone b.lot number i (side own b) (level_after m) at.place at.alone in
        let there : of_side number (side (other own) c) ≡ 0 = ap (of_side number) (other_side m) ∙ none_on b.lot number (side (other own) b) at.elsewhere in
        ⊎_elim (λ e. e) (λ e. (let none : ⊥ = omega (arith, holds_of number (level_after m) e, rest_on number c own, own_left) in absurd none)) (cases_Bool (holds (level_after m)))

    abbrev rows_after : List Resting
    rows_after = set rows k (less r m)

    rows_untouched : AllByRecursion (Untouched m) rows_after
    rows_untouched =
        let next : k + 1 ≡ suc k = omega arith in
        let own_row : Untouched m (less r m) = (sym own_left, omega (arith, own_left)) in
        subst (λ (l : List Resting). AllByRecursion (Untouched m) l) (sym (set_split rows k (less r m) lt)) (All-append (Untouched m) (take k rows) (less r m ∷ drop (suc k) rows) (front_rows m) (own_row, subst (λ n. AllByRecursion (Untouched m) (drop n rows)) next (back_rows m)))

    pub reduced_orders : map (λ x. x.order) rows_after ≡ map (λ x. x.order) rows
    reduced_orders = map_same_set (λ x. x.order) rows k (less r m) r (ap (λ x. x.order) read)

    -- nothing else changes
    pub reduced_still : tidy (take_off number m b) ≡ take_off number m b
    reduced_still =
        let c : Book = take_off number m b in
        let own_full : AllByRecursion (λ l. holds l ≡ true) (side own c) = subst (λ (l : List Level). AllByRecursion (λ l. holds l ≡ true) l) (sym (own_side m)) (All-set (λ l. holds l ≡ true) (side own b) i (level_after m) level_full (sound_on rank b own sound).occupied) in
        let full = both_sides own c (λ l. holds l ≡ true) own_full (other_full m) in
        let each : AllByRecursion (λ x. 0 < resting x.order.number c) rows_after = All-weaker (Untouched m) (λ x. 0 < resting x.order.number c) (λ x h. h.1) rows_after rows_untouched in
        tidy_still c full.0 full.1 (subst (λ (es : List Order). AllByRecursion (λ e. 0 < resting e.number c) es) (reduced_orders ∙ sym is ∙ sym (off_orders number m b)) (map_all rows_after each))
      where
        map_all : (xs : List Resting) → AllByRecursion (λ x. 0 < resting x.order.number (take_off number m b)) xs → AllByRecursion (λ e. 0 < resting e.number (take_off number m b)) (map (λ x. x.order) xs)
        map_all [] a = tt
        map_all (x ∷ xs) a = (a.0, map_all xs a.1)

    pub reduced : (b1 : Book) (os : List Order) → b1 ≡ take_off number m b → os ≡ map (λ x. x.order) rows_after → with_orders os b1 ≡ tidy (take_off number m b)
    reduced b1 os off left =
        let c : Book = take_off number m b in
        ap (λ x. with_orders os x) off ∙ ap (λ x. with_orders x c) (left ∙ reduced_orders ∙ sym is ∙ sym (off_orders number m b)) ∙ sym reduced_still

    pub reduced_tallied : Tallied rows_after (tidy (take_off number m b))
    reduced_tallied =
        let c : Book = take_off number m b in
        All-weaker (Untouched m) (λ x. x.quantity ≡ resting x.order.number (tidy c)) (λ x h. h.0 ∙ sym (tidy_rest x.order.number c)) rows_after rows_untouched
