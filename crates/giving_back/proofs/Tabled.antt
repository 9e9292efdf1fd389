-- What the rows of the order table say of a sound book. Assumes nothing.
use Rattle.std.proofs.Common.{◌≡◌, ℕ, ◌+◌, ◌<◌, ◌≤◌, false, not, ◌&&◌, eqb, leb, None, List, [], ◌∷◌, map, length, get_or, take, drop, sym, refl, ap, subst, arith}
use Rattle.std.specs.List.{AllByRecursion, position}
use Rattle.std.proofs.lemmas.Bool.{and_parts, not-false, leb-true}
use Rattle.std.proofs.ByRecursion.{All-weaker, All-get_or, All-map}
use Rattle.rules.specs.declared.orders.Order.{Order}
use Rattle.rules.specs.Lists.{Distinct}
use Rattle.rules.specs.Books.{Ranking, Book}
use Rattle.rules.specs.Quantities.{resting}
use Rattle.rules.specs.Invariants.{Admitted, numbers, SoundBook}
use Rattle.arrays.proofs.Found.{nowhere}
use Rattle.rules.proofs.Members.{all_both}
use Rattle.rules.proofs.Listing.{Unique, unique_each}
use Rattle.rules.proofs.Numbering.{rising_distinct}
use Rattle.orders.specs.declared.tables.Resting.{Resting}
use Rattle.memory.specs.States.{Tallied}
use Rattle.giving_back.proofs.Keeping.{all_unmap, apart_before, apart_after}
use Rattle.giving_back.proofs.Found.{unlisted_rests}

-- a row of the table: its order is the one of its number, some of it rests, and the row tells how much
pub record Known (b : Book) (rows : List Resting) (k : ℕ) (r : Resting) : Type 0 where
  pub unique : Unique b.orders r.order
  pub tells : r.quantity ≡ resting r.order.number b
  pub some : 0 < resting r.order.number b
  pub before : AllByRecursion (λ x. (x.order.number ≡ r.order.number → ⊥)) (take k rows)
  pub after : AllByRecursion (λ x. (x.order.number ≡ r.order.number → ⊥)) (drop (k + 1) rows)

distinct_rows : (rows : List Resting) → Distinct (numbers (map (λ r. r.order) rows)) → Distinct (map (λ r. r.order.number) rows)
distinct_rows rows = subst (λ (l : List ℕ). Distinct l) (both rows)
  where
    both : (rows : List Resting) → numbers (map (λ r. r.order) rows) ≡ map (λ r. r.order.number) rows
    both [] = refl
    both (r ∷ rows) = ap (λ l. r.order.number ∷ l) (both rows)

module _ (rank : Ranking) (b : Book) (rows : List Resting) (is : b.orders ≡ map (λ r. r.order) rows) (s : SoundBook rank b) where
  once : Distinct (numbers b.orders)
  once = rising_distinct b.last (numbers b.orders) s.rising

  pub rows_rest : AllByRecursion (λ r. (0 < resting r.order.number b) × (resting r.order.number b ≤ r.order.quantity)) rows
  rows_rest = all_unmap (λ e. (0 < resting e.number b) × (resting e.number b ≤ e.quantity)) (λ r. r.order) rows (subst (λ (es : List Order). AllByRecursion (λ e. (0 < resting e.number b) × (resting e.number b ≤ e.quantity)) es) is s.resting)

  pub rows_admitted : AllByRecursion (λ r. Admitted b.lot r.order) rows
  rows_admitted = all_unmap (Admitted b.lot) (λ r. r.order) rows (subst (λ (es : List Order). AllByRecursion (Admitted b.lot) es) is s.admitted)

  rows_unique : AllByRecursion (λ r. Unique b.orders r.order) rows
  rows_unique = all_unmap (Unique b.orders) (λ r. r.order) rows (subst (λ (es : List Order). AllByRecursion (Unique b.orders) es) is (unique_each b.orders once))

  pub known : Tallied rows b → (k : ℕ) (r : Resting) → k < length rows → r ≡ get_or rows k r → Known b rows k r
  known t k r lt read =
      let apart : Distinct (map (λ r. r.order.number) rows) = distinct_rows rows (subst (λ (es : List Order). Distinct (numbers es)) is once) in
      let there : Known b rows k (get_or rows k r) =
      record {
        unique = All-get_or (λ r. Unique b.orders r.order) rows k r lt rows_unique;
        tells = All-get_or (λ r. r.quantity ≡ resting r.order.number b) rows k r lt t;
        some = (All-get_or (λ r. (0 < resting r.order.number b) × (resting r.order.number b ≤ r.order.quantity)) rows k r lt rows_rest).0;
        before = apart_before (λ r. r.order.number) rows k r apart lt;
        after = apart_after (λ r. r.order.number) rows k r apart lt;
      } in
      subst (λ x. Known b rows k x) (sym read) there

  -- a number that no row has does not rest
  pub untabled_rests : (n : ℕ) → position (λ r. eqb r.order.number n) rows ≡ None → resting n b ≡ 0
  untabled_rests n none =
      unlisted_rests rank b n s (subst (λ (es : List Order). AllByRecursion (λ e. (e.number ≡ n → ⊥)) es) (sym is) (All-map (λ e. (e.number ≡ n → ⊥)) (λ r. r.order) rows (nowhere (λ r. r.order.number) n rows none)))

  -- no row tells of more shares than an order can have
  pub rows_small : Tallied rows b → AllByRecursion (λ r. r.quantity ≤ 500000) rows
  rows_small t =
      All-weaker (λ r. (r.quantity ≡ resting r.order.number b) × (((0 < resting r.order.number b) × (resting r.order.number b ≤ r.order.quantity)) × Admitted b.lot r.order)) (λ r. r.quantity ≤ 500000)
      (λ r h. omega (arith, h.0, h.1.0.1, most r.order.quantity h.1.1.quantity)) rows
      (all_both (λ r. r.quantity ≡ resting r.order.number b) (λ r. ((0 < resting r.order.number b) × (resting r.order.number b ≤ r.order.quantity)) × Admitted b.lot r.order) rows t
      (all_both (λ r. (0 < resting r.order.number b) × (resting r.order.number b ≤ r.order.quantity)) (λ r. Admitted b.lot r.order) rows rows_rest rows_admitted))
    where
      most : (n : ℕ) → not (leb 1 n && leb n 500000) ≡ false → n ≤ 500000
      most n h = leb-true n 500000 (and_parts (leb 1 n) (leb n 500000) (not-false (leb 1 n && leb n 500000) h)).1
