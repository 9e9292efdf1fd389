-- An enter, by its trades and by what becomes of the remainder. Assumes nothing.
use Rattle.std.proofs.Common.{◌≡◌, ℕ, ◌-◌, Bool, true, false, eqb, List, [], ◌∷◌, ◌++◌, map, sym, refl, ap, ◌∙◌, append-nil, arith}
use Rattle.std.specs.List.{AllByRecursion}
use Rattle.std.proofs.ByRecursion.{All-push, All-weaker}
use Rattle.std.proofs.lemmas.Bool.{eq-eqb, ne_eqb}
use Rattle.allocation.specs.Dealings.{Deal}
use Rattle.rules.specs.declared.orders.Order.{Order}
use Rattle.rules.specs.declared.phases.Phase.{Phase}
use Rattle.rules.specs.declared.answers.Row.{Row}
use Rattle.rules.specs.Books.{Ranking, Book, with_phase}
use Rattle.rules.specs.Quantities.{resting}
use Rattle.rules.specs.Refusals.{rests}
use Rattle.rules.specs.Trading.{Traded}
use Rattle.rules.specs.declared.answers.Row.TheVariants.{GivenBack}
use Rattle.rules.specs.Entering.{done, trade, arrived, not_placed, finished, enter, place, with_order}
use Rattle.rules.specs.Rules.{tidy}
use Rattle.rules.proofs.Fits.{place_rest}
use Rattle.orders.specs.declared.tables.Resting.{Resting}
use Rattle.memory.specs.States.{Tallied}
use Rattle.entering.specs.Remainders.{ended}
use Rattle.entering.proofs.Still.{trade_still, not_placed_still, finished_phase, same_phase}

-- ## Rows apart

module _ (rank : Ranking) (e : Order) (n : ℕ) (rs : List Row) (b : Book) where
  finished_answer : (t u : Bool) → (finished t u rank e n rs b).answer ≡ (finished t u rank e n [] b).answer
  finished_answer true u = refl
  finished_answer false true = refl
  finished_answer false false = refl

  finished_rows : (t u : Bool) → (finished t u rank e n rs b).rows ≡ rs ++ (finished t u rank e n [] b).rows
  finished_rows true u = sym (append-nil rs)
  finished_rows false true = refl
  finished_rows false false = sym (append-nil rs)

  finished_book : (t u : Bool) → (finished t u rank e n rs b).book ≡ (finished t u rank e n [] b).book
  finished_book true u = refl
  finished_book false true = refl
  finished_book false false = refl

module _ (rank : Ranking) (deal : Deal) (e : Order) (b : Book) where
  traded_by : Traded Book
  traded_by = trade rank deal e (arrived e b)

  judged_after : not_placed rank b e ≡ not_placed rank traded_by.rest e
  unfolding traded_by
  judged_after = sym (not_placed_still rank e b traded_by.rest (trade_still rank deal e b))

  pub enter_answer : (let r : Traded Book = trade rank deal e (arrived e b) in (enter rank deal e b).answer ≡ (ended rank e r.left r.rest).answer)
  unfolding enter traded_by
  enter_answer =
      let r : Traded Book = trade rank deal e (arrived e b) in
      finished_answer rank e r.left r.rows r.rest (eqb r.left 0) (not_placed rank b e) ∙ ap (λ u. (finished (eqb r.left 0) u rank e r.left [] r.rest).answer) judged_after

  pub enter_rows : (let r : Traded Book = trade rank deal e (arrived e b) in (enter rank deal e b).rows ≡ r.rows ++ (ended rank e r.left r.rest).rows)
  unfolding enter traded_by
  enter_rows =
      let r : Traded Book = trade rank deal e (arrived e b) in
      finished_rows rank e r.left r.rows r.rest (eqb r.left 0) (not_placed rank b e) ∙ ap (λ u. r.rows ++ (finished (eqb r.left 0) u rank e r.left [] r.rest).rows) judged_after

  pub enter_book : (let r : Traded Book = trade rank deal e (arrived e b) in (enter rank deal e b).book ≡ (ended rank e r.left r.rest).book)
  unfolding enter traded_by
  enter_book =
      let r : Traded Book = trade rank deal e (arrived e b) in
      finished_book rank e r.left r.rows r.rest (eqb r.left 0) (not_placed rank b e) ∙ ap (λ u. (finished (eqb r.left 0) u rank e r.left [] r.rest).book) judged_after

  -- the book of an open market stays open
  pub settled_book : b.phase ≡ Phase.Open → (let r : Traded Book = trade rank deal e (arrived e b) in tidy (with_phase Phase.Open (enter rank deal e b).book) ≡ tidy (ended rank e r.left r.rest).book)
  settled_book is-so =
      let r : Traded Book = trade rank deal e (arrived e b) in
      ap (λ x. tidy (with_phase Phase.Open x)) enter_book
      ∙ ap tidy (same_phase Phase.Open (ended rank e r.left r.rest).book (finished_phase (eqb r.left 0) (not_placed rank r.rest e) rank e r.left r.rest ∙ (trade_still rank deal e b).phase ∙ is-so))

-- ## What becomes of the remainder

module _ (rank : Ranking) (e : Order) (n : ℕ) (b : Book) where
  pub ended_none : n ≡ 0 → ended rank e n b ≡ done (e.quantity - n) 0 [] b
  ended_none z = ap (λ t. finished t (not_placed rank b e) rank e n [] b) (eq-eqb n 0 z)

  pub ended_back : (n ≡ 0 → ⊥) → not_placed rank b e ≡ true → ended rank e n b ≡ done (e.quantity - n) n (GivenBack e.number n ∷ []) b
  ended_back some np = ap (λ t. finished t (not_placed rank b e) rank e n [] b) (ne_eqb n 0 some) ∙ ap (λ u. finished false u rank e n [] b) np

  pub ended_placed : (n ≡ 0 → ⊥) → not_placed rank b e ≡ false → ended rank e n b ≡ done (e.quantity - n) 0 [] (with_order e (place rank e.kind e n b))
  ended_placed some np = ap (λ t. finished t (not_placed rank b e) rank e n [] b) (ne_eqb n 0 some) ∙ ap (λ u. finished false u rank e n [] b) np

-- ## The table

listed_rows : (P : Order → Type 0) (rows : List Resting) → AllByRecursion P (map (λ (r : Resting). r.order) rows) → AllByRecursion (λ (r : Resting). P r.order) rows
listed_rows P [] h = tt
listed_rows P (r ∷ rows) h = (h.0, listed_rows P rows h.1)

both_rows : (P Q : Resting → Type 0) (rows : List Resting) → AllByRecursion P rows → AllByRecursion Q rows → AllByRecursion (λ r. P r × Q r) rows
both_rows P Q [] p q = tt
both_rows P Q (r ∷ rows) p q = ((p.0, q.0), both_rows P Q rows p.1 q.1)

-- the table with the new order tells what rests
pub tallied_placed : (rank : Ranking) (e : Order) (n : ℕ) (rows : List Resting) (b : Book) → rests e.kind ≡ true → resting e.number b ≡ 0 → AllByRecursion (λ o. eqb e.number o.number ≡ false) (map (λ (r : Resting). r.order) rows) → Tallied rows b
    → Tallied (rows ++ (record { order = e; quantity = n } ∷ [])) (with_order e (place rank e.kind e n b))
tallied_placed rank e n rows b r absent new t =
    All-push (λ x. x.quantity ≡ resting x.order.number (place rank e.kind e n b)) rows (record { order = e; quantity = n })
    (All-weaker (λ x. (eqb e.number x.order.number ≡ false) × (x.quantity ≡ resting x.order.number b)) (λ x. x.quantity ≡ resting x.order.number (place rank e.kind e n b))
    (λ x h. (let p = rw h.0 at (place_rest rank e.kind e n x.order.number b r) in omega (arith, h.1, p)))
    rows (both_rows (λ x. eqb e.number x.order.number ≡ false) (λ x. x.quantity ≡ resting x.order.number b) rows (listed_rows (λ o. eqb e.number o.number ≡ false) rows new) t))
    (let p = rw (eq-eqb e.number e.number refl) at (place_rest rank e.kind e n e.number b r) in omega (arith, absent, p))
