-- A table that tells what rests, tidied. Assumes nothing.
use Rattle.std.proofs.Common.{◌≡◌, Bool, true, false, cond, ltb, List, [], ◌∷◌, map, filter, sym, refl, ap, ◌∙◌}
use Rattle.std.proofs.ByRecursion.{all_kept_by, All-weaker}
use Rattle.rules.specs.declared.orders.Order.{Order}
use Rattle.rules.specs.Books.{Book, Level, with_sides, with_orders}
use Rattle.rules.specs.Quantities.{resting}
use Rattle.rules.specs.Rules.{tidy, holds}
use Rattle.rules.proofs.Effects.{tidy_rest}
use Rattle.orders.specs.declared.tables.Resting.{Resting}
use Rattle.memory.specs.States.{Tallied}

-- the rows of which something rests are those whose order rests
pub orders_kept : (rows : List Resting) (b : Book) → Tallied rows b → map (λ r. r.order) (filter (λ r. ltb 0 r.quantity) rows) ≡ filter (λ e. ltb 0 (resting e.number b)) (map (λ r. r.order) rows)
orders_kept [] b t = refl
orders_kept (r ∷ rows) b t = go (ltb 0 r.quantity) (orders_kept rows b t.1) ∙ ap (λ u. cond u (r.order ∷ filter (λ e. ltb 0 (resting e.number b)) (map (λ r. r.order) rows)) (filter (λ e. ltb 0 (resting e.number b)) (map (λ r. r.order) rows))) (ap (ltb 0) t.0)
  where
    go : (u : Bool) → map (λ r. r.order) (filter (λ r. ltb 0 r.quantity) rows) ≡ filter (λ e. ltb 0 (resting e.number b)) (map (λ r. r.order) rows)
        → map (λ r. r.order) (cond u (r ∷ filter (λ r. ltb 0 r.quantity) rows) (filter (λ r. ltb 0 r.quantity) rows))
        ≡ cond u (r.order ∷ filter (λ e. ltb 0 (resting e.number b)) (map (λ r. r.order) rows)) (filter (λ e. ltb 0 (resting e.number b)) (map (λ r. r.order) rows))
    go true h = ap (λ os. r.order ∷ os) h
    go false h = h

-- a book without empty levels, and without the orders of which nothing rests
pub tidy_of : (b : Book) (os : List Order) (bs ss : List Level) → os ≡ filter (λ e. ltb 0 (resting e.number b)) b.orders → bs ≡ filter holds b.buys → ss ≡ filter holds b.sells → with_sides bs ss (with_orders os b) ≡ tidy b
unfolding tidy
tidy_of b os bs ss o x y = ap (λ os. with_sides bs ss (with_orders os b)) o ∙ ap (λ bs. with_sides bs ss (with_orders (filter (λ e. ltb 0 (resting e.number b)) b.orders) b)) x ∙ ap (λ ss. with_sides (filter holds b.buys) ss (with_orders (filter (λ e. ltb 0 (resting e.number b)) b.orders) b)) y

-- the rows that are kept still tell what rests
pub tallied_kept : (rows : List Resting) (b : Book) → Tallied rows b → Tallied (filter (λ r. ltb 0 r.quantity) rows) (tidy b)
tallied_kept rows b t =
    all_kept_by (λ r. ltb 0 r.quantity) (λ r. r.quantity ≡ resting r.order.number (tidy b)) rows
    (All-weaker (λ r. r.quantity ≡ resting r.order.number b) (λ r. r.quantity ≡ resting r.order.number (tidy b)) (λ r h. h ∙ sym (tidy_rest r.order.number b)) rows t)
