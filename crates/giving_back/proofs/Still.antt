-- A book that tidying leaves as it is. Assumes nothing.
use Rattle.std.proofs.Common.{◌≡◌, ◌<◌, true, ltb, List, filter, ap, ◌∙◌}
use Rattle.std.specs.List.{AllByRecursion}
use Rattle.std.proofs.lemmas.Bool.{lt-ltb}
use Rattle.std.proofs.ByRecursion.{All-weaker}
use Rattle.rules.specs.declared.orders.Order.{Order}
use Rattle.rules.specs.Books.{Level, Book, with_sides, with_orders}
use Rattle.rules.specs.Quantities.{resting}
use Rattle.rules.specs.Rules.{holds, tidy}
use Rattle.giving_back.proofs.Keeping.{kept_all}

-- a tidied book, by the orders and levels that are kept
pub tidy_as : (b : Book) (os : List Order) (bs ss : List Level) → filter (λ e. ltb 0 (resting e.number b)) b.orders ≡ os → filter holds b.buys ≡ bs → filter holds b.sells ≡ ss → tidy b ≡ with_orders os (with_sides bs ss b)
unfolding tidy
tidy_as b os bs ss o x y =
    ap (λ l. with_orders l (with_sides (filter holds b.buys) (filter holds b.sells) b)) o
    ∙ ap (λ l. with_orders os (with_sides l (filter holds b.sells) b)) x
    ∙ ap (λ l. with_orders os (with_sides bs l b)) y

-- every level has a part, and every order rests
pub tidy_still : (b : Book) → AllByRecursion (λ l. holds l ≡ true) b.buys → AllByRecursion (λ l. holds l ≡ true) b.sells → AllByRecursion (λ e. 0 < resting e.number b) b.orders → tidy b ≡ b
tidy_still b bs ss os =
    tidy_as b b.orders b.buys b.sells
    (kept_all (λ e. ltb 0 (resting e.number b)) b.orders (All-weaker (λ e. 0 < resting e.number b) (λ e. ltb 0 (resting e.number b) ≡ true) (λ e h. lt-ltb 0 (resting e.number b) h) b.orders os))
    (kept_all holds b.buys bs) (kept_all holds b.sells ss)
