-- What becomes of what is left of an order. Assumes nothing.
use Rattle.std.specs.Prelude.{◌≡◌, ℕ, ◌+◌, ◌<◌, ◌≤◌, true, false, [], length, ◌==◌}
use Rattle.std.specs.List.{AllByRecursion}
use Rattle.rules.specs.declared.orders.Order.{Order}
use Rattle.rules.specs.Books.{Ranking, Book, side}
use Rattle.rules.specs.Quantities.{resting}
use Rattle.rules.specs.Refusals.{rests}
use Rattle.rules.specs.Entering.{Outcome, finished, not_placed}
use Rattle.levels.specs.Heads.{count}

-- the end of an enter with n shares left: what it answers, the row that it adds, and the book
abbrev pub ended : Ranking → Order → ℕ → Book → Outcome
ended rank e n b = finished (n == 0) (not_placed rank b e) rank e n [] b

-- a book that an order has traded with: nothing of the order rests, and there is room for what is left of it
pub record Ready (e : Order) (n : ℕ) (b : Book) : Type 0 where
  pub known : (0 < e.participant) × (e.participant < 25)
  pub small : e.quantity ≤ 500000
  pub left : n ≤ e.quantity
  pub unlisted : AllByRecursion (λ o. (e.number == o.number) ≡ false) b.orders
  pub absent : resting e.number b ≡ 0
  pub table : rests e.kind ≡ true → length b.orders < 128
  pub parts : rests e.kind ≡ true → count (side e.side b) + 2 ≤ 384
  pub prices : rests e.kind ≡ true → length (side e.side b) < 385
