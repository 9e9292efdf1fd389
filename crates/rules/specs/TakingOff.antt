-- Taking shares off an order: from its hidden part, then the later shown part, then the earlier. Assumes nothing.
use Rattle.std.specs.Prelude.{ℕ, ◌-◌, List, [], ◌∷◌, ◌++◌, reverse, length, take, drop}
use Rattle.allocation.specs.ByTime.{shares_in_order}
use Rattle.rules.specs.Books.{Level, Book, level, with_sides}
use Rattle.rules.specs.Quantities.{pieces, of_level, of_side}
use Rattle.rules.specs.Changes.{lose}

-- m shares off the order n at one price
unfoldable pub take_off_level : ℕ → ℕ → Level → Level
take_off_level n m l =
    let h : List ℕ = pieces n l.hidden.parts in
    let s : List ℕ = pieces n l.shown.parts in
    let xs : List ℕ = shares_in_order m (h ++ reverse s) in
    level l.price (lose (reverse (drop (length h) xs)) l.shown) (lose (take (length h) xs) l.hidden)

-- m shares off the order n on one side
unfoldable pub take_off_side : ℕ → ℕ → List Level → List Level
take_off_side n m [] = []
take_off_side n m (l ∷ ls) = take_off_level n m l ∷ take_off_side n (m - of_level n l) ls

-- m shares off the order n
unfoldable pub take_off : ℕ → ℕ → Book → Book
take_off n m b = with_sides (take_off_side n m b.buys) (take_off_side n (m - of_side n b.buys) b.sells) b
