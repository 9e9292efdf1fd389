-- An order that rests at one price of a side alone. Assumes nothing.
use Rattle.std.specs.Prelude.{◌≡◌, ℕ, ◌+◌, List, take, drop}
use Rattle.std.specs.List.{AllByRecursion}
use Rattle.rules.specs.Books.{Level}
use Rattle.rules.specs.Quantities.{of_level}
use Rattle.rules.specs.Invariants.{SoundQueue}

-- a level whose queues are settled, and that has nothing of the order n
pub record Without (lot n : ℕ) (l : Level) : Type 0 where
  pub shown : SoundQueue lot l.shown
  pub hidden : SoundQueue lot l.hidden
  pub none : of_level n l ≡ 0

-- no level but the one at i has something of the order n
pub record Alone (lot n i : ℕ) (ls : List Level) : Type 0 where
  pub before : AllByRecursion (Without lot n) (take i ls)
  pub after : AllByRecursion (Without lot n) (drop (i + 1) ls)
