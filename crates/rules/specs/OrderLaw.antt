-- Order: better parts in reach go first, wholly. Assumes nothing.
use Rattle.std.specs.Prelude.{◌≡◌, ℕ, ◌<◌, ◌≤◌, Bool, true, false, cond, not, ◌&&◌, ◌⊎◌, List, [], ◌∷◌, ◌++◌, map, filter, ◌==◌}
use Rattle.std.specs.List.{AllByRecursion}
use Rattle.allocation.specs.Dealings.{Deal}
use Rattle.rules.specs.declared.orders.Side.{Side}
use Rattle.rules.specs.declared.orders.Order.{Order}
use Rattle.rules.specs.declared.orders.Part.{Part}
use Rattle.rules.specs.declared.phases.Step.{Step}
use Rattle.rules.specs.declared.answers.Row.{Row}
use Rattle.rules.specs.declared.answers.Row.TheVariants.{Trade, GivenBack}
use Rattle.rules.specs.Lists.{sum_of}
use Rattle.rules.specs.Books.{Level, Ranking, Book, better, other, side}
use Rattle.rules.specs.Trading.{taken, in_reach}
use Rattle.rules.specs.Entering.{Outcome}
use Rattle.rules.specs.Rules.{new_with}
use Rattle.rules.specs.Runs.{Ask, run, Entered}
use Rattle.rules.specs.Tables.{place_of, has_step, GoodTable}

-- a part in reach of an arrival, with its step, and what the rows of the enter trade of it
pub record Reached : Type 0 where
  pub price : ℕ
  pub step : Step
  pub order : ℕ
  pub size : ℕ
  pub share : ℕ

-- a part in reach
abbrev pub reached_part : ℕ → Step → ℕ → ℕ → ℕ → Reached
reached_part v s n size share = record { price = v; step = s; order = n; size = size; share = share }

-- a better price, or the same price and an earlier step
abbrev pub Better : Ranking → Side → List Step → Reached → Reached → Type 0
Better rank s table x y = (better rank s x.price y.price ≡ true) ⊎ ((x.price ≡ y.price) × (place_of table x.step < place_of table y.step))

-- The parts of a step at a price. A part's step is the setter step if it is marked and that step is taken there, else the one of its category.
-- t: whether the setter step is in the table.
abbrev pub of_step : Bool → ℕ → Step → Level → List Part
of_step t lot Step.Setter l = cond (t && taken lot l) (filter (λ p. p.marked) l.shown.parts) []
of_step t lot Step.Displayed l = cond (t && taken lot l) (filter (λ p. not p.marked) l.shown.parts) l.shown.parts
of_step t lot Step.Hidden l = l.hidden.parts

-- parts of a step before they trade
abbrev pub untraded : ℕ → Step → List Part → List Reached
untraded v s = map (λ p. reached_part v s p.order p.quantity 0)

-- the parts of a price, step by step
abbrev pub at_level : Bool → ℕ → List Step → Level → List Reached
at_level t lot [] l = []
at_level t lot (s ∷ ss) l = untraded l.price s (of_step t lot s l) ++ at_level t lot ss l

-- price by price
abbrev pub at_levels : ℕ → List Step → List Level → List Reached
at_levels lot ss [] = []
at_levels lot ss (l ∷ ls) = at_level (has_step Step.Setter ss) lot ss l ++ at_levels lot ss ls

-- the opposite parts that rest before the enter at prices that it reaches, by price, step and working time
abbrev pub all_in_reach : Ranking → Book → Order → List Reached
all_in_reach rank b e = at_levels b.lot b.steps (filter (λ l. in_reach rank b e l.price) (side (other e.side) b))

-- the same part, before it traded
abbrev pub forget : Reached → Reached
forget x = reached_part x.price x.step x.order x.size 0

-- each part that traded has one row
abbrev pub rows_for : ℕ → List Reached → List Row
rows_for a [] = []
rows_for a (x ∷ xs) = cond (x.share == 0) (rows_for a xs) (Trade x.step x.order a x.price x.share ∷ rows_for a xs)

-- whether a row is a trade
abbrev pub is_trade : Row → Bool
is_trade (Trade s r a v q) = true
is_trade (GivenBack n q) = false

-- The parts in reach have shares such that the rows are exactly those that are not 0, no share exceeds its part,
-- a part gets a share only where every better part is gone, and something is left over only where all are gone.
pub record InOrder (rank : Ranking) (b : Book) (e : Order) (d : Outcome) : Type 0 where
  pub reached : List Reached
  pub all_reached : map forget reached ≡ all_in_reach rank b e
  pub rows : filter is_trade d.rows ≡ rows_for e.number reached
  pub within : AllByRecursion (λ x. x.share ≤ x.size) reached
  pub best_first : AllByRecursion (λ y. AllByRecursion (λ x. Better rank (other e.side) b.steps x y → 0 < y.share → x.share ≡ x.size) reached) reached
  pub left_over : sum_of (λ x. x.share) reached < e.quantity → AllByRecursion (λ x. x.share ≡ x.size) reached

-- for each order that a run from a new book accepts
abbrev pub TradesInOrder : Ranking → Deal → Type 0
TradesInOrder rank deal =
    (lot : ℕ) → 0 < lot → (table : List Step) → GoodTable table → (asks : List Ask) →
    AllByRecursion (λ v. (e : Order) → Entered v e → InOrder rank v.before e v.did) (run rank deal (new_with lot table) asks)
