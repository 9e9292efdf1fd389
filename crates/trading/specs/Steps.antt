-- One step at a price, by itself. Assumes nothing.
use Rattle.std.specs.Prelude.{ℕ, Bool, true, not, List, nat_le, slice_index_or}
use Rattle.allocation.specs.Wheels.{Wheel}
use Rattle.allocation.specs.Dealings.{Deal, Dealt}
use Rattle.rules.specs.Lists.{sum_of}
use Rattle.rules.specs.Books.{Level, queue, nothing_at}
use Rattle.rules.specs.Quantities.{claims}
use Rattle.rules.specs.Changes.{lowered}
use Rattle.rules.specs.Trading.{queue_of, with_queue, setter_shares, step_shares, rows_of}
use Rattle.rules.specs.Rules.{empty}
use Rattle.rules.specs.declared.orders.Part.{Part}
use Rattle.rules.specs.declared.answers.Row.{Row}
use Rattle.rules.specs.declared.phases.Step.{Step}
use Rattle.rules.specs.declared.phases.Step.TheVariants.{Setter, Displayed, Hidden}

-- the level after a step
abbrev pub step_rest : Deal → ℕ → ℕ → Step → Level → Level
step_rest deal lot q s l = with_queue s (queue (lowered (queue_of s l).parts (step_shares deal lot q s l).shares) (step_shares deal lot q s l).wheel) l

-- the rows of a step
abbrev pub step_rows : Deal → ℕ → ℕ → ℕ → Step → Level → List Row
step_rows deal lot arriving q s l = rows_of s arriving l.price (queue_of s l).parts (step_shares deal lot q s l).shares

-- whether a step has something to deal to: the setter step if it is taken, the others if there are parts
abbrev pub opens : ℕ → Step → List Part → Bool
opens lot Setter ps = nat_le lot (sum_of (λ p. p.quantity) ps)
opens lot Displayed ps = not (empty ps)
opens lot Hidden ps = not (empty ps)

-- what it then deals
abbrev pub part_shares : Deal → ℕ → ℕ → Step → Wheel → List Part → Dealt
part_shares deal lot q Setter w ps = setter_shares true q (queue ps w)
part_shares deal lot q Displayed w ps = deal q w lot (claims ps)
part_shares deal lot q Hidden w ps = deal q w lot (claims ps)

abbrev pub open_shares : Deal → ℕ → ℕ → Step → Level → Dealt
open_shares deal lot q s l = part_shares deal lot q s (queue_of s l).wheel (queue_of s l).parts

-- the level and the rows after such a step
abbrev pub open_rest : Deal → ℕ → ℕ → Step → Level → Level
open_rest deal lot q s l = with_queue s (queue (lowered (queue_of s l).parts (open_shares deal lot q s l).shares) (open_shares deal lot q s l).wheel) l

abbrev pub open_rows : Deal → ℕ → ℕ → ℕ → Step → Level → List Row
open_rows deal lot arriving q s l = rows_of s arriving l.price (queue_of s l).parts (open_shares deal lot q s l).shares

-- the level at a place
abbrev pub at_place : List Level → ℕ → Level
at_place ls i = slice_index_or ls i (nothing_at 0)
