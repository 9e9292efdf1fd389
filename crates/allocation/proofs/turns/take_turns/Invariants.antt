use Rattle.std.proofs.Common.{◌≡◌, ℕ, ◌+◌, ◌-◌, ◌*◌}
use Rattle.allocation.specs.Turns.{turns}
use Rattle.allocation.specs.Dealings.{Seated}
use Rattle.allocation.specs.Amounts.{amounts}
use Rattle.allocation.specs.Memory.{wheel_of, stage_of}
use Rattle.allocation.proofs.turns.take_turns.Given as goal

-- the wheel seats those with interest, the dealing ends from here as from its start, and nothing is lost
abbrev pub invariant-loop-left : goal.invariant-loop-left
invariant-loop-left l =
    Seated l.lot (wheel_of l.wheel) (amounts l.tables.interests)
    × (turns l.lot l.left (stage_of l.wheel l.tables.interests l.left) ≡ turns l.lot l.quantity (stage_of l.initial.wheel l.initial.tables.interests l.quantity))
    × ((p : ℕ) → amounts l.tables.taken p + amounts l.tables.interests p ≡ amounts l.initial.tables.interests p)

abbrev pub decreases-loop-left : goal.decreases-loop-left
decreases-loop-left l = 2 * l.left + (1 - l.wait)
