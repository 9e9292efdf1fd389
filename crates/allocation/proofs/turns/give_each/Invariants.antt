use Rattle.std.proofs.Common.{◌≡◌, ℕ, ◌+◌, ◌-◌, ◌*◌, take}
use Rattle.allocation.specs.Wheels.{seats_of}
use Rattle.allocation.specs.Amounts.{amounts}
use Rattle.allocation.proofs.turns.give_each.Given as goal

-- those met have given n, and what they had stands in one table or the other
abbrev pub invariant-loop-seat : goal.invariant-loop-seat
invariant-loop-seat l =
    ((p : ℕ) → amounts l.tables.interests p ≡ amounts l.initial.tables.interests p - l.n * seats_of p (take l.seat-index l.seats))
    × ((p : ℕ) → amounts l.tables.taken p + amounts l.tables.interests p ≡ amounts l.initial.tables.taken p + amounts l.initial.tables.interests p)
