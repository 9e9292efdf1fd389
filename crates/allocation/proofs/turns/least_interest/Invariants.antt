use Rattle.std.proofs.Common.{ℕ, ◌<◌, ◌≤◌, take}
use Rattle.allocation.specs.Wheels.{seats_of}
use Rattle.allocation.specs.Amounts.{amounts}
use Rattle.allocation.proofs.turns.least_interest.Given as goal

-- nobody of those met has less
abbrev pub invariant-loop-seat : goal.invariant-loop-seat
invariant-loop-seat l = (k : ℕ) → 0 < seats_of k (take l.seat-index l.seats) → l.least ≤ amounts l.interests k
