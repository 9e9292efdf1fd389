use Rattle.std.proofs.Common.{◌≡◌, ◌++◌, length, take, drop}
use Rattle.arrays.specs.Items.{items}
use Rattle.allocation.specs.Dealings.{claims_left}
use Rattle.wheel_demo.proofs.queues.dealing.reduce.Given as goal

abbrev pub invariant-loop-i : goal.invariant-loop-i
invariant-loop-i l =
    (length (items l.claims) ≡ length l.shares)
    × (take l.i (items l.claims) ++ claims_left (drop l.i (items l.claims)) (drop l.i l.shares) ≡ claims_left (items l.initial.claims) l.shares)
