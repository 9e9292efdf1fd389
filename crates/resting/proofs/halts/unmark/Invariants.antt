use Rattle.std.proofs.Common.{◌≡◌}
use Rattle.levels.specs.Sides.{levels_of}
use Rattle.resting.specs.Unmarked.{plain_level}
use Rattle.resting.proofs.Mapping.{mapped}
use Rattle.resting.proofs.halts.unmark.Given as goal

abbrev pub invariant-loop-i : goal.invariant-loop-i
invariant-loop-i l = levels_of l.levels ≡ mapped plain_level l.i (levels_of l.initial.levels)
