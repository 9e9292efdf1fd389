use Rattle.std.proofs.Common.{◌≡◌, get_or, set}
use Rattle.rules.specs.Books.{Level}
use Rattle.levels.specs.Sides.{levels_of}
use Rattle.resting.proofs.Mapping.{plain_to}
use Rattle.resting.proofs.halts.unmark_level.Given as goal

abbrev pub invariant-loop-k : goal.invariant-loop-k
invariant-loop-k l = (d : Level) → levels_of l.levels ≡ set (levels_of l.initial.levels) l.i (plain_to l.k (get_or (levels_of l.initial.levels) l.i d))
