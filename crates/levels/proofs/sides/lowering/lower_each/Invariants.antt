use Rattle.arrays.specs.Items.{items}
use Rattle.levels.proofs.Lowering.{Lowering}
use Rattle.levels.proofs.sides.lowering.lower_each.Given as goal

abbrev pub invariant-loop-j : goal.invariant-loop-j
invariant-loop-j l = Lowering (items l.initial.parts) (items l.parts) l.amounts l.start l.n l.k l.j
