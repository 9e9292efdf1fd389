use Rattle.std.proofs.Common.{◌≡◌, take}
use Rattle.arrays.specs.Items.{items}
use Rattle.levels.specs.Heads.{span}
use Rattle.levels.proofs.sides.Levels.start.Given as goal

abbrev pub invariant-loop-head : goal.invariant-loop-head
invariant-loop-head l = l.start ≡ span (take l.head-index (items l.self.heads))
