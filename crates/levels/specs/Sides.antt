-- The levels that the memory of a side stands for. Assumes nothing.
use Rattle.std.specs.Prelude.{List}
use Rattle.rules.specs.Books.{Level}
use Rattle.arrays.specs.Items.{items}
use Rattle.levels.specs.Heads.{levels}
use Rattle.levels.specs.declared.sides.Levels.{Levels}

abbrev pub levels_of : Levels → List Level
levels_of s = levels (items s.heads) (items s.parts)
