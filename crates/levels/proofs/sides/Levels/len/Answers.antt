use Rattle.std.proofs.Common.{sym, ◌∙◌}
use Rattle.levels.proofs.Facts.{prices}
use Rattle.levels.proofs.sides.Levels.len.Goals as goal

pub returns-clause-count : goal.returns-clause-count
returns-clause-count c = c.len.ensures ∙ sym (prices c.args.self.now)
