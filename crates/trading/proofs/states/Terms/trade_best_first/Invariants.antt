use Rattle.std.proofs.Common.{drop}
use Rattle.rules.specs.Books.{ranked_by}
use Rattle.rules.specs.Invariants.{prices}
use Rattle.levels.specs.Sides.{levels_of}
use Rattle.trading.specs.Reached.{reached}
use Rattle.trading.proofs.Touring.{Tour}
use Rattle.trading.proofs.Closing.{Closes}
use Rattle.trading.proofs.states.Terms.trade_best_first.Given as goal

abbrev pub invariant-loop-i : goal.invariant-loop-i
invariant-loop-i g l =
    Tour g.D.Dealing.meaning l.self.lot l.self.arriving l.self.table.now (reached (ranked_by g.K.Ranking.initial g.K.Ranking.good) l.reach) l.i (levels_of l.initial.levels) l.initial.now.left l.initial.report l.initial.now.rows (levels_of l.levels) l.now.left l.report l.now.rows
    × Closes (reached (ranked_by g.K.Ranking.initial g.K.Ranking.good) l.reach) (prices (drop l.i (levels_of l.levels)))
