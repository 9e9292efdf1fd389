use Rattle.levels.specs.Sides.{levels_of}
use Rattle.trading.proofs.Walking.{Walk}
use Rattle.trading.proofs.states.Terms.trade_price.Given as goal

abbrev pub invariant-loop-step : goal.invariant-loop-step
invariant-loop-step g l =
    Walk g.D.Dealing.meaning l.self.lot l.self.arriving l.self.table.now l.i l.step-index (levels_of l.initial.levels) l.initial.now.left l.initial.report l.initial.now.rows (levels_of l.levels) l.now.left l.report l.now.rows
