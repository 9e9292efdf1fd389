use Rattle.std.proofs.Common.{get_or}
use Rattle.std.proofs.lemmas.List.{get_or_default}
use Rattle.rules.specs.declared.phases.Step.TheVariants.{Setter}
use Rattle.trading.proofs.Walking.{walk_room, walk_more, walk_level, walk_left, walk_rows, walk_count}
use Rattle.trading.proofs.states.Terms.trade_price.Goals as goal

pub trade_step-now-requires-clause-rows : goal.trade_step-now-requires-clause-rows
trade_step-now-requires-clause-rows g c =
    walk_room c.loop-step.invariant c.requires.place c.requires.rows (get_or c.args.self.now.table.now c.loop-step.step-index Setter) c.loop-step-test.true (get_or_default c.args.self.now.table.now c.loop-step.step-index _ Setter c.loop-step-test.true)

pub loop-step-preserved : goal.loop-step-preserved
loop-step-preserved g c =
    walk_more c.loop-step.invariant c.requires.place c.requires.rows (get_or c.args.self.now.table.now c.loop-step.step-index Setter) c.loop-step-test.true (get_or_default c.args.self.now.table.now c.loop-step.step-index _ Setter c.loop-step-test.true) g.met.D.Dealing.lawful _ _ _ _
    c.trade_step-now.ensures.level c.trade_step-now.ensures.left c.trade_step-now.ensures.rows c.trade_step-now.ensures.count

pub returns : goal.returns
returns g c =
    record {
      level = walk_level c.loop-step.invariant c.requires.place c.requires.rows c.loop-step-test.false;
      left = walk_left c.loop-step.invariant c.requires.place c.requires.rows c.loop-step-test.false;
      rows = walk_rows c.loop-step.invariant c.requires.place c.requires.rows c.loop-step-test.false;
      count = walk_count c.loop-step.invariant c.requires.place c.requires.rows c.loop-step-test.false;
    }
