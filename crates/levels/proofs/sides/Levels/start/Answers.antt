use Rattle.std.proofs.Common.{ap, arith}
use Rattle.arrays.specs.Items.{items}
use Rattle.levels.specs.Heads.{size}
use Rattle.levels.proofs.Flat.{span_more}
use Rattle.levels.proofs.Facts.{bound, parts_of, in_front}
use Rattle.levels.proofs.sides.Levels.start.Goals as goal

pub overflow_add-start : goal.overflow_add-start
overflow_add-start c =
    let s = c.args.self.now in
    let at = in_front c.as_slice.result.now (items s.heads) c.args.i c.loop-head.head-index c.head-item.result c.as_slice.ensures c.requires c.loop-head-test.true c.head-item.is in
    omega (arith, c.requires, bound s, parts_of s c.loop-head.head-index c.head-item.result (omega (arith, c.requires, at.0)) at.1)

pub overflow_add-start-in-loop-head : goal.overflow_add-start-in-loop-head
overflow_add-start-in-loop-head c =
    let s = c.args.self.now in
    let at = in_front c.as_slice.result.now (items s.heads) c.args.i c.loop-head.head-index c.head-item.result c.as_slice.ensures c.requires c.loop-head-test.true c.head-item.is in
    omega (arith, c.requires, c.loop-head.invariant, bound s, parts_of s c.loop-head.head-index c.head-item.result (omega (arith, c.requires, at.0)) at.1)

pub loop-head-preserved : goal.loop-head-preserved
loop-head-preserved c =
    let s = c.args.self.now in
    let at = in_front c.as_slice.result.now (items s.heads) c.args.i c.loop-head.head-index c.head-item.result c.as_slice.ensures c.requires c.loop-head-test.true c.head-item.is in
    omega (arith, c.loop-head.invariant, span_more (items s.heads) c.loop-head.head-index c.head-item.result (omega (arith, c.requires, at.0)), ap size at.1)
