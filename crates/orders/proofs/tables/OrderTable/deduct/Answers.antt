use Rattle.orders.specs.Rows.{rows_of}
use Rattle.orders.proofs.Taken.{no_row, deducting_enough, deducting_more, deducting_over}
use Rattle.orders.proofs.tables.OrderTable.deduct.Goals as goal

pub deduct_row-requires-clause-enough : goal.deduct_row-requires-clause-enough
deduct_row-requires-clause-enough c = deducting_enough no_row c.loop-row.invariant c.loop-row-test.true

pub loop-row-preserved : goal.loop-row-preserved
loop-row-preserved c = deducting_more no_row (rows_of c.deduct_row.new.self) c.loop-row.invariant c.loop-row-test.true c.deduct_row.ensures

pub returns : goal.returns
returns c = deducting_over c.loop-row.invariant c.loop-row-test.false
