use Rattle.orders.specs.Rows.{rows_of}
use Rattle.orders.proofs.Taken.{Deducting}
use Rattle.orders.proofs.tables.OrderTable.deduct.Given as goal

abbrev pub invariant-loop-row : goal.invariant-loop-row
invariant-loop-row l = Deducting l.rows l.row-index (rows_of l.initial.self) (rows_of l.self)
