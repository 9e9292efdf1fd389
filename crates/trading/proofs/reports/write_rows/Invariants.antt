use Rattle.std.proofs.Common.{◌≡◌, ◌+◌, length, drop}
use Rattle.rules.specs.Trading.{rows_of}
use Rattle.trading.specs.Written.{written}
use Rattle.trading.proofs.reports.write_rows.Given as goal

abbrev pub invariant-loop-i : goal.invariant-loop-i
invariant-loop-i l =
    (written l.report l.end (rows_of l.step l.arriving l.price (drop l.i l.parts) (drop l.i l.shares)) ≡ written l.initial.report l.at (rows_of l.step l.arriving l.price l.parts l.shares))
    × (l.end + length (rows_of l.step l.arriving l.price (drop l.i l.parts) (drop l.i l.shares)) ≡ l.at + length (rows_of l.step l.arriving l.price l.parts l.shares))
