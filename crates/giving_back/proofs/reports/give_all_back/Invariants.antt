use Rattle.std.proofs.Common.{◌≡◌, ◌+◌, drop}
use Rattle.rules.specs.Lists.{sum_of}
use Rattle.rules.specs.Rules.{row_given_back}
use Rattle.trading.specs.Written.{written}
use Rattle.giving_back.specs.Backs.{backs}
use Rattle.giving_back.proofs.reports.give_all_back.Given as goal

abbrev pub invariant-loop-i : goal.invariant-loop-i
invariant-loop-i l =
    (written l.report l.i (backs (drop l.i l.row-items)) ≡ written l.initial.report 0 (backs l.row-items))
    × (l.total + sum_of row_given_back (backs (drop l.i l.row-items)) ≡ sum_of row_given_back (backs l.row-items))
