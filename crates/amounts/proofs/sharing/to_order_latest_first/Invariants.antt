use Rattle.std.proofs.Common.{◌≡◌}
use Rattle.rules.specs.Quantities.{of_part}
use Rattle.amounts.proofs.Loops.{FromBack}
use Rattle.amounts.proofs.sharing.to_order_latest_first.Given as goal

abbrev pub invariant-loop-i : goal.invariant-loop-i
invariant-loop-i l = FromBack (of_part l.order) l.parts l.quantity l.i-iterator.iter.iter.rest.now l.left l.shares × (l.i-iterator.iter.count ≡ 0)
