use Rattle.std.proofs.Common.{◌≡◌, ℕ, ◌++◌, map, take, drop}
use Rattle.std.specs.Fn.{FnReturnsAt}
use Rattle.allocation.specs.ByTime.{shares_in_order}
use Rattle.rules.specs.declared.orders.Part.{Part}
use Rattle.amounts.proofs.sharing.share_in_order.Given as goal

abbrev pub invariant-loop-i : goal.invariant-loop-i
invariant-loop-i g l =
    (size : Part → ℕ) → ((p : Part) (n : ℕ) → FnReturnsAt g.F.Fn l.counted p n → n ≡ size p) → take l.i l.shares ++ shares_in_order l.left (map size (drop l.i l.parts)) ≡ shares_in_order l.initial.left (map size l.parts)
