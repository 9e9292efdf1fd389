use Rattle.std.proofs.Common.{◌≡◌, ℕ, ◌+◌, map, drop}
use Rattle.allocation.specs.Dealings.{interest, claims_left}
use Rattle.allocation.specs.Amounts.{amounts}
use Rattle.allocation.proofs.turns.interests_left.Given as goal

-- what the table has, and what the claims still to come have left, is what all have left
abbrev pub invariant-loop-i : goal.invariant-loop-i
invariant-loop-i g l = (p : ℕ) → amounts l.table p + interest p (claims_left (drop l.i (map g.C.Claimed.claim l.claims)) (drop l.i l.shares)) ≡ interest p (claims_left (map g.C.Claimed.claim l.claims) l.shares)
