use Rattle.std.proofs.Common.{◌≡◌, ℕ, ◌++◌, map, get_or, take, drop}
use Rattle.allocation.specs.ByTime.{time_shares}
use Rattle.allocation.specs.declared.claims.Claim.{Claim}
use Rattle.allocation.proofs.claims.by_time.Given as goal

-- the group and the size of a claim
abbrev pub draws : (g : goal.Over) → (Claim → ℕ) → g.row.C.Denot → ℕ × ℕ
draws g group c = (group (g.C.Claimed.claim c), (g.C.Claimed.claim c).size)

-- the shares so far, and those that the claims still to come would get, are the shares in all
abbrev pub invariant-loop-i : goal.invariant-loop-i
invariant-loop-i g l = (group : Claim → ℕ) → ((c : Claim) (k : ℕ) → goal.F-post g l.group c k → k ≡ group c) →
    take l.i l.shares ++ time_shares (λ k. get_or l.allotted k 0) (map (draws g group) (drop l.i l.claims)) ≡ time_shares (λ k. get_or l.initial.allotted k 0) (map (draws g group) l.claims)
