-- Which claims a queue takes. Assumes nothing.
use Rattle.std.specs.Prelude.{◌≡◌, ℕ, ◌<◌, Bool, true, ◌&&◌, List, length, nat_le, slice_index_or}
use Rattle.allocation.specs.declared.claims.Claim.{Claim}

-- a participant from 1 to 24, and a size from 1 to 500,000
abbrev pub admissible : Claim → Bool
admissible c = (nat_le 1 c.participant && nat_le c.participant 24) && (nat_le 1 c.size && nat_le c.size 500000)

-- every claim of a list is such a claim
abbrev pub Admitted : List Claim → Type 0
Admitted cs = (k : ℕ) (d : Claim) → k < length cs → admissible (slice_index_or cs k d) ≡ true
