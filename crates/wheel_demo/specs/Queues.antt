-- A queue: its claims in time order, and their wheel. Assumes nothing.
use Rattle.std.specs.Prelude.{ℕ, Bool, List, [], ◌∷◌, ◌++◌, filter, nat_lt}
use Rattle.allocation.specs.Wheels.{Wheel, ensure_seat, lose_seat, other_than}
use Rattle.allocation.specs.Dealings.{Dealt, Deal, claims_left}
use Rattle.allocation.specs.declared.claims.Claim.{Claim}

pub record Standing : Type 0 where
  pub claims : List Claim
  pub wheel : Wheel

-- a claim stands last; its participant takes the last seat unless it has one
abbrev pub joined : Standing → Claim → Standing
joined s c = record { claims = s.claims ++ (c ∷ []); wheel = ensure_seat s.wheel c.participant }

-- whether some of the claim is left
abbrev pub unfilled : Claim → Bool
unfilled c = nat_lt 0 c.size

-- what a dealing answers to a queue
abbrev pub dealt : Deal → ℕ → ℕ → Standing → Dealt
dealt deal q lot s = deal q s.wheel lot s.claims

-- the shares are dealt: each claim is less its share, and one with nothing left is gone
abbrev pub served : Standing → Dealt → Standing
served s d = record { claims = filter unfilled (claims_left s.claims d.shares); wheel = d.wheel }

-- whether the claim is another's than p's
abbrev pub not_of : ℕ → Claim → Bool
not_of p c = other_than p c.participant

-- p gives up its claims, and loses its seat
abbrev pub without : Standing → ℕ → Standing
without s p = record { claims = filter (not_of p) s.claims; wheel = lose_seat s.wheel p }
