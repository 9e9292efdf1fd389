-- What a dealing answers, what every dealing must keep, and the two: by time and by parity.
-- Assumes nothing.
use Rattle.std.specs.Prelude.{◌≡◌, ℕ, ◌+◌, ◌-◌, ◌<◌, ◌≤◌, min, cond, List, [], ◌∷◌, map, ◌==◌, nat_lt}
use Rattle.allocation.specs.Wheels.{Wheel, seats_of, retain}
use Rattle.allocation.specs.ByTime.{time_shares, shares_in_order}
use Rattle.allocation.specs.Turns.{Stage, turns}
use Rattle.allocation.specs.declared.claims.Claim.{Claim}

-- one share for each claim, and the wheel afterwards
pub record Dealt : Type 0 where
  pub shares : List ℕ
  pub wheel : Wheel

-- a dealing as a function: the quantity, the wheel, the round lot and the claims in time order
abbrev pub Deal : Type 0
Deal = ℕ → Wheel → ℕ → List Claim → Dealt

-- all claims together
abbrev pub total : List Claim → ℕ
total [] = 0
total (c ∷ cs) = c.size + total cs

-- all shares together
abbrev pub sum : List ℕ → ℕ
sum [] = 0
sum (x ∷ xs) = x + sum xs

-- what p claims in all
abbrev pub interest : ℕ → List Claim → ℕ
interest p [] = 0
interest p (c ∷ cs) = cond (p == c.participant) c.size 0 + interest p cs

-- what p's claims get in all
abbrev pub share_of : ℕ → List Claim → List ℕ → ℕ
share_of p [] xs = 0
share_of p (c ∷ cs) [] = 0
share_of p (c ∷ cs) (x ∷ xs) = cond (p == c.participant) x 0 + share_of p cs xs

-- the claims less their shares
abbrev pub claims_left : List Claim → List ℕ → List Claim
claims_left [] xs = []
claims_left (c ∷ cs) [] = c ∷ cs
claims_left (c ∷ cs) (x ∷ xs) = record { participant = c.participant; size = c.size - x } ∷ claims_left cs xs

-- a share for each claim, and none exceeds it
abbrev pub Within : List ℕ → List Claim → Type 0
Within [] [] = Unit {0}
Within [] (c ∷ cs) = ⊥
Within (x ∷ xs) [] = ⊥
Within (x ∷ xs) (c ∷ cs) = (x ≤ c.size) × Within xs cs

-- the wheel seats exactly those with interest, each once; used is below R, and 0 where no seat is left
pub record Seated (R : ℕ) (w : Wheel) (interests : ℕ → ℕ) : Type 0 where
  pub once : (p : ℕ) → seats_of p w.seats ≡ min 1 (interests p)
  pub below : w.used < R
  pub empty : w.seats ≡ [] → w.used ≡ 0

-- a quantity q is well dealt: no share above its claim, in sum the lesser of quantity and claims,
-- and the wheel seats exactly those with a claim left
pub record WellDealt (q : ℕ) (R : ℕ) (cs : List Claim) (d : Dealt) : Type 0 where
  pub within : Within d.shares cs
  pub all : sum d.shares ≡ min q (total cs)
  pub seats : Seated R d.wheel (λ p. interest p (claims_left cs d.shares))

-- what every dealing must keep, wherever the wheel comes seating exactly the claimants
abbrev pub Lawful : Deal → Type 0
Lawful deal = (q : ℕ) (w : Wheel) (R : ℕ) (cs : List Claim) → Seated R w (λ p. interest p cs) → WellDealt q R cs (deal q w R cs)

-- by time: each claim in order takes what it can, and the wheel only loses seats
abbrev pub time : Deal
time q w R cs =
    let xs = shares_in_order q (map (λ c. c.size) cs) in
    record { shares = xs; wheel = retain (λ p. nat_lt 0 (interest p (claims_left cs xs))) w }

-- a group for each participant
abbrev pub by_participant : Claim → ℕ × ℕ
by_participant c = (c.participant, c.size)

-- the end of the turns; each takes at least one share, so that q of them are enough
abbrev pub parity_end : ℕ → Wheel → ℕ → List Claim → Stage
parity_end q w R cs = turns R q (record { wheel = w; interests = λ p. interest p cs; quantity = q })

-- by parity: turn by turn; then what each participant took goes to its claims by time
abbrev pub parity : Deal
parity q w R cs =
    let end = parity_end q w R cs in
    record { shares = time_shares (λ p. interest p cs - end.interests p) (map by_participant cs); wheel = end.wheel }
