-- Worked cases of the wheel and the dealings, round lot 100. Assumes nothing.
use Rattle.std.specs.Prelude.{◌≡◌, ℕ, true, false, List, [], ◌∷◌}
use Rattle.allocation.specs.Rankings.{higher_is_better, lower_is_better}
use Rattle.allocation.specs.Wheels.{Wheel, wheel_with, take_last_seat, lose_seat}
use Rattle.allocation.specs.Dealings.{Dealt, time, parity}
use Rattle.allocation.specs.declared.claims.Claim.{Claim}

-- a claim of a participant
abbrev claim : ℕ → ℕ → Claim
claim participant size = record { participant = participant; size = size }

-- four claims of three participants
abbrev claims : List Claim
claims = claim 1 100 ∷ claim 2 300 ∷ claim 3 80 ∷ claim 1 50 ∷ []

-- the shares, and the wheel afterwards
abbrev dealt : List ℕ → List ℕ → ℕ → Dealt
dealt shares seats used = record { shares = shares; wheel = wheel_with seats used }

-- the wheel that seats are lost from
abbrev five_seven_nine : Wheel
five_seven_nine = wheel_with (5 ∷ 7 ∷ 9 ∷ []) 40

-- seats 5, 7, 9 with used 40, and each of them leaves; the last to leave empties the wheel; who comes back sits last
pub record SeatsLost : Type 0 where
  pub first : lose_seat five_seven_nine 5 ≡ wheel_with (7 ∷ 9 ∷ []) 0
  pub second : lose_seat five_seven_nine 7 ≡ wheel_with (5 ∷ 9 ∷ []) 40
  pub third : lose_seat five_seven_nine 9 ≡ wheel_with (5 ∷ 7 ∷ []) 40
  pub nobody : lose_seat five_seven_nine 4 ≡ five_seven_nine
  pub every : lose_seat (lose_seat (lose_seat five_seven_nine 9) 7) 5 ≡ wheel_with [] 0
  pub again : take_last_seat (lose_seat five_seven_nine 5) 5 ≡ wheel_with (7 ∷ 9 ∷ 5 ∷ []) 0

-- dealings by parity
pub record DealtByParity : Type 0 where
  -- interests 60 and 300, deal 200: 60 and 140, and the second seat has used 40
  pub sixty : parity 200 (wheel_with (1 ∷ 2 ∷ []) 0) 100 (claim 1 60 ∷ claim 2 300 ∷ []) ≡ dealt (60 ∷ 140 ∷ []) (2 ∷ []) 40
  -- 1 and 2 take a lot each and go last; 3 takes the 50 that are left, stays first, and has used 50
  pub turn_kept : parity 250 (wheel_with (1 ∷ 2 ∷ 3 ∷ []) 0) 100 claims ≡ dealt (100 ∷ 100 ∷ 50 ∷ 0 ∷ []) (3 ∷ 1 ∷ 2 ∷ []) 50
  -- a used number carried over: 1 takes 70 alone, then 2 a lot
  pub carried : parity 170 (wheel_with (1 ∷ 2 ∷ 3 ∷ []) 30) 100 claims ≡ dealt (70 ∷ 100 ∷ 0 ∷ 0 ∷ []) (3 ∷ 1 ∷ 2 ∷ []) 0
  -- all of it: nobody is left
  pub everything : parity 1000000 (wheel_with (1 ∷ 2 ∷ 3 ∷ []) 30) 100 claims ≡ dealt (100 ∷ 300 ∷ 80 ∷ 50 ∷ []) [] 0

-- dealings by time
pub record DealtByTime : Type 0 where
  -- the first claim and half of the second; all three still have a claim, and the wheel stays
  pub in_turn : time 250 (wheel_with (1 ∷ 2 ∷ 3 ∷ []) 30) 100 claims ≡ dealt (100 ∷ 150 ∷ 0 ∷ 0 ∷ []) (1 ∷ 2 ∷ 3 ∷ []) 30
  -- 2, which has the first seat, is served in full and leaves: the next has used nothing
  pub first_leaves : time 400 (wheel_with (2 ∷ 1 ∷ 3 ∷ []) 30) 100 claims ≡ dealt (100 ∷ 300 ∷ 0 ∷ 0 ∷ []) (1 ∷ 3 ∷ []) 0

-- which of two prices is at least as good, for buyers, for sellers, and turned round
pub record PricesRanked : Type 0 where
  pub buyers : (higher_is_better 100100 100000 ≡ true) × (higher_is_better 100000 100100 ≡ false)
  pub sellers : (lower_is_better 100100 100000 ≡ false) × (lower_is_better 100000 100100 ≡ true)
  pub equal : (higher_is_better 100000 100000 ≡ true) × (lower_is_better 100000 100000 ≡ true)
