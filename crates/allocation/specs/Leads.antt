-- The lead on one wheel: over any run of what happens to it, nobody takes more than a round lot above one who kept its seat.
-- Assumes nothing.
use Rattle.std.specs.Prelude.{◌≡◌, ℕ, ◌+◌, ◌<◌, ◌≤◌, Bool, cond, List, [], ◌∷◌, ◌++◌}
use Rattle.std.specs.List.{AllByRecursion}
use Rattle.allocation.specs.Wheels.{Wheel, seats_of, has_first_seat, take_last_seat, lose_seat, first_served}
use Rattle.allocation.specs.Dealings.{Seated, interest, share_of, parity}
use Rattle.allocation.specs.declared.claims.Claim.{Claim}

-- what can happen to a wheel
pub data Event : Type 0 where
  -- the first seat takes x shares, and is then kept or lost
  takes_turn : ℕ → Bool → Event
  takes_seat : ℕ → Event
  loses_seat : ℕ → Event

-- the wheel after an event
abbrev pub after : ℕ → Wheel → Event → Wheel
after R w (takes_turn x kept) = first_served R kept w.seats (w.used + x)
after R w (takes_seat p) = take_last_seat w p
after R w (loses_seat p) = lose_seat w p

-- what p takes in an event
abbrev pub event_share : ℕ → Wheel → Event → ℕ
event_share p w (takes_turn x kept) = cond (has_first_seat p w.seats) x 0
event_share p w (takes_seat r) = 0
event_share p w (loses_seat r) = 0

-- a turn takes some shares and no more than the lot; a seat is taken by one who has none
abbrev pub Legal : ℕ → Wheel → Event → Type 0
Legal R w (takes_turn x kept) = (0 < x) × (w.used + x ≤ R)
Legal R w (takes_seat p) = seats_of p w.seats ≡ 0
Legal R w (loses_seat p) = Unit {0}

-- the wheel after a run of events
abbrev pub run : ℕ → Wheel → List Event → Wheel
run R w [] = w
run R w (e ∷ es) = run R (after R w e) es

-- what p takes in a run
abbrev pub shares_taken : ℕ → ℕ → Wheel → List Event → ℕ
shares_taken R p w [] = 0
shares_taken R p w (e ∷ es) = event_share p w e + shares_taken R p (after R w e) es

-- each event of a run is legal where it happens
abbrev pub LegalRun : ℕ → Wheel → List Event → Type 0
LegalRun R w [] = Unit {0}
LegalRun R w (e ∷ es) = Legal R w e × LegalRun R (after R w e) es

-- p has its seat at each moment of the run
abbrev pub KeepsSeat : ℕ → ℕ → Wheel → List Event → Type 0
KeepsSeat R p w [] = seats_of p w.seats ≡ 1
KeepsSeat R p w (e ∷ es) = (seats_of p w.seats ≡ 1) × KeepsSeat R p (after R w e) es

-- used is below the lot, and nobody has two seats
abbrev pub Sound : ℕ → Wheel → Type 0
Sound R w = (w.used < R) × ((k : ℕ) → seats_of k w.seats ≤ 1)

-- From any moment to any later one: whatever came before, if p keeps its seat while the later events happen,
-- then no q takes more in them than p does and one lot.
abbrev pub NobodyLeadsByMoreThanALot : Type 0
NobodyLeadsByMoreThanALot =
    (R : ℕ) (w : Wheel) (before later : List Event) → Sound R w → LegalRun R w (before ++ later) → (p q : ℕ) → KeepsSeat R p (run R w before) later
    → shares_taken R q (run R w before) later ≤ shares_taken R p (run R w before) later + R

-- a turn, and no seat taken or lost
abbrev pub IsTurn : Event → Type 0
IsTurn (takes_turn x kept) = Unit {0}
IsTurn (takes_seat p) = ⊥
IsTurn (loses_seat p) = ⊥

-- a run of turns alone from w to v in which each p takes its share; who has a seat in the end had it throughout
pub record RunOfTurns (R : ℕ) (w v : Wheel) (share : ℕ → ℕ) : Type 0 where
  pub events : List Event
  pub only : AllByRecursion IsTurn events
  pub legal : LegalRun R w events
  pub ends : run R w events ≡ v
  pub shares : (p : ℕ) → shares_taken R p w events ≡ share p
  pub stays : (p : ℕ) → seats_of p v.seats ≡ 1 → KeepsSeat R p w events

-- a dealing by parity is a run of turns, in which each participant takes what its claims get
abbrev pub ParityIsARunOfTurns : Type 0
ParityIsARunOfTurns = (q : ℕ) (w : Wheel) (R : ℕ) (cs : List Claim) → Seated R w (λ p. interest p cs) → RunOfTurns R w (parity q w R cs).wheel (λ p. share_of p cs (parity q w R cs).shares)
