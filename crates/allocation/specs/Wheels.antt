-- The wheel: seats from the pointer onward, and how much of the round lot the first seat has used.
-- Assumes nothing.
use Rattle.std.specs.Prelude.{ℕ, ◌+◌, Bool, true, false, cond, not, List, [], ◌∷◌, ◌++◌, filter, ◌==◌, nat_lt}

-- each seat is the number of its participant; used is the first seat's
pub record Wheel : Type 0 where
  pub seats : List ℕ
  pub used : ℕ

-- the wheel with these seats and this used number
abbrev pub wheel_with : List ℕ → ℕ → Wheel
wheel_with seats used = record { seats = seats; used = used }

-- how many seats p has
abbrev pub seats_of : ℕ → List ℕ → ℕ
seats_of p [] = 0
seats_of p (x ∷ xs) = cond (p == x) 1 0 + seats_of p xs

-- who has the first seat
abbrev pub first_seat : List ℕ → ℕ
first_seat [] = 0
first_seat (p ∷ ps) = p

-- whether p has the first seat
abbrev pub has_first_seat : ℕ → List ℕ → Bool
has_first_seat p [] = false
has_first_seat p (x ∷ xs) = p == x

-- whether nobody sits
abbrev pub no_seat : List ℕ → Bool
no_seat [] = true
no_seat (p ∷ ps) = false

-- p takes the last seat
abbrev pub take_last_seat : Wheel → ℕ → Wheel
take_last_seat w p = wheel_with (w.seats ++ (p ∷ [])) w.used

-- p takes the last seat unless it has one
abbrev pub ensure_seat : Wheel → ℕ → Wheel
ensure_seat w p = cond (nat_lt 0 (seats_of p w.seats)) w (take_last_seat w p)

-- whether there is a first seat and its holder stays
abbrev pub first_stays : (ℕ → Bool) → List ℕ → Bool
first_stays stays [] = false
first_stays stays (x ∷ xs) = stays x

-- Only those who stay keep their seats. used is the first seat's own: where that is lost, the next starts with 0.
abbrev pub retain : (ℕ → Bool) → Wheel → Wheel
retain stays w = wheel_with (filter stays w.seats) (cond (first_stays stays w.seats) w.used 0)

-- everyone but p
abbrev pub other_than : ℕ → ℕ → Bool
other_than p x = not (p == x)

-- p loses its seat
abbrev pub lose_seat : Wheel → ℕ → Wheel
lose_seat w p = retain (other_than p) w

-- The first seat was served, has now used u of the round lot R, and is kept or lost.
-- Kept with the lot used up, it goes last; kept otherwise, it stays first.
abbrev pub first_served : ℕ → Bool → List ℕ → ℕ → Wheel
first_served R kept [] u = wheel_with [] 0
first_served R kept (p ∷ ps) u = cond kept (cond (u == R) (wheel_with (ps ++ (p ∷ [])) 0) (wheel_with (p ∷ ps) u)) (wheel_with ps 0)
