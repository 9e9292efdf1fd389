-- Parity: turn by turn, the first seat takes what is left of its round lot.
-- Assumes nothing.
use Rattle.std.specs.Prelude.{ℕ, zero, suc, ◌+◌, ◌-◌, min, Bool, cond, ◌||◌, ◌==◌, nat_lt}
use Rattle.allocation.specs.Wheels.{Wheel, first_seat, no_seat, first_served}
use Rattle.allocation.specs.ByTime.{less}

-- where a dealing stands: the wheel, the interest that each participant has left, and the quantity left to deal
pub record Stage : Type 0 where
  pub wheel : Wheel
  pub interests : ℕ → ℕ
  pub quantity : ℕ

-- what the first seat takes in its turn: the least of what is left of its lot, its interest and the quantity
abbrev pub turn_share : ℕ → Stage → ℕ
turn_share R s = min (R - s.wheel.used) (min (s.interests (first_seat s.wheel.seats)) s.quantity)

-- one turn: the seat is kept while interest is left
abbrev pub turn : ℕ → Stage → Stage
turn R s =
    let p = first_seat s.wheel.seats in
    let x = turn_share R s in
    record {
      wheel = first_served R (nat_lt 0 (s.interests p - x)) s.wheel.seats (s.wheel.used + x);
      interests = less s.interests p x;
      quantity = s.quantity - x;
    }

-- nothing is left to deal, or nobody is seated
abbrev pub over : Stage → Bool
over s = s.quantity == 0 || no_seat s.wheel.seats

-- at most n turns, until it is over
abbrev pub turns : ℕ → ℕ → Stage → Stage
turns R zero s = s
turns R (suc n) s = let on = turns R n (turn R s) in cond (over s) s on
