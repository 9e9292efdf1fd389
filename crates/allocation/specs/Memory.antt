-- What a wheel in memory stands for. Assumes nothing.
use Rattle.std.specs.Prelude.{◌≡◌, ℕ, Bool, List}
use Rattle.arrays.specs.Items.{items}
use Rattle.allocation.specs.Wheels.{Wheel, wheel_with}
use Rattle.allocation.specs.Amounts.{amounts}
use Rattle.allocation.specs.Turns.{Stage}
use Rattle.allocation.specs.declared.wheels.Wheel as Memory

abbrev pub wheel_of : Memory.Wheel → Wheel
wheel_of w = wheel_with (items w.seats) w.used

-- where a dealing stands, by the wheel, the table of interests and the quantity left
abbrev pub stage_of : Memory.Wheel → List ℕ → ℕ → Stage
stage_of w interests left = record { wheel = wheel_of w; interests = amounts interests; quantity = left }

-- whatever a test of participants may answer, by its possible results, is what p answers
abbrev pub AnswersBy : (ℕ → Bool → Type 0) → (ℕ → Bool) → Type 0
AnswersBy gives p = (k : ℕ) (b : Bool) → gives k b → b ≡ p k
