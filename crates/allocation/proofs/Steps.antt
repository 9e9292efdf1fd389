-- A turn of the code is a turn of the meaning. Assumes nothing.
use Rattle.std.proofs.Common.{◌≡◌, ℕ, ◌+◌, ◌-◌, ◌*◌, ◌<◌, ◌≤◌, min, false, eqb, ltb, List, [], ◌∷◌, length, get_or, take, set, ap, ◌∙◌, ⊎_elim, mul-one, mul-add, arith}
use mathlib.Core.Path.{fun_ext}
use Rattle.std.proofs.lemmas.Bool.{cases_eq, eq-eqb, ne_eqb, or_parts, true≢false}
use Rattle.allocation.specs.Wheels.{first_served, first_seat, no_seat, seats_of}
use Rattle.allocation.specs.Turns.{turn_share, turn, over}
use Rattle.allocation.specs.Amounts.{amounts}
use Rattle.allocation.specs.Memory.{wheel_of, stage_of}
use Rattle.allocation.specs.Dealings.{Seated}
use Rattle.allocation.specs.declared.wheels.Wheel as Memory
use Rattle.allocation.specs.Counts.{seats_more}
use Rattle.allocation.proofs.Drawn.{amounts_less}
use Rattle.allocation.proofs.Tables.{amounts_add, amounts_place}
use Rattle.allocation.specs.Turning.{first_interest}

-- where it goes on there is a first seat, and it has a place in the table
pub first_place : (R : ℕ) (w : Memory.Wheel) (interests : List ℕ) (left : ℕ) → Seated R (wheel_of w) (amounts interests) → over (stage_of w interests left) ≡ false → first_seat (wheel_of w).seats < length interests
first_place R w interests left s go =
    let r = stage_of w interests left in
    amounts_place interests (first_seat (wheel_of w).seats) (first_interest R r (or_parts (eqb left 0) (no_seat (wheel_of w).seats) go).1 s)

some_length : (s : List ℕ) → no_seat s ≡ false → 0 < length s
some_length [] e = absurd (true≢false e)
some_length (x ∷ s) e = omega arith

pub some_seat : (w : Memory.Wheel) (interests : List ℕ) (left : ℕ) → over (stage_of w interests left) ≡ false → 0 < length (wheel_of w).seats
some_seat w interests left go = some_length (wheel_of w).seats (or_parts (eqb left 0) (no_seat (wheel_of w).seats) go).1

next_at : (R : ℕ) (w v : Memory.Wheel) (interests interests' : List ℕ) (left left' : ℕ) → let r = stage_of w interests left in first_seat (wheel_of w).seats < length interests → wheel_of v ≡ (turn R r).wheel → interests' ≡ set interests (first_seat (wheel_of w).seats) (amounts interests (first_seat (wheel_of w).seats) - turn_share R r) → left' ≡ (turn R r).quantity → stage_of v interests' left' ≡ turn R r
next_at R w v interests interests' left left' place ew eo er =
    let r = stage_of w interests left in
    let fewer : amounts interests' ≡ (turn R r).interests = ap amounts eo ∙ fun_ext (amounts_less interests (first_seat (wheel_of w).seats) (turn_share R r) place) in
    λ i. record { wheel = ew i; interests = fewer i; quantity = er i }

pub next_stage : (R : ℕ) (w v : Memory.Wheel) (interests interests' : List ℕ) (left left' p x : ℕ) → p ≡ first_seat (wheel_of w).seats → x ≡ min (R - w.used) (min (amounts interests p) left) → p < length interests → wheel_of v ≡ first_served R (ltb 0 (amounts interests p - x)) (wheel_of w).seats (w.used + x) → interests' ≡ set interests p (amounts interests p - x) → left' ≡ left - x → stage_of v interests' left' ≡ turn R (stage_of w interests left)
next_stage R w v interests interests' left left' p x ep ex place ew eo er =
    let r = stage_of w interests left in
    let tx : x ≡ turn_share R r = rw ep at ex in
    next_at R w v interests interests' left left' (rw ep at place) (rw (ep, tx) at ew) (rw (ep, tx) at eo) (rw tx at er)

-- what one table loses the other has
pub moved : (interests interests' taken taken' : List ℕ) (p x : ℕ) → p < length interests → p < length taken → x ≤ amounts interests p → interests' ≡ set interests p (amounts interests p - x) → taken' ≡ set taken p (amounts taken p + x) → (k : ℕ) → amounts taken' k + amounts interests' k ≡ amounts taken k + amounts interests k
moved interests interests' taken taken' p x po pt most eo et k =
    let a = ap (λ t. amounts t k) et ∙ amounts_add taken p x pt k in
    let b = ap (λ t. amounts t k) eo ∙ amounts_less interests p x po k in
    ⊎_elim
    (λ e. omega (arith, rw (eq-eqb k p e) at a, rw (eq-eqb k p e) at b, ap (amounts interests) e))
    (λ n. omega (arith, rw (ne_eqb k p n) at a, rw (ne_eqb k p n) at b))
    (cases_eq k p)

-- what is left after a drawing of n, said by the x that was there to take
pub drawn : (table table' : List ℕ) (p n x : ℕ) → x ≡ min (amounts table p) n → table' ≡ set table p (amounts table p - n) → table' ≡ set table p (amounts table p - x)
drawn table table' p n x ex e =
    let same : amounts table p - n ≡ amounts table p - x = omega arith in
    e ∙ ap (set table p) same

-- one seat more has given n
pub given_more : (n : ℕ) (seats : List ℕ) (i : ℕ) (start table table' : List ℕ) → i < length seats → get_or seats i 0 < length table → ((k : ℕ) → amounts table k ≡ amounts start k - n * seats_of k (take i seats)) → table' ≡ set table (get_or seats i 0) (amounts table (get_or seats i 0) - n) → (k : ℕ) → amounts table' k ≡ amounts start k - n * seats_of k (take (i + 1) seats)
given_more n seats i start table table' inside place so e k =
    let p = get_or seats i 0 in
    let now = ap (λ t. amounts t k) e ∙ amounts_less table p n place k in
    let more = seats_more seats i k inside in
    ⊎_elim
    (λ eq. let m : seats_of k (take (i + 1) seats) ≡ seats_of k (take i seats) + 1 = rw (eq-eqb k p eq) at more in
    omega (arith, rw (eq-eqb k p eq) at now, so k, ap (λ t. n * t) m, mul-add n (seats_of k (take i seats)) 1, mul-one n))
    (λ ne. let m : seats_of k (take (i + 1) seats) ≡ seats_of k (take i seats) = omega (arith, rw (ne_eqb k p ne) at more) in
    omega (arith, rw (ne_eqb k p ne) at now, so k, ap (λ t. n * t) m))
    (cases_eq k p)
