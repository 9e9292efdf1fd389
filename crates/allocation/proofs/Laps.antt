-- Whole laps of the wheel at once. Assumes nothing.
use Rattle.std.proofs.Common.{◌≡◌, ℕ, zero, suc, ◌+◌, ◌-◌, ◌*◌, ◌/◌, ◌<◌, ◌≤◌, false, eqb, ltb, List, [], ◌∷◌, ◌++◌, length, sym, refl, ap, ◌∙◌, ⊎_elim, mul-le-mul_right, mul_assoc, suc-mul, mul_comm, add-mul, mul-le-mul_left, mul-zero, zero-mul, mul-one, mul-suc, mul-add, div-mul-le_self, arith}
use mathlib.Core.Path.{fun_ext}
use Rattle.std.proofs.lemmas.List.{append_assoc, append-nil}
use Rattle.std.proofs.lemmas.Bool.{cases_eq, eq-eqb, ne_eqb, lt-ltb, cond-false, or_from}
use Rattle.allocation.specs.Wheels.{wheel_with, seats_of, first_served}
use Rattle.allocation.specs.ByTime.{less}
use Rattle.allocation.specs.Turns.{Stage, turn_share, turn, over, turns}
use Rattle.allocation.specs.Dealings.{Seated}
use Rattle.allocation.specs.Amounts.{amounts}
use Rattle.allocation.specs.Memory.{wheel_of, stage_of}
use Rattle.allocation.specs.declared.wheels.Wheel as Memory
use Rattle.allocation.proofs.Stages.{turns_add}

abbrev stage : List ℕ → (ℕ → ℕ) → ℕ → Stage
stage seats interests left = record { wheel = wheel_with seats 0; interests = interests; quantity = left }

-- each of the seats less n
abbrev each_less : ℕ → List ℕ → (ℕ → ℕ) → ℕ → ℕ
each_less n [] f = f
each_less n (p ∷ ps) f = each_less n ps (less f p n)

each_less_at : (n : ℕ) (ps : List ℕ) (f : ℕ → ℕ) (k : ℕ) → each_less n ps f k ≡ f k - n * seats_of k ps
each_less_at n [] f k = omega (arith, mul-zero n)
each_less_at n (p ∷ ps) f k =
    let ih = each_less_at n ps (less f p n) k in
    ⊎_elim
    (λ e. rw (eq-eqb k p e) (omega (arith, rw (eq-eqb k p e) at ih, mul-add n 1 (seats_of k ps), mul-one n)))
    (λ ne. rw (ne_eqb k p ne) (omega (arith, rw (ne_eqb k p ne) at ih, mul-add n 0 (seats_of k ps), mul-zero n)))
    (cases_eq k p)

-- each of the seats has more than a lot when its turn comes
abbrev MoreThanALot : ℕ → List ℕ → (ℕ → ℕ) → Type 0
MoreThanALot R [] f = Unit {0}
MoreThanALot R (p ∷ ps) f = (R < f p) × MoreThanALot R ps (less f p R)

-- each is asked once, so that what it has before the lap decides
more_than_a_lot : (R : ℕ) (ps : List ℕ) (f : ℕ → ℕ) → ((k : ℕ) → seats_of k ps ≤ 1) → ((k : ℕ) → 0 < seats_of k ps → R < f k) → MoreThanALot R ps f
more_than_a_lot R [] f once more = tt
more_than_a_lot R (p ∷ ps) f once more = (
  more p (rw (eq-eqb p p refl) (omega arith)),
  more_than_a_lot R ps (less f p R) (λ k. omega (arith, once k))
      (λ k some.
      ⊎_elim
      (λ e. absurd (omega (arith, rw (eq-eqb k p e) at (once k))))
      (λ ne. rw (ne_eqb k p ne) (more k (omega arith)))
      (cases_eq k p)),
)

-- a turn that takes a whole lot
turn_lot : (R p : ℕ) (ps : List ℕ) (f : ℕ → ℕ) (left : ℕ) → R < f p → R ≤ left → turn R (stage (p ∷ ps) f left) ≡ stage (ps ++ (p ∷ [])) (less f p R) (left - R)
turn_lot R p ps f left more some =
    let t = turn_share R (stage (p ∷ ps) f left) in
    let e : t ≡ R = omega arith in
    let at : ℕ → Stage = λ x. record { wheel = first_served R (ltb 0 (f p - x)) (p ∷ ps) (0 + x); interests = less f p x; quantity = left - x } in
    let full : first_served R (ltb 0 (f p - R)) (p ∷ ps) (0 + R) ≡ wheel_with (ps ++ (p ∷ [])) 0 = rw (lt-ltb 0 (f p - R) (omega arith), eq-eqb (0 + R) R (omega arith)) in
    ap at e ∙ (λ i. record { wheel = full i; interests = less f p R; quantity = left - R })

-- the seats of a take a lot each and go behind b
lap : (R : ℕ) → 0 < R → (a b : List ℕ) (f : ℕ → ℕ) (left : ℕ) → MoreThanALot R a f → R * length a ≤ left → turns R (length a) (stage (a ++ b) f left) ≡ stage (b ++ a) (each_less R a f) (left - R * length a)
lap R pos [] b f left h enough =
    let none : left - R * 0 ≡ left = omega (arith, mul-zero R) in
    sym (λ i. stage (append-nil b i) f (none i))
lap R pos (p ∷ a) b f left h enough =
    let r = stage (p ∷ (a ++ b)) f left in
    let more = mul-suc R (length a) in
    let some : R ≤ left = omega arith in
    let going : over r ≡ false = or_from (eqb left 0) false (ne_eqb left 0 (λ e. omega arith)) refl in
    let less_left : left - R - R * length a ≡ left - R * length (p ∷ a) = omega arith in
    cond-false (over r) r (turns R (length a) (turn R r)) going
    ∙ ap (turns R (length a)) (turn_lot R p (a ++ b) f left h.0 some ∙ ap (λ s. stage s (less f p R) (left - R)) (append_assoc a b (p ∷ [])))
    ∙ lap R pos a (b ++ (p ∷ [])) (less f p R) (left - R) h.1 (omega arith)
    ∙ (λ i. stage (append_assoc b (p ∷ []) a i) (each_less R a (less f p R)) (less_left i))

-- a whole lap leaves the wheel as it was
whole_lap : (R : ℕ) → 0 < R → (seats : List ℕ) (f : ℕ → ℕ) (left : ℕ) → ((k : ℕ) → seats_of k seats ≤ 1) → ((k : ℕ) → 0 < seats_of k seats → R < f k) → R * length seats ≤ left → turns R (length seats) (stage seats f left) ≡ stage seats (λ k. f k - R * seats_of k seats) (left - R * length seats)
whole_lap R pos s f left once more enough =
    ap (λ l. turns R (length s) (stage l f left)) (sym (append-nil s))
    ∙ lap R pos s [] f left (more_than_a_lot R s f once more) enough
    ∙ ap (λ g. stage s g (left - R * length s)) (fun_ext (each_less_at R s f))

-- n laps of turns are n lots for each seat
pub laps : (R : ℕ) → 0 < R → (n : ℕ) (seats : List ℕ) (f : ℕ → ℕ) (left : ℕ) → ((k : ℕ) → seats_of k seats ≤ 1) → ((k : ℕ) → 0 < seats_of k seats → n * R < f k) → n * R * length seats ≤ left → turns R (n * length seats) (stage seats f left) ≡ stage seats (λ k. f k - n * R * seats_of k seats) (left - n * R * length seats)
laps R pos zero seats f left once more enough =
    let same : f ≡ (λ k. f k - zero * R * seats_of k seats) = fun_ext (λ k. rw (zero-mul R, zero-mul (seats_of k seats)) (omega arith)) in
    let whole : left ≡ left - zero * R * length seats = rw (zero-mul R, zero-mul (length seats)) (omega arith) in
    ap (λ m. turns R m (stage seats f left)) (zero-mul (length seats)) ∙ (λ i. stage seats (same i) (whole i))
laps R pos (suc n) seats f left once more enough =
    let len = length seats in
    let g : ℕ → ℕ = λ k. f k - R * seats_of k seats in
    let lots = suc-mul n R in
    let all : suc n * R * len ≡ n * R * len + R * len = ap (λ m. m * len) lots ∙ add-mul (n * R) R len in
    let one : R * len ≤ left = omega (arith, enough, all) in
    let some : n * R * len ≤ left - R * len = omega (arith, enough, all) in
    let enough_left : (k : ℕ) → 0 < seats_of k seats → n * R < g k = λ k h.
    let t : seats_of k seats ≡ 1 = omega (arith, once k) in
    let r : R * seats_of k seats ≡ R = ap (λ m. R * m) t ∙ mul-one R in
    omega (arith, more k h) in
    let each : ◌≡◌ {A = ℕ → ℕ} (λ k. g k - n * R * seats_of k seats) (λ k. f k - suc n * R * seats_of k seats) = fun_ext (λ k. omega (arith, ap (λ m. m * seats_of k seats) lots, add-mul (n * R) R (seats_of k seats))) in
    let rest : left - R * len - n * R * len ≡ left - suc n * R * len = omega (arith, all) in
    ap (λ m. turns R m (stage seats f left)) (suc-mul n len)
    ∙ ap (λ m. turns R m (stage seats f left)) (swap (n * len) len)
    ∙ turns_add R len (n * len) (stage seats f left)
    ∙ ap (turns R (n * len)) (whole_lap R pos seats f left once (λ k h. omega (arith, more k h)) one)
    ∙ laps R pos n seats g (left - R * len) once enough_left some
    ∙ (λ i. stage seats (each i) (rest i))
  where
    swap : (a b : ℕ) → a + b ≡ b + a
    swap a b = omega arith

-- as many laps as the quantity has lots for all seats
pub laps_within : (n lot len left : ℕ) → n ≤ left / lot / len → n * lot * len ≤ left
laps_within n lot len left h =
    let seats : n * len ≤ left / lot = omega (arith, mul-le-mul_right len h, div-mul-le_self (left / lot) len) in
    let lots : n * len * lot ≤ left = omega (arith, mul-le-mul_right lot seats, div-mul-le_self left lot) in
    let same : n * lot * len ≡ n * len * lot = mul_assoc n lot len ∙ ap (λ m. n * m) (mul_comm lot len) ∙ sym (mul_assoc n len lot) in
    omega (arith, same)

-- and less than every interest
pub laps_below : (n lot least f : ℕ) → n ≤ (least - 1) / lot → least ≤ f → 0 < f → n * lot < f
laps_below n lot least f h low some = omega (arith, mul-le-mul_right lot h, div-mul-le_self (least - 1) lot)

pub seats_more : (a n : ℕ) → 0 < n → a ≤ a * n
seats_more a n h = omega (arith, mul-le-mul_left a h, mul-one a)

-- whole laps in memory, from a first seat that has used nothing
pub laps_dealt : (R : ℕ) (w : Memory.Wheel) (table table' : List ℕ) (left n len least : ℕ) → w.used ≡ 0 → Seated R (wheel_of w) (amounts table) → len ≡ length (wheel_of w).seats → n ≤ left / R / len → n ≤ (least - 1) / R → ((k : ℕ) → 0 < seats_of k (wheel_of w).seats → least ≤ amounts table k) → ((k : ℕ) → amounts table' k ≡ amounts table k - n * R * seats_of k (wheel_of w).seats) → stage_of w table' (left - n * R * len) ≡ turns R (n * length (wheel_of w).seats) (stage_of w table left)
laps_dealt R w table table' left n len least unused s count quantity interest low less-each =
    let seats = (wheel_of w).seats in
    let enough : n * R * length seats ≤ left = omega (arith, laps_within n R len left quantity, ap (λ m. n * R * m) count) in
    let more : (k : ℕ) → 0 < seats_of k seats → n * R < amounts table k = λ k h. laps_below n R least (amounts table k) interest (low k h) (omega (arith, s.once k)) in
    let at_start : stage_of w table left ≡ stage seats (amounts table) left = λ i. record { wheel = wheel_with seats (unused i); interests = amounts table; quantity = left } in
    let rest : left - n * R * len ≡ left - n * R * length seats = ap (λ m. left - n * R * m) count in
    let end : stage_of w table' (left - n * R * len) ≡ stage seats (λ k. amounts table k - n * R * seats_of k seats) (left - n * R * length seats) = λ i. record { wheel = wheel_with seats (unused i); interests = fun_ext less-each i; quantity = rest i } in
    end ∙ sym (laps R (omega (arith, s.below)) n seats (amounts table) left (λ k. omega (arith, s.once k)) more enough) ∙ ap (turns R (n * length seats)) (sym at_start)
