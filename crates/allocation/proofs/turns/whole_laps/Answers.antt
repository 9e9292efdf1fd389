use Rattle.std.proofs.Common.{◌≡◌, ℕ, ◌-◌, ◌*◌, ◌/◌, ◌<◌, ◌≤◌, length, ap, ◌∙◌, arith}
use Rattle.allocation.specs.Wheels.{seats_of}
use Rattle.allocation.specs.Amounts.{amounts}
use Rattle.allocation.specs.Memory.{wheel_of}
use Rattle.allocation.proofs.Steps.{some_seat}
use Rattle.allocation.proofs.Laps.{laps_within, laps_dealt, seats_more}
use Rattle.allocation.proofs.turns.whole_laps.Goals as goal

pub overflow_mul-each : goal.overflow_mul-each
overflow_mul-each c =
    let n = c.min.result in
    let lot = c.args.lot in
    let len = length c.seats-seats.result.now in
    let some = some_seat c.args.wheel.now c.args.tables.now.interests c.args.left c.requires.going in
    let count = ap length c.seats-seats.ensures.seats in
    let within : n * lot * len ≤ c.args.left = laps_within n lot len c.args.left (omega arith) in
    record { fits = omega (arith, within, seats_more (n * lot) len (omega arith), c.ranges.left.fits) }

pub overflow_mul-result : goal.overflow_mul-result
overflow_mul-result c =
    let within = laps_within c.min.result c.args.lot (length c.seats-seats.result.now) c.args.left (omega arith) in
    record { fits = omega (arith, within, c.ranges.left.fits) }

pub overflow_sub-result : goal.overflow_sub-result
overflow_sub-result c = laps_within c.min.result c.args.lot (length c.seats-seats.result.now) c.args.left (omega arith)

pub returns : goal.returns
returns c =
    let w = c.args.wheel.now in
    let n = c.min.result in
    let lot = c.args.lot in
    let seats = (wheel_of w).seats in
    let low : (k : ℕ) → 0 < seats_of k seats → c.least_interest-least.result ≤ amounts c.args.tables.now.interests k = λ k h. c.least_interest-least.ensures k (omega (arith, ap (seats_of k) c.seats-seats.ensures.seats)) in
    let each : (k : ℕ) → amounts c.give_each.new.tables.interests k ≡ amounts c.args.tables.now.interests k - n * lot * seats_of k seats = λ k. c.give_each.ensures.less k ∙ ap (λ s. amounts c.args.tables.now.interests k - n * lot * seats_of k s) c.seats-seats.ensures.seats in
    record {
      on = (n * length seats, laps_dealt lot w c.args.tables.now.interests c.give_each.new.tables.interests c.args.left n (length c.seats-seats.result.now) c.least_interest-least.result (omega arith) c.requires.seated (ap length c.seats-seats.ensures.seats) (omega arith) (omega (arith, ap (λ m. m / lot) c.saturating_sub.ensures)) low each);
      same = c.give_each.ensures.same;
      most = omega arith;
    }
