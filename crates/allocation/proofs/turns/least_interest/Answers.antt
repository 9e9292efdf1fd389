use Rattle.std.proofs.Common.{get_or, ap, ⊎_elim, arith}
use Rattle.std.proofs.lemmas.Bool.{cases_eq, ne_eqb}
use Rattle.std.proofs.lemmas.List.{take_all}
use Rattle.allocation.specs.Wheels.{seats_of}
use Rattle.allocation.specs.Amounts.{amounts}
use Rattle.allocation.specs.Counts.{seats_at, seats_more}
use Rattle.allocation.proofs.turns.least_interest.Goals as goal

pub bounds-interests-seat : goal.bounds-interests-seat
bounds-interests-seat c = (c.requires (get_or c.args.seats.now c.loop-seat.seat-index 0) (seats_at c.args.seats.now c.loop-seat.seat-index c.loop-seat-test.true)).1

pub loop-seat-init : goal.loop-seat-init
loop-seat-init c = λ k some. absurd (omega arith)

pub loop-seat-preserved : goal.loop-seat-preserved
loop-seat-preserved c = λ k some.
    let seats = c.args.seats.now in
    let i = c.loop-seat.seat-index in
    let more = seats_more seats i k c.loop-seat-test.true in
    ⊎_elim
    (λ e. omega (arith, ap (amounts c.args.interests.now) e))
    (λ n. omega (arith, c.loop-seat.invariant k (omega (arith, rw (ne_eqb k (get_or seats i 0) n) at more))))
    (cases_eq k (get_or seats i 0))

pub returns : goal.returns
returns c = λ k some.
    c.loop-seat.invariant k (omega (arith, ap (seats_of k) (take_all c.loop-seat.seat-index c.args.seats.now c.loop-seat-test.false)))
