use Rattle.std.proofs.Common.{◌≡◌, ◌-◌, ◌*◌, length, get_or, ap, ◌∙◌, mul-zero, arith}
use Rattle.std.proofs.lemmas.List.{take_all}
use Rattle.allocation.specs.Wheels.{seats_of}
use Rattle.allocation.specs.Amounts.{amounts}
use Rattle.allocation.specs.Counts.{seats_at}
use Rattle.allocation.proofs.Steps.{given_more}
use Rattle.allocation.proofs.turns.give_each.Goals as goal

pub loop-seat-init : goal.loop-seat-init
loop-seat-init c = (λ p. omega (arith, mul-zero c.args.n), λ p. omega arith)

pub take-requires : goal.take-requires
take-requires c = (c.requires (get_or c.args.seats.now c.loop-seat.seat-index 0) (seats_at c.args.seats.now c.loop-seat.seat-index c.loop-seat-test.true)).1

pub loop-seat-preserved : goal.loop-seat-preserved
loop-seat-preserved c =
    let l = c.loop-seat in
    let seats = c.args.seats.now in
    let p = get_or seats l.seat-index 0 in
    let known = (c.requires p (seats_at seats l.seat-index c.loop-seat-test.true)).1 in
    let long : length l.tables.interests ≡ 25 = l.tables.sized.0 in (
      given_more c.args.n seats l.seat-index c.args.tables.now.interests l.tables.interests c.take.new.self.interests c.loop-seat-test.true (omega arith) l.invariant.0 c.take.ensures.less,
      λ k. omega (arith, c.take.ensures.same k, l.invariant.1 k),
    )

pub returns : goal.returns
returns c =
    record {
      less = λ p. c.loop-seat.invariant.0 p ∙ ap (λ s. amounts c.args.tables.now.interests p - c.args.n * seats_of p s) (take_all c.loop-seat.seat-index c.args.seats.now c.loop-seat-test.false);
      same = c.loop-seat.invariant.1;
    }
