use Rattle.std.proofs.Common.{◌<◌, length, ap, ◌∙◌, arith}
use Rattle.allocation.specs.Memory.{stage_of}
use Rattle.allocation.proofs.Steps.{some_seat}
use Rattle.allocation.proofs.Stages.{turns_one, turn_less}
use Rattle.allocation.proofs.turns.deal_on.Goals as goal

pub returns-then-wait-eq0 : goal.returns-then-wait-eq0
returns-then-wait-eq0 c =
    let some = some_seat c.args.wheel.now c.args.tables.now.interests c.args.left c.requires.going in
    record {
      on = c.whole_laps-rest.ensures.on;
      same = c.whole_laps-rest.ensures.same;
      falls = omega (arith, some, ap length c.seats.ensures.seats);
    }

pub returns : goal.returns
returns c =
    let before = stage_of c.args.wheel.now c.args.tables.now.interests c.args.left in
    let next = stage_of c.one_turn.new.wheel c.one_turn.new.tables.interests c.one_turn.result in
    let less : c.one_turn.result < c.args.left = turn_less c.args.lot before next c.requires.seated c.requires.going c.one_turn.ensures.next in
    record {
      on = (1, c.one_turn.ensures.next ∙ turns_one c.args.lot before c.requires.going);
      same = c.one_turn.ensures.same;
      falls = omega arith;
    }
