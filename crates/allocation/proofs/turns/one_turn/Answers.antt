use Rattle.std.proofs.Common.{arith}
use Rattle.allocation.proofs.Steps.{first_place, next_stage}
use Rattle.allocation.proofs.turns.one_turn.Goals as goal

pub bounds-tables-p : goal.bounds-tables-p
bounds-tables-p c = omega (arith, first_place c.args.lot c.args.wheel.now c.args.tables.now.interests c.args.left c.requires.seated c.requires.going)

pub take-requires : goal.take-requires
take-requires c = omega (arith, first_place c.args.lot c.args.wheel.now c.args.tables.now.interests c.args.left c.requires.seated c.requires.going)

pub returns : goal.returns
returns c =
    let w = c.args.wheel.now in
    let o = c.args.tables.now.interests in
    let p = c.first_seat-p.result in
    let x = c.turn-x.result.0 in
    let place = first_place c.args.lot w o c.args.left c.requires.seated c.requires.going in
    record {
      next = next_stage c.args.lot w c.turn-x.new.self o c.take.new.self.interests c.args.left c.turn-x.result.1 p x c.first_seat-p.ensures c.turn-x.ensures.taken (omega arith) c.turn-x.ensures.after c.take.ensures.less c.turn-x.ensures.left;
      same = c.take.ensures.same;
    }
