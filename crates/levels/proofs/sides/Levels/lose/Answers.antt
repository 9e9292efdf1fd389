use Rattle.std.proofs.Common.{List, get_or, set, ap, ◌∙◌}
use Rattle.allocation.specs.Wheels as Wheels
use Rattle.allocation.specs.Memory.{wheel_of}
use Rattle.rules.specs.Books.{queue}
use Rattle.rules.specs.Changes.{lowered, settle, lose}
use Rattle.rules.specs.Trading.{queue_of, with_queue}
use Rattle.rules.specs.declared.orders.Part.{Part}
use Rattle.levels.specs.Sides.{levels_of}
use Rattle.levels.proofs.sides.Levels.lose.Goals as goal

pub returns : goal.returns
unfolding lose
returns c = λ d.
    let t = c.args.step in
    let i = c.args.i in
    let xs = c.args.amounts.now in
    let ls = levels_of c.args.self.now in
    c.trade.ensures d
    ∙ ap (λ w. set ls i (with_queue t (queue (lowered (queue_of t (get_or ls i d)).parts xs) w) (get_or ls i d)))
    (c.settle_wheel.ensures
    ∙ ap (λ (ps : List Part). settle (wheel_of c.wheel.result.now) (lowered ps xs)) (c.parts.ensures.value d)
    ∙ ap (λ (w : Wheels.Wheel). settle w (lowered (queue_of t (get_or ls i d)).parts xs)) (c.wheel.ensures d))
