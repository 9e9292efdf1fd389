use Rattle.std.proofs.Common.{sym, refl, ap, ◌∙◌, arith, lit<}
use Rattle.arrays.specs.Items.{items}
use Rattle.allocation.specs.Memory.{wheel_of}
use Rattle.levels.specs.Queues.{head_of}
use Rattle.levels.proofs.Laws.{queue_here}
use Rattle.levels.proofs.Facts.{prices}
use Rattle.levels.proofs.sides.Levels.wheel.Goals as goal

pub at-requires : goal.at-requires
at-requires c = (lit< tt, omega (arith, c.requires, prices c.args.self.now))

pub returns : goal.returns
returns c = λ d.
    let s = c.args.self.now in
    let q = c.at.result.now in
    ap (λ x. wheel_of x.wheel) (c.queue.ensures ∙ ap (head_of c.args.step) c.at.ensures)
    ∙ sym (ap (λ x. x.wheel) (queue_here c.args.step (items s.heads) (items s.parts) c.args.i _ _ q (omega (arith, c.requires, prices s)) refl refl d))
