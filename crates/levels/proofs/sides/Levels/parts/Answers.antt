use Rattle.std.proofs.Common.{◌≤◌, List, length, drop, sym, ap, ◌∙◌, subst, arith, lit<}
use Rattle.std.specs.List.{AllByRecursion}
use Rattle.std.proofs.lemmas.List.{length-take, length-drop}
use Rattle.arrays.specs.Items.{items}
use Rattle.rules.specs.declared.orders.Part.{Part}
use Rattle.levels.specs.Limits.{WithinLimits}
use Rattle.levels.specs.Queues.{head_of}
use Rattle.levels.proofs.Bounded.{limits_part, fits_limits}
use Rattle.levels.proofs.Laws.{parts_here}
use Rattle.levels.proofs.Facts.{prices, bound}
use Rattle.levels.proofs.sides.Levels.parts.Goals as goal

pub at-requires : goal.at-requires
at-requires c = (lit< tt, omega (arith, c.requires, prices c.args.self.now))

pub slice-requires : goal.slice-requires
slice-requires c =
    let q = c.at.result.now in
    (lit< tt, omega (arith, c.queue_start-start.ensures.within q, ap (λ x. x.count) (c.queue.ensures ∙ ap (head_of c.args.step) c.at.ensures)))

pub returns : goal.returns
returns c =
    let s = c.args.self.now in
    let q = c.at.result.now in
    let k = c.queue_start-start.result in
    let n = c.queue.result.now.count in
    let short : length c.slice.result.now ≤ 384 = omega (arith, ap length c.slice.ensures, length-take n (drop k (items s.parts)), length-drop k (items s.parts), bound s) in
    let limits : AllByRecursion WithinLimits c.slice.result.now = subst (λ (ps : List Part). AllByRecursion WithinLimits ps) (sym c.slice.ensures) (limits_part (items s.parts) n k s.limits) in
    record {
      value = λ d. c.slice.ensures
          ∙ parts_here c.args.step (items s.heads) (items s.parts) c.args.i k n q (omega (arith, c.requires, prices s)) (c.queue_start-start.ensures.start q) (ap (λ x. x.count) (c.queue.ensures ∙ ap (head_of c.args.step) c.at.ensures)) d;
      short = short;
      limits = limits;
      fits = fits_limits c.slice.result.now limits short;
    }
