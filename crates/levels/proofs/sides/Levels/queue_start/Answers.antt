use Rattle.std.proofs.Common.{◌≡◌, ◌+◌, ◌≤◌, length, get_or, refl, ap, ◌∙◌, arith, lit<}
use Rattle.arrays.specs.Items.{items}
use Rattle.levels.specs.Queues.{head_of, ahead}
use Rattle.levels.specs.declared.heads.LevelHead.{LevelHead}
use Rattle.levels.proofs.Laws.{within_parts}
use Rattle.levels.proofs.Facts.{prices, bound, head_is}
use Rattle.levels.proofs.sides.Levels.queue_start.Goals as goal

pub start-start-requires : goal.start-start-requires
start-start-requires c = omega (arith, c.requires, prices c.args.self.now)

pub at-requires : goal.at-requires
at-requires c = (lit< tt, omega (arith, c.requires, prices c.args.self.now))

is : (c : goal.After-ahead) (d : LevelHead) → c.ahead.result ≡ ahead c.args.step (get_or (items c.args.self.now.heads) c.args.i d)
is c d = c.ahead.ensures ∙ ap (ahead c.args.step) (head_is c.args.self.now c.args.i c.at.result.now d c.requires c.at.ensures)

within : (c : goal.After-ahead) (d : LevelHead) → c.start-start.result + c.ahead.result + (head_of c.args.step (get_or (items c.args.self.now.heads) c.args.i d)).count ≤ length (items c.args.self.now.parts)
within c d =
    let s = c.args.self.now in
    within_parts c.args.step (items s.heads) (items s.parts) c.args.i _ _ d (omega (arith, c.requires, prices s)) (omega (arith, c.start-start.ensures, is c d)) refl (omega (arith, s.whole))

pub overflow_add-result : goal.overflow_add-result
overflow_add-result c = omega (arith, within c c.at.result.now, bound c.args.self.now)

pub returns : goal.returns
returns c = record { start = λ d. omega (arith, c.start-start.ensures, is c d); within = λ d. within c d }
