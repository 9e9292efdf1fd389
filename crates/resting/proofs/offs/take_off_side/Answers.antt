use Rattle.std.proofs.Common.{sym, ◌∙◌}
use Rattle.rules.specs.Books.{nothing_at}
use Rattle.levels.specs.Sides.{levels_of}
use Rattle.resting.proofs.Elsewhere.{off_alone}
use Rattle.resting.proofs.offs.take_off_side.Goals as goal

pub returns : goal.returns
returns c = c.take_off.ensures (nothing_at 0) ∙ sym (off_alone c.args.lot c.args.order c.args.quantity c.args.i (levels_of c.args.levels.now) (nothing_at 0) c.requires.place c.requires.alone)
