use Rattle.std.proofs.Common.{◌∙◌}
use Rattle.allocation.specs.Memory.{wheel_of}
use Rattle.levels.proofs.Bounded.{fits_limits}
use Rattle.levels.proofs.Laws.{settle_lowered}
use Rattle.levels.proofs.claiming.settle_wheel.Goals as goal

pub lose_seats_without_interest-requires-clause-fits : goal.lose_seats_without_interest-requires-clause-fits
lose_seats_without_interest-requires-clause-fits c = fits_limits c.args.parts.now c.requires.dealable.limits c.requires.dealable.short

pub returns : goal.returns
returns c = c.lose_seats_without_interest.ensures ∙ settle_lowered (wheel_of c.args.wheel.now) c.args.parts.now c.args.amounts.now
