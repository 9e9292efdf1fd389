use Rattle.std.proofs.Common.{arith}
use Rattle.resting.proofs.Low.{of_total}
use Rattle.resting.proofs.replenishing.hidden_at.Goals as goal

pub of_order-requires : goal.of_order-requires
of_order-requires c = omega (arith, of_total c.args.order c.parts.result.now, c.parts.ensures.fits)
