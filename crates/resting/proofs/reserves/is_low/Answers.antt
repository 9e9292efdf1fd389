use Rattle.std.proofs.Common.{arith}
use Rattle.resting.proofs.Low.{of_total}
use Rattle.resting.proofs.reserves.is_low.Goals as goal

pub of_order-requires : goal.of_order-requires
of_order-requires c = omega (arith, of_total c.args.order c.parts.result.now, c.parts.ensures.fits)

pub of_order-requires-then-of_order-lot : goal.of_order-requires-then-of_order-lot
of_order-requires-then-of_order-lot c = omega (arith, of_total c.args.order c.parts-then-of_order-lot.result.now, c.parts-then-of_order-lot.ensures.fits)
