use Rattle.std.proofs.Common.{false, ap, arith}
use Rattle.rules.specs.Books.{part, nothing_at}
use Rattle.rules.specs.Quantities.{of_order}
use Rattle.rules.specs.declared.orders.Part.{Part}
use Rattle.resting.proofs.Low.{of_at}
use Rattle.resting.proofs.reserves.raise.Goals as goal

pub set_part-requires-clause-small : goal.set_part-requires-clause-small
set_part-requires-clause-small c =
    let d = part 0 0 0 false in
    omega (
      arith,
      c.requires.small,
      ap (λ (p : Part). p.quantity) c.with_quantity.ensures,
      ap (of_order c.args.order) (c.parts-parts.ensures.value (nothing_at 0)),
      of_at c.args.order c.parts-parts.result.now c.in-Some.k d c.in-Some.ensures.within (c.in-Some.ensures.owner d),
    )
