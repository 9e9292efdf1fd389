use Rattle.std.proofs.Common.{ltb, rules}
use Rattle.allocation.specs.Amounts.{amounts}
use Rattle.allocation.proofs.wheels.Wheel.lose_seats_without_interest.Goals as goal

pub retain-requires-clause-tests : goal.retain-requires-clause-tests
retain-requires-clause-tests g c = (λ p. ltb 0 (amounts c.interests_left-left.result p), λ k b gives. search rules)
