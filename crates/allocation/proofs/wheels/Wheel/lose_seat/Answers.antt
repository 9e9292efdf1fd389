use Rattle.std.proofs.Common.{rules}
use Rattle.allocation.specs.Wheels.{other_than}
use Rattle.allocation.proofs.wheels.Wheel.lose_seat.Goals as goal

pub retain-requires-clause-tests : goal.retain-requires-clause-tests
retain-requires-clause-tests c = (other_than c.args.participant, λ k b gives. search rules)
