use Rattle.std.proofs.Common.{eqb, ap, ◌∙◌}
use Rattle.std.specs.List.{list_any}
use Rattle.arrays.specs.Items.{items}
use Rattle.allocation.proofs.Room.{list_any-seats}
use Rattle.allocation.proofs.wheels.Wheel.has_seat.Goals as goal

pub returns : goal.returns
returns c =
    c.contains.ensures.value ∙ ap (list_any (λ x. eqb x c.args.participant)) c.seats.ensures.seats ∙ list_any-seats c.args.participant (items c.args.self.now.seats)
