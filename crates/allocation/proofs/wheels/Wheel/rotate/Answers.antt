use Rattle.std.proofs.Common.{sym, refl, subst}
use Rattle.arrays.specs.Items.{items}
use Rattle.allocation.proofs.Room.{OnceEach, turned_seats}
use Rattle.allocation.proofs.wheels.Wheel.rotate.Goals as goal

pub invariant_of-self : goal.invariant_of-self
invariant_of-self c =
    let w = c.args.self.now in
    let s : OnceEach (items c.rotate_left.new.self) = subst OnceEach (sym c.rotate_left.ensures) (turned_seats (items w.seats) (record { once = w.once; known = w.known })) in
    record { once = s.once; empty = λ _. refl; known = s.known }
