use Rattle.std.proofs.Common.{sym, refl, subst}
use Rattle.arrays.specs.Items.{items}
use Rattle.allocation.proofs.Room.{OnceEach, dropped_seat}
use Rattle.allocation.proofs.wheels.Wheel.lose_first.Goals as goal

pub invariant_of-self : goal.invariant_of-self
invariant_of-self c =
    let w = c.args.self.now in
    let s : OnceEach (items c.remove.new.self) = subst OnceEach (sym c.remove.ensures) (dropped_seat (items w.seats) (record { once = w.once; known = w.known })) in
    record { once = s.once; empty = λ _. refl; known = s.known }
