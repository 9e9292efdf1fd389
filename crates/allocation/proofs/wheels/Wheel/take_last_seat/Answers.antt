use Rattle.std.proofs.Common.{length, sym, ap, ◌∙◌, subst, arith, lit<}
use Rattle.std.proofs.lemmas.List.{length_push}
use Rattle.arrays.specs.Items.{items}
use Rattle.allocation.proofs.Room.{OnceEach, room, last_seat}
use Rattle.allocation.proofs.wheels.Wheel.take_last_seat.Goals as goal

pub push-requires : goal.push-requires
push-requires c =
    let w = c.args.self.now in
    (lit< tt, room (items w.seats) c.args.participant (record { once = w.once; known = w.known }) c.requires.known.0 c.requires.known.1 c.requires.away)

pub invariant_of-self : goal.invariant_of-self
invariant_of-self c =
    let w = c.args.self.now in
    let s : OnceEach (items c.push.new.self) = subst OnceEach (sym c.push.ensures) (last_seat (items w.seats) c.args.participant c.requires.known.0 c.requires.known.1 c.requires.away (record { once = w.once; known = w.known })) in
    record {
      once = s.once;
      empty = λ e. absurd (omega (arith, length_push (items w.seats) c.args.participant, ap length (sym c.push.ensures ∙ e)));
      known = s.known;
    }
