use Rattle.std.proofs.Common.{◌≡◌, filter, sym, ◌∙◌, subst, rules}
use Rattle.arrays.specs.Items.{items}
use Rattle.allocation.specs.Seating.{retain_empty}
use Rattle.allocation.proofs.Room.{OnceEach, kept_seats}
use Rattle.allocation.proofs.wheels.Wheel.retain.Goals as goal

pub invariant_of-self : goal.invariant_of-self
invariant_of-self g c =
    let w = c.args.self.now in
    let p = c.requires.tests.0 in
    let kept : items c.retain.new.self ≡ filter p (items w.seats) = c.retain.ensures p (λ x b k. search rules) in
    let s : OnceEach (items c.retain.new.self) = subst OnceEach (sym kept) (kept_seats p (items w.seats) (record { once = w.once; known = w.known })) in
    record {
      once = s.once;
      empty = λ e. c.used_after-self.ensures p c.requires.tests.1 ∙ retain_empty p (items w.seats) w.used (sym kept ∙ e);
      known = s.known;
    }
