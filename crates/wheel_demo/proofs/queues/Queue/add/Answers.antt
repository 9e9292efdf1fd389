use Rattle.std.proofs.Common.{◌≡◌, true, is_ok, sym, ap, ◌∙◌, rules}
use Rattle.arrays.specs.Items.{items}
use Rattle.allocation.specs.Memory.{wheel_of}
use Rattle.wheel_demo.specs.Admitted.{admissible}
use Rattle.wheel_demo.specs.Queues.{Standing, joined}
use Rattle.wheel_demo.specs.Memory.{standing}
use Rattle.wheel_demo.proofs.Interests.{is_ok-admitted}
use Rattle.wheel_demo.proofs.Sound.{sound_queue, sound_joined}
use Rattle.wheel_demo.proofs.queues.Queue.add.Goals as goal

pub invariant_of-self : goal.invariant_of-self
invariant_of-self g c =
    let s = c.args.self.now in
    let x = c.args.claim in
    let ok : admissible x ≡ true = sym (is_ok-admitted x) ∙ ap is_ok (sym c.admit.ensures) ∙ search rules in
    let after : Standing = record { claims = items c.push.new.self; wheel = wheel_of c.ensure_seat.new.self } in
    let e : after ≡ joined (standing s) x = λ i. record { claims = c.push.ensures i; wheel = c.ensure_seat.ensures i } in
    let h = sound_joined s.lot (standing s) after x (sound_queue s) ok e in
    record { admitted = h.admitted; seated = h.seated }
