use Rattle.std.proofs.Common.{◌≡◌, rules}
use Rattle.arrays.specs.Items.{items}
use Rattle.allocation.specs.Memory.{wheel_of}
use Rattle.wheel_demo.specs.Queues.{Standing, without, not_of}
use Rattle.wheel_demo.specs.Memory.{standing}
use Rattle.wheel_demo.proofs.Sound.{sound_queue, sound_without}
use Rattle.wheel_demo.proofs.queues.Queue.leave.Goals as goal

pub invariant_of-self : goal.invariant_of-self
invariant_of-self g c =
    let s = c.args.self.now in
    let p = c.args.participant in
    let kept = c.retain.ensures (not_of p) (λ x b k. search rules) in
    let after : Standing = record { claims = items c.retain.new.self; wheel = wheel_of c.lose_seat.new.self } in
    let e : after ≡ without (standing s) p = λ i. record { claims = kept i; wheel = c.lose_seat.ensures i } in
    let h = sound_without s.lot (standing s) after p (sound_queue s) e in
    record { admitted = h.admitted; seated = h.seated }
