use Rattle.std.proofs.Common.{◌≡◌, ◌^◌, ◌<◌, List, filter, length, sym, ap, ◌∙◌, subst, map-id, arith, rules}
use Rattle.std.specs.List.{AllByRecursion}
use Rattle.arrays.specs.Items.{items}
use Rattle.arrays.proofs.Bounds.{length_items}
use Rattle.allocation.specs.Dealings.{Dealt, Seated, interest, claims_left, total}
use Rattle.allocation.specs.Memory.{wheel_of}
use Rattle.allocation.specs.declared.claims.Claim.{Claim}
use Rattle.wheel_demo.specs.Queues.{Standing, served, unfilled}
use Rattle.wheel_demo.specs.Memory.{standing}
use Rattle.wheel_demo.proofs.Interests.{each_admitted, each_known, total_most}
use Rattle.wheel_demo.proofs.Sound.{sound_queue, sound_served}
use Rattle.wheel_demo.proofs.queues.Queue.deal.Goals as goal

pub deal-requires : goal.deal-requires
deal-requires g c =
    let s = c.args.self.now in
    let cs = items s.claims in
    let ok = each_admitted cs s.admitted in
    let now = c.as_slice-claims.result.now in
    let is : now ≡ cs = c.as_slice-claims.ensures in
    let same = sym (map-id now ∙ is) in
    record {
      one_each = c.if-shares-count.false ∙ c.count.ensures ∙ ap length (sym is);
      known = subst (λ l. AllByRecursion (λ x. x.participant < 25) l) (sym is) (each_known cs ok);
      fits = subst (λ l. total l < 2 ^ 32) same (omega (arith, total_most cs ok, length_items s.claims));
      seated = subst (λ l. Seated s.lot (wheel_of s.wheel) (λ p. interest p l)) same s.seated;
    }

pub invariant_of-self : goal.invariant_of-self
invariant_of-self g c =
    let s = c.args.self.now in
    let q = c.args.quantity in
    let cs = items s.claims in
    let made : List Claim → Dealt = g.D.Dealing.meaning q (wheel_of s.wheel) s.lot in
    let same = map-id c.as_slice-claims.result.now ∙ c.as_slice-claims.ensures in
    let kept = c.retain.ensures unfilled (λ x b k. search rules) in
    let left = kept ∙ ap (filter unfilled) (c.reduce.ensures ∙ ap (claims_left cs) (c.deal.ensures.shares ∙ ap (λ l. (made l).shares) same)) in
    let wheel = c.deal.ensures.wheel ∙ ap (λ l. (made l).wheel) same in
    let after : Standing = record { claims = items c.retain.new.self; wheel = wheel_of c.deal.new.wheel } in
    let e : after ≡ served (standing s) (made cs) = λ i. record { claims = left i; wheel = wheel i } in
    let well = g.met.D.Dealing.lawful q (wheel_of s.wheel) s.lot cs s.seated in
    let h = sound_served q s.lot (standing s) after (made cs) (sound_queue s) well e in
    record { admitted = h.admitted; seated = h.seated }
