use Rattle.std.proofs.Common.{ltb, map, sym, ap, ◌∙◌}
use mathlib.Core.List.{map-map}
use Rattle.allocation.specs.ByTime.{shares_in_order}
use Rattle.allocation.specs.Wheels.{retain}
use Rattle.allocation.specs.Memory.{wheel_of}
use Rattle.allocation.specs.Dealings.{interest, claims_left}
use Rattle.allocation.proofs.dealings.TimeDealing.deal.Goals as goal

pub returns : goal.returns
returns g c =
    let f = g.C.Claimed.claim in
    let cs = map f c.args.claims.now in
    let shares = c.in_order.ensures ∙ ap (shares_in_order c.args.quantity) (sym (map-map (λ x. x.size) f c.args.claims.now)) in
    record {
      shares = shares;
      wheel = c.lose_seats_without_interest.ensures ∙ ap (λ xs. retain (λ p. ltb 0 (interest p (claims_left cs xs))) (wheel_of c.args.wheel.now)) shares;
    }
