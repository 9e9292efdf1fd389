use Rattle.std.proofs.Common.{◌≡◌, ℕ, ◌-◌, ◌<◌, List, [], map, length, sym, ap, ◌∙◌, subst, rules}
use mathlib.Core.Path.{fun_ext}
use mathlib.Core.List.{map-map}
use Rattle.std.proofs.ByRecursion.{All-weaker}
use Rattle.allocation.specs.ByTime.{time_shares}
use Rattle.allocation.specs.Amounts.{amounts}
use Rattle.allocation.specs.Turns.{Stage, turns}
use Rattle.allocation.specs.Memory.{wheel_of}
use Rattle.allocation.specs.Dealings.{Seated, interest, claims_left, by_participant}
use Rattle.allocation.specs.declared.claims.Claim.{Claim}
use Rattle.allocation.proofs.Tables.{left_none}
use Rattle.allocation.proofs.dealings.ParityDealing.deal.Goals as goal

-- no shares leave the whole interest
whole : (cs : List Claim) (table : List ℕ) → ((p : ℕ) → amounts table p ≡ interest p (claims_left cs [])) → amounts table ≡ (λ p. interest p cs)
whole cs table h = fun_ext (λ p. h p ∙ ap (interest p) (left_none cs))

pub take_turns-taken-requires : goal.take_turns-taken-requires
take_turns-taken-requires g c =
    let cs = map g.C.Claimed.claim c.args.claims.now in
    let same = whole cs c.interests_left-interests.result c.interests_left-interests.ensures in
    subst (λ (f : ℕ → ℕ). Seated c.args.lot (wheel_of c.args.wheel.now) f) (sym same) c.requires.seated

pub by_time-requires-clause-groups_there : goal.by_time-requires-clause-groups_there
by_time-requires-clause-groups_there g c =
    let long : length c.take_turns-taken.result ≡ 25 = search rules in
    All-weaker (λ x. (g.C.Claimed.claim x).participant < 25) _ (λ x known k gives. search rules) c.args.claims.now c.requires.known

pub returns : goal.returns
returns g c =
    let f = g.C.Claimed.claim in
    let cs = map f c.args.claims.now in
    let w = wheel_of c.args.wheel.now in
    let q = c.args.quantity in
    let R = c.args.lot in
    let t = c.take_turns-taken in
    let from : (ℕ → ℕ) → Stage = λ h. record { wheel = w; interests = h; quantity = q } in
    let same = whole cs c.interests_left-interests.result c.interests_left-interests.ensures in
    let given : amounts t.result ≡ (λ p. interest p cs - (turns R q (from (λ p. interest p cs))).interests p) = fun_ext (λ p. t.ensures.each p ∙ ap (λ h. h p - (turns R q (from h)).interests p) same) in
    record {
      shares = c.by_time.ensures (λ x. x.participant) (λ x k gives. search rules) ∙ ap (time_shares (amounts t.result)) (sym (map-map by_participant f c.args.claims.now)) ∙ ap (λ h. time_shares h (map by_participant cs)) given;
      wheel = t.ensures.wheel ∙ ap (λ h. (turns R q (from h)).wheel) same;
    }
