use Rattle.std.proofs.Common.{map, sym, refl, ap, ◌∙◌, rules}
use mathlib.Core.List.{map-map}
use Rattle.allocation.specs.ByTime.{time_shares}
use Rattle.std.proofs.ByRecursion.{All-map}
use Rattle.allocation.proofs.Drawn.{everyone, one_group_same}
use Rattle.allocation.proofs.claims.in_order.Goals as goal

pub by_time-requires-clause-groups_there : goal.by_time-requires-clause-groups_there
by_time-requires-clause-groups_there g c = everyone _ (λ x k gives. search rules) c.args.claims.now

pub returns : goal.returns
returns g c =
    let cs = c.args.claims.now in
    c.by_time.ensures (λ _. 0) (λ x k gives. search rules)
    ∙ one_group_same (map (λ x. (0, (g.C.Claimed.claim x).size)) cs) _ (λ _. c.args.quantity) (All-map _ (λ x. (0, (g.C.Claimed.claim x).size)) cs (everyone _ (λ x. refl) cs)) refl
    ∙ ap (time_shares (λ _. c.args.quantity)) (sym (map-map (λ n. (0, n)) (λ x. (g.C.Claimed.claim x).size) cs))
