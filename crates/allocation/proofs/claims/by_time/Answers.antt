use Rattle.std.proofs.Common.{◌≡◌, ℕ, ◌<◌, [], ◌++◌, map, length, get_or, take, sym, ap, subst, ◌∙◌, arith}
use Rattle.std.proofs.ByRecursion.{All-get_or}
use Rattle.std.proofs.lemmas.List.{take_all, at_drop_all, append-nil}
use Rattle.allocation.specs.ByTime.{time_shares}
use Rattle.allocation.specs.Amounts.{amounts}
use Rattle.allocation.proofs.Drawn.{by_time_more}
use Rattle.allocation.proofs.claims.by_time.Invariants.{draws}
use Rattle.allocation.proofs.claims.by_time.Goals as goal

pub loop-i-preserved : goal.loop-i-preserved
loop-i-preserved g c = λ group h.
    let l = c.loop-i in
    let e = c.index-claims-i in
    let is : c.group.result ≡ group (g.C.Claimed.claim e.result) = h c.claim-claim.result c.group.result c.group.ensures ∙ ap group c.claim-claim.ensures in
    let claimed : c.claim-claim.result ≡ g.C.Claimed.claim (get_or c.args.claims.now l.i e.result) = c.claim-claim.ensures ∙ ap g.C.Claimed.claim e.is in
    let each = All-get_or (λ x. (k : ℕ) → goal.F-post g c.args.group (g.C.Claimed.claim x) k → k < length c.args.allotted.now) c.args.claims.now l.i e.result c.loop-i-test.true c.requires.groups_there in
    let there : c.group.result < length l.allotted = omega (arith, each c.group.result (subst (λ x. goal.F-post g c.args.group x c.group.result) claimed c.group.ensures)) in
    by_time_more (draws g group) c.args.claims.now l.i e.result l.allotted c.draw.new.allotted l.shares c.draw.result c.group.result c.claim-claim.result.size c.loop-i-test.true (omega arith) e.is is (ap (λ x. x.size) c.claim-claim.ensures) there c.draw.ensures.takes c.draw.ensures.after
    ∙ l.invariant group h

pub returns : goal.returns
returns g c = λ group h.
    let l = c.loop-i in
    let n = take_all l.i l.shares (omega arith) in
    let e = at_drop_all (λ z. take l.i l.shares ++ time_shares (amounts l.allotted) (map (draws g group) z)) c.args.claims.now l.i c.loop-i-test.false in
    sym (append-nil l.shares) ∙ ap (λ z. z ++ []) (sym n) ∙ sym e ∙ l.invariant group h
