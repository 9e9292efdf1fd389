use Rattle.std.proofs.Common.{◌≡◌, ◌-◌, ◌<◌, map, length, get_or, ap, ◌∙◌, arith, rules}
use Rattle.std.proofs.ByRecursion.{All-get_or}
use Rattle.std.proofs.lemmas.List.{length-map}
use Rattle.allocation.proofs.Tables.{zeros, left_all, claim_read, counted_fits, counted_more}
use Rattle.allocation.proofs.turns.interests_left.Goals as goal

pub loop-i-init : goal.loop-i-init
loop-i-init g c = λ p. omega (arith, zeros 25 p)

pub add-requires : goal.add-requires
add-requires g c =
    let f = g.C.Claimed.claim in
    let cs = map f c.args.claims.now in
    let xs = c.args.shares.now in
    let e = c.claim-claim.result in
    let at = claim_read f c.args.claims.now c.loop-i.i c.index-claims-i.result e c.loop-i-test.true c.index-claims-i.is c.claim-claim.ensures in
    let known = All-get_or (λ x. (f x).participant < 25) c.args.claims.now c.loop-i.i c.index-claims-i.result c.loop-i-test.true c.requires.known in
    let share : c.unwrap_or-share.result ≡ get_or xs c.loop-i.i 0 = search rules in
    let fits = counted_fits cs xs c.loop-i.i e c.loop-i.table at (omega (arith, length-map c.args.claims.now f)) c.loop-i.invariant c.requires.fits in
    record {
      place = omega (arith, known, ap (λ x. (f x).participant) c.index-claims-i.is, ap (λ x. x.participant) c.claim-claim.ensures);
      fits = omega (arith, fits, c.saturating_sub-size.ensures, share);
    }

pub loop-i-preserved : goal.loop-i-preserved
loop-i-preserved g c =
    let f = g.C.Claimed.claim in
    let cs = map f c.args.claims.now in
    let xs = c.args.shares.now in
    let e = c.claim-claim.result in
    let at = claim_read f c.args.claims.now c.loop-i.i c.index-claims-i.result e c.loop-i-test.true c.index-claims-i.is c.claim-claim.ensures in
    let known = All-get_or (λ x. (f x).participant < 25) c.args.claims.now c.loop-i.i c.index-claims-i.result c.loop-i-test.true c.requires.known in
    let table : length c.loop-i.table ≡ 25 = search rules in
    let place : e.participant < length c.loop-i.table = omega (arith, known, ap (λ x. (f x).participant) c.index-claims-i.is, ap (λ x. x.participant) c.claim-claim.ensures) in
    let share : c.unwrap_or-share.result ≡ get_or xs c.loop-i.i 0 = search rules in
    let size : c.saturating_sub-size.result ≡ e.size - get_or xs c.loop-i.i 0 = c.saturating_sub-size.ensures ∙ ap (λ n. e.size - n) share in
    counted_more cs xs c.loop-i.i e c.loop-i.table at (omega (arith, length-map c.args.claims.now f)) c.loop-i.invariant c.add.new.table place (rw size at c.add.ensures)

pub returns : goal.returns
returns g c =
    let f = g.C.Claimed.claim in
    λ p. omega (arith, c.loop-i.invariant p, left_all (map f c.args.claims.now) c.args.shares.now c.loop-i.i (omega (arith, length-map c.args.claims.now f, c.loop-i-test.false)) p)
