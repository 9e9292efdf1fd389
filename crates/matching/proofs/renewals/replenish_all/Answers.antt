use Rattle.std.proofs.Common.{◌≡◌, ◌+◌, ◌<◌, length, get_or, sym, refl, ap, ◌∙◌, subst, arith}
use Rattle.std.proofs.lemmas.List.{length-map}
use Rattle.std.specs.List.{ContainsAt as Has}
use Rattle.std.proofs.ByRecursion.{has_get_or}
use Rattle.rules.specs.Books.{ranked_by}
use Rattle.rules.specs.Reserve.{replenish_order}
use Rattle.rules.specs.declared.orders.Order.{Order}
use Rattle.orders.specs.Rows.{rows_of, orders_of}
use Rattle.memory.specs.States.{book_of}
use Rattle.matching.proofs.Renewing.{order_at, underway_own, underway_within, renewing_start, renewing_more, renewing_over}
use Rattle.matching.proofs.renewals.replenish_all.Goals as goal

pub loop-i-init : goal.loop-i-init
loop-i-init g c =
    let b = book_of c.args.state.now in
    (refl, renewing_start (ranked_by g.K.Ranking.initial g.K.Ranking.good) g.met.K.Ranking.ordered b.lot b.orders b c.requires)

pub row-requires : goal.row-requires
row-requires g c = omega (arith, c.loop-i-test.true, c.len-i-end.ensures.count, ap (λ t. length (rows_of t)) c.loop-i.invariant.0)

pub renew_order-requires : goal.renew_order-requires
renew_order-requires g c =
    let rank = ranked_by g.K.Ranking.initial g.K.Ranking.good in
    let O = g.met.K.Ranking.ordered in
    let b = book_of c.args.state.now in
    let x = book_of c.loop-i.state in
    let rs = rows_of c.loop-i.state.orders in
    let r = c.row.result.now in
    let lt : c.loop-i.i < length rs = omega (arith, c.loop-i-test.true, c.len-i-end.ensures.count, ap (λ t. length (rows_of t)) c.loop-i.invariant.0) in
    record {
      book = underway_own rank O b.lot b.orders x 384 (underway_within rank O b.lot b.orders x (128 + c.loop-i.i) 384 (omega (arith, c.loop-i-test.true, c.len-i-end.ensures.most)) c.loop-i.invariant.1.underway);
      rests = subst (λ (e : Order). Has x.orders e) (sym (order_at rs c.loop-i.i r lt c.row.ensures)) (has_get_or x.orders c.loop-i.i r.order (omega (arith, lt, length-map rs (λ r. r.order))));
    }

pub loop-i-preserved : goal.loop-i-preserved
loop-i-preserved g c =
    let rank = ranked_by g.K.Ranking.initial g.K.Ranking.good in
    let b = book_of c.args.state.now in
    let x = book_of c.loop-i.state in
    let rs = rows_of c.loop-i.state.orders in
    let r = c.row.result.now in
    let same : x.orders ≡ b.orders = ap orders_of c.loop-i.invariant.0 in
    let lt : c.loop-i.i < length rs = omega (arith, c.loop-i-test.true, c.len-i-end.ensures.count, ap (λ t. length (rows_of t)) c.loop-i.invariant.0) in
    let long : c.loop-i.i < length b.orders = omega (arith, c.loop-i-test.true, c.len-i-end.ensures.count, length-map (rows_of c.args.state.now.orders) (λ r. r.order)) in (
      c.renew_order.ensures.orders ∙ c.loop-i.invariant.0,
      renewing_more rank g.met.K.Ranking.ordered b.lot b.orders c.loop-i.i b x (book_of c.renew_order.new.state) r.order long c.loop-i.invariant.1
          (c.renew_order.ensures.book ∙ ap (replenish_order rank x) (order_at rs c.loop-i.i r lt c.row.ensures ∙ ap (λ es. get_or es c.loop-i.i r.order) same)),
    )

pub returns : goal.returns
returns g c =
    let b = book_of c.args.state.now in
    record {
      book = renewing_over (ranked_by g.K.Ranking.initial g.K.Ranking.good) g.met.K.Ranking.ordered b.lot b.orders c.loop-i.i b (book_of c.loop-i.state) (omega (arith, c.loop-i-test.false, c.len-i-end.ensures.count, length-map (rows_of c.args.state.now.orders) (λ r. r.order))) refl c.loop-i.invariant.1;
      orders = c.loop-i.invariant.0;
    }
