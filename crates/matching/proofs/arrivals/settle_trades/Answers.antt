use Rattle.std.proofs.Common.{◌≡◌, sym, ap, ◌∙◌, subst}
use Rattle.rules.specs.Books.{Book, ranked_by, with_orders}
use Rattle.rules.specs.Reserve.{replenish}
use Rattle.orders.specs.Rows.{rows_of, orders_of}
use Rattle.orders.specs.Deducted.{taken_from}
use Rattle.orders.proofs.Taken.{orders_in, same_orders}
use Rattle.memory.specs.States.{book_of}
use Rattle.matching.specs.Underway.{Underway}
use Rattle.matching.proofs.arrivals.settle_trades.Goals as goal

pub replenish_all-requires : goal.replenish_all-requires
replenish_all-requires g c =
    let rank = ranked_by g.K.Ranking.initial g.K.Ranking.good in
    let b = book_of c.args.state.now in
    let same : orders_of c.deduct.new.self ≡ b.orders = ap orders_in c.deduct.ensures ∙ same_orders (λ r. taken_from r.order.number c.args.rows.now) (rows_of c.args.state.now.orders) in
    subst (λ (x : Book). Underway rank x.lot x.orders 128 x) (sym (ap (λ os. with_orders os b) same)) c.requires.book

pub returns : goal.returns
returns g c =
    let rank = ranked_by g.K.Ranking.initial g.K.Ranking.good in
    let b = book_of c.args.state.now in
    let same : orders_of c.deduct.new.self ≡ b.orders = ap orders_in c.deduct.ensures ∙ same_orders (λ r. taken_from r.order.number c.args.rows.now) (rows_of c.args.state.now.orders) in
    record { book = c.replenish_all.ensures.book ∙ ap (λ os. replenish rank (with_orders os b)) same; table = ap rows_of c.replenish_all.ensures.orders ∙ c.deduct.ensures }
