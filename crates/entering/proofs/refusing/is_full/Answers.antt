use Rattle.std.proofs.Common.{◌&&◌, sym, ap, ◌∙◌}
use Rattle.std.proofs.lemmas.Bool.{le-leb, lt-leb}
use Rattle.rules.specs.Refusals.{rests}
use Rattle.orders.specs.Rows.{rows_of}
use Rattle.entering.proofs.Judged.{many_rest}
use Rattle.entering.proofs.refusing.is_full.Goals as goal

pub returns-then-len-ge-ORDERS : goal.returns-then-len-ge-ORDERS
returns-then-len-ge-ORDERS c =
    c.can_rest.ensures
    ∙ ap (λ t. t && rests c.args.order.kind) (sym (le-leb 128 c.len.result c.if-len-ge-ORDERS.true) ∙ many_rest (rows_of c.args.state.now.orders) c.len.result c.len.ensures.count)

pub returns-else-len-ge-ORDERS : goal.returns-else-len-ge-ORDERS
returns-else-len-ge-ORDERS c =
    let few = lt-leb 128 c.len.result c.if-len-ge-ORDERS.false in
    few ∙ ap (λ t. t && rests c.args.order.kind) (sym few ∙ many_rest (rows_of c.args.state.now.orders) c.len.result c.len.ensures.count)
