use Rattle.std.proofs.Common.{◌≡◌, get_or, set, ap, ◌∙◌, rules}
use Rattle.orders.specs.Rows.{rows_of, less}
use Rattle.orders.proofs.tables.OrderTable.decrement.Goals as goal

pub returns : goal.returns
returns c = λ d.
    let e = c.edit.ensures d in
    let y : e.0 ≡ less (get_or (rows_of c.args.self.now) c.args.i d) c.args.n = search rules in
    e.2 ∙ ap (set (rows_of c.args.self.now) c.args.i) y
