use Rattle.std.proofs.Common.{map, sym, ap, ◌∙◌, subst}
use Rattle.rules.specs.Books.{Book}
use Rattle.rules.specs.Rules.{tidy}
use Rattle.levels.specs.Sides.{levels_of}
use Rattle.orders.specs.Rows.{rows_of, orders_of}
use Rattle.memory.specs.States.{book_of, Tallied}
use Rattle.placing.proofs.Kept.{orders_kept, tidy_of, tallied_kept}
use Rattle.placing.proofs.tidying.tidy.Goals as goal

pub returns : goal.returns
returns c =
    let b : Book = book_of c.args.state.now in
    let rows = rows_of c.args.state.now.orders in
    let kept = c.drop_spent.ensures in
    let book = tidy_of b (orders_of c.drop_spent.new.self) (levels_of c.tidy.new.self) (levels_of c.tidy-2.new.self) (ap (map (λ r. r.order)) kept ∙ orders_kept rows b c.requires) c.tidy.ensures c.tidy-2.ensures in
    record {
      book = book;
      tallied = subst (λ x. Tallied (rows_of c.drop_spent.new.self) x) (sym book) (subst (λ rs. Tallied rs (tidy b)) (sym kept) (tallied_kept rows b c.requires));
    }
