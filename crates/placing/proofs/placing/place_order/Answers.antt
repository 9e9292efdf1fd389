use Rattle.std.proofs.Common.{[], ◌∷◌, ◌++◌, map, ap, ◌∙◌}
use Rattle.std.proofs.lemmas.List.{map_push}
use Rattle.rules.specs.Books.{Book, with_orders}
use Rattle.rules.specs.Entering.{with_order}
use Rattle.orders.specs.Rows.{rows_of}
use Rattle.orders.specs.declared.tables.Resting.{Resting}
use Rattle.memory.specs.States.{book_of}
use Rattle.placing.proofs.placing.place_order.Goals as goal

pub returns : goal.returns
returns g c =
    let x : Book = book_of c.place_parts.new.state in
    let row : Resting = record { order = c.args.order; quantity = c.args.left } in
    record {
      book =
          ap (λ os. with_orders os x) (ap (map (λ r. r.order)) c.push.ensures ∙ map_push (λ r. r.order) (rows_of c.place_parts.new.state.orders) row)
          ∙ ap (with_order c.args.order) c.place_parts.ensures.book;
      table = c.push.ensures ∙ ap (λ rs. rs ++ (row ∷ [])) c.place_parts.ensures.table;
    }
