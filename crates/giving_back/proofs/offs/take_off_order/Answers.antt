use Rattle.std.proofs.Common.{sym, ap, ◌∙◌}
use Rattle.rules.specs.Books.{Book, with_side}
use Rattle.rules.specs.TakingOff.{take_off_side}
use Rattle.memory.specs.States.{book_of}
use Rattle.memory.proofs.Lent.{side_lent, side_is}
use Rattle.giving_back.proofs.Taken.{off_on}
use Rattle.giving_back.proofs.offs.take_off_order.Goals as goal

pub returns-clause-book : goal.returns-clause-book
returns-clause-book c =
    let s = c.args.state.now in
    let b : Book = book_of s in
    let t = c.args.order.side in
    let n = c.args.order.number in
    let m = c.args.quantity in
    side_lent s t c.take_off_side.new.levels
    ∙ ap (λ ls. with_side t ls b) (c.take_off_side.ensures ∙ ap (take_off_side n m) (c.side_mut-levels.ensures.value ∙ side_is s t))
    ∙ sym (off_on b.lot n m t b c.requires.elsewhere)
