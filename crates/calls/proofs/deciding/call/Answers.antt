use Rattle.std.proofs.Common.{length, sym, ◌∙◌, rules}
use Rattle.memory.specs.States.{book_of}
use Rattle.memory.proofs.Props.{standing}
use Rattle.calls.proofs.Refusing.{refused_input, refused_follows, for_reply}
use Rattle.rules.proofs.Rulings.{refused_by}
use Rattle.calls.proofs.deciding.call.Goals as goal

pub returns-in_err-check_inputs : goal.returns-in_err-check_inputs
returns-in_err-check_inputs g c =
    let s = c.args.book.now.state in
    let r = c.in_err-check_inputs.field-0.0 in
    for_reply (search rules) (refused_follows _ _ _ s _ r (standing _ s c.args.book.now.stands) (refused_input (book_of s) (length c.args.report.now) c.args.call r (refused_by _ r (sym c.check_inputs.ensures ∙ c.in_err-check_inputs.was))))
