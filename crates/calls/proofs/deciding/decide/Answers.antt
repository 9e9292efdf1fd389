use Rattle.std.proofs.Common.{◌≡◌, length, None, sym, ap, ◌∙◌, rules}
use Rattle.rules.specs.Refusals.{first, phase_after}
use Rattle.memory.specs.States.{book_of}
use Rattle.memory.proofs.Props.{standing}
use Rattle.calls.specs.Inputs.{inputs}
use Rattle.calls.proofs.Refusing.{refused_phase, refused_follows, for_call, entry_fine}
use Rattle.calls.proofs.deciding.decide.Goals as goal

pub enter-requires : goal.enter-requires
enter-requires g c =
    let fine = entry_fine c.args.book.now.state.lot (length c.args.report.now) c.in-Open-Enter.order (ap (λ x. first (inputs c.args.book.now.state.lot (length c.args.report.now) x)) (sym c.in-Open-Enter.is-1) ∙ c.requires) in
    record { number = fine.0; participant = fine.1.0; quantity = fine.1.1.0; price = fine.1.1.1.0; display = fine.1.1.1.1.0; report = fine.1.1.1.1.1.0; phase = search rules }

pub returns-in-New-Open : goal.returns-in-New-Open
returns-in-New-Open g c = for_call _ _ c.in-New-Open.is-1 (c.open.ensures _ _)

pub returns-in-New-Quote : goal.returns-in-New-Quote
returns-in-New-Quote g c = for_call _ _ c.in-New-Quote.is-1 (c.quote.ensures _ _)

pub returns-in-Open-Halt : goal.returns-in-Open-Halt
returns-in-Open-Halt g c = for_call _ _ c.in-Open-Halt.is-1 (c.halt.ensures _ _)

pub returns-in-Open-Close : goal.returns-in-Open-Close
returns-in-Open-Close g c = for_call _ _ (search rules) (c.close.ensures _)

pub returns-in-Open-Quote : goal.returns-in-Open-Quote
returns-in-Open-Quote g c = for_call _ _ c.in-Open-Quote.is-1 (c.quote-in-Open-Quote.ensures _ _)

pub returns-in-Open-Cancel : goal.returns-in-Open-Cancel
returns-in-Open-Cancel g c = for_call _ _ c.in-Open-Cancel.is-1 (c.cancel.ensures _)

pub returns-in-Open-Reduce : goal.returns-in-Open-Reduce
returns-in-Open-Reduce g c = for_call _ _ c.in-Open-Reduce.is-1 (c.reduce.ensures _)

pub returns-in-Halted-Resume : goal.returns-in-Halted-Resume
returns-in-Halted-Resume g c = for_call _ _ c.in-Halted-Resume.is-1 (c.resume.ensures _ _)

pub returns-in-Halted-Quote : goal.returns-in-Halted-Quote
returns-in-Halted-Quote g c = for_call _ _ c.in-Halted-Quote.is-1 (c.quote-in-Halted-Quote.ensures _ _)

pub returns-in-Halted-Cancel : goal.returns-in-Halted-Cancel
returns-in-Halted-Cancel g c = for_call _ _ c.in-Halted-Cancel.is-1 (c.cancel-in-Halted-Cancel.ensures _)

pub returns-in-Halted-Reduce : goal.returns-in-Halted-Reduce
returns-in-Halted-Reduce g c = for_call _ _ c.in-Halted-Reduce.is-1 (c.reduce-in-Halted-Reduce.ensures _)

pub returns-in_default : goal.returns-in_default
returns-in_default g c =
    let s = c.args.book.now.state in
    let shut : phase_after s.phase c.args.call ≡ None = search rules in
    refused_follows _ _ _ s _ _ (standing _ s c.args.book.now.stands) (refused_phase (book_of s) (length c.args.report.now) c.args.call c.requires shut)

pub returns-in_default-2 : goal.returns-in_default-2
returns-in_default-2 g c =
    let s = c.args.book.now.state in
    let shut : phase_after s.phase c.args.call ≡ None = search rules in
    refused_follows _ _ _ s _ _ (standing _ s c.args.book.now.stands) (refused_phase (book_of s) (length c.args.report.now) c.args.call c.requires shut)

pub returns-in_default-3 : goal.returns-in_default-3
returns-in_default-3 g c =
    let s = c.args.book.now.state in
    let shut : phase_after s.phase c.args.call ≡ None = search rules in
    refused_follows _ _ _ s _ _ (standing _ s c.args.book.now.stands) (refused_phase (book_of s) (length c.args.report.now) c.args.call c.requires shut)

pub returns-in_default-4 : goal.returns-in_default-4
returns-in_default-4 g c =
    let s = c.args.book.now.state in
    let shut : phase_after s.phase c.args.call ≡ None = search rules in
    refused_follows _ _ _ s _ _ (standing _ s c.args.book.now.stands) (refused_phase (book_of s) (length c.args.report.now) c.args.call c.requires shut)
