use Rattle.std.proofs.Common.{[], refl}
use Rattle.allocation.specs.Dealings.{time}
use Rattle.allocation.specs.Shares.{time_lawful}
use Rattle.rules.specs.Books.{ranked_by}
use Rattle.memory.proofs.Props.{standing}
use Rattle.memory.proofs.Staying.{keeps}
use Rattle.rules.specs.Books.{with_sides, with_phase}
use Rattle.rules.specs.declared.phases.Phase.TheVariants as Phase
use Rattle.memory.specs.States.{book_of}
use Rattle.calls.proofs.Quiet.{halted}
use Rattle.calls.proofs.phases.halt.Goals as goal

pub invariant_of-book-4 : goal.invariant_of-book-4
invariant_of-book-4 g c =
    let s = c.args.book.now.state in
    let rank = ranked_by g.K.Ranking.initial g.K.Ranking.good in
    record { stands = keeps rank g.met.K.Ranking.ordered time time_lawful (halted rank time s _ [] (standing rank s c.args.book.now.stands) refl c.requires.phase (λ i. with_phase Phase.Halted (with_sides (c.unmark.ensures i) (c.unmark-2.ensures i) (book_of s)))) c.args.book.now.stands }

pub returns : goal.returns
returns g c = λ deal rows.
    let s = c.args.book.now.state in
    let rank = ranked_by g.K.Ranking.initial g.K.Ranking.good in
    halted rank deal s _ rows (standing rank s c.args.book.now.stands) refl c.requires.phase (λ i. with_phase Phase.Halted (with_sides (c.unmark.ensures i) (c.unmark-2.ensures i) (book_of s)))
