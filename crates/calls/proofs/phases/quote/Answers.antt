use Rattle.std.proofs.Common.{[], refl}
use Rattle.allocation.specs.Dealings.{time}
use Rattle.allocation.specs.Shares.{time_lawful}
use Rattle.rules.specs.Books.{ranked_by}
use Rattle.memory.proofs.Props.{standing}
use Rattle.memory.proofs.Staying.{keeps}
use Rattle.calls.proofs.Quiet.{requoted}
use Rattle.calls.proofs.phases.quote.Goals as goal

pub invariant_of-book-3 : goal.invariant_of-book-3
invariant_of-book-3 g c =
    let s = c.args.book.now.state in
    let rank = ranked_by g.K.Ranking.initial g.K.Ranking.good in
    record { stands = keeps rank g.met.K.Ranking.ordered time time_lawful (requoted rank time s _ [] (standing rank s c.args.book.now.stands) refl c.args.bid c.args.offer c.requires.fine c.requires.phase refl) c.args.book.now.stands }

pub returns : goal.returns
returns g c = λ deal rows.
    let s = c.args.book.now.state in
    let rank = ranked_by g.K.Ranking.initial g.K.Ranking.good in
    requoted rank deal s _ rows (standing rank s c.args.book.now.stands) refl c.args.bid c.args.offer c.requires.fine c.requires.phase refl
