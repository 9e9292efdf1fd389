use Rattle.std.proofs.Common.{[], refl}
use Rattle.allocation.specs.Dealings.{time}
use Rattle.allocation.specs.Shares.{time_lawful}
use Rattle.rules.specs.Books.{ranked_by}
use Rattle.memory.proofs.Props.{standing}
use Rattle.memory.proofs.Staying.{keeps}
use Rattle.calls.proofs.Quiet.{opened}
use Rattle.calls.proofs.phases.open.Goals as goal

pub invariant_of-book : goal.invariant_of-book
invariant_of-book g c =
    let s = c.args.book.now.state in
    let rank = ranked_by g.K.Ranking.initial g.K.Ranking.good in
    ((s.sized, tt), (keeps rank g.met.K.Ranking.ordered time time_lawful (opened rank time s _ [] (standing rank s c.args.book.now.stands) refl c.requires.phase refl) c.args.book.now.stands, tt))

pub returns : goal.returns
returns g c = λ deal rows.
    let s = c.args.book.now.state in
    let rank = ranked_by g.K.Ranking.initial g.K.Ranking.good in
    opened rank deal s _ rows (standing rank s c.args.book.now.stands) refl c.requires.phase refl
