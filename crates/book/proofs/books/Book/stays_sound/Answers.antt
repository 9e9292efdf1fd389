use Rattle.std.proofs.Common.{subst}
use Rattle.rules.specs.Books.{ranked_by}
use Rattle.rules.specs.Invariants.{SoundBook}
use Rattle.memory.proofs.Props.{standing}
use Rattle.book.proofs.books.Book.stays_sound.Goals as goal

pub returns : goal.returns
returns g c =
    let rank = ranked_by g.K.Ranking.initial g.K.Ranking.good in
    let m = c.self.inside.memory in
    subst (SoundBook rank) c.self.view_is (standing rank m.state m.stands).sound
