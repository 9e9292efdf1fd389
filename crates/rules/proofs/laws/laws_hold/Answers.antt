use Rattle.rules.specs.Books.{ranked_by}
use Rattle.rules.proofs.Whole.{laws}
use Rattle.rules.proofs.laws.laws_hold.Goals as goal

pub returns : goal.returns
returns g c = laws (ranked_by g.R.Ranking.initial g.R.Ranking.good) g.met.R.Ranking.ordered g.D.Dealing.meaning g.met.D.Dealing.lawful
