use Rattle.trading.proofs.Bounded.{side_few}
use Rattle.trading.proofs.laws.rows_fit.Goals as goal

pub returns : goal.returns
returns g c = side_few g.D.Dealing.meaning g.met.D.Dealing.lawful
