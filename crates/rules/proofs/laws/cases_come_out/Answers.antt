use Rattle.rules.proofs.Cases.{cases_come_out}
use Rattle.rules.proofs.laws.cases_come_out.Goals as goal

pub returns : goal.returns
returns c = cases_come_out
