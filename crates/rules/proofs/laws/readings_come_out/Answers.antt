use Rattle.rules.proofs.Readings.{readings_come_out}
use Rattle.rules.proofs.laws.readings_come_out.Goals as goal

pub returns : goal.returns
returns c = readings_come_out
