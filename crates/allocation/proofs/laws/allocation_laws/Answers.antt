use Rattle.allocation.proofs.Opposite.{turned_order}
use Rattle.allocation.proofs.Leading.{nobody_leads}
use Rattle.allocation.proofs.TurnRuns.{parity_run}
use Rattle.allocation.proofs.laws.allocation_laws.Goals as goal

pub returns : goal.returns
returns c = record { turned = turned_order; lead = nobody_leads; parity = parity_run }
