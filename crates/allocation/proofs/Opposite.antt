-- A ranking turned round is a ranking. Assumes nothing.
use Rattle.std.proofs.Common.{sym}
use Rattle.allocation.specs.Rankings.{TurnedRoundItRanksToo}

pub turned_order : TurnedRoundItRanksToo
turned_order good o = record { same = λ a b h g. sym (o.same b a h g); either = λ a b. o.either b a; along = λ a b c h g. o.along c b a g h }
