use Rattle.std.proofs.Common.{sym, refl}
use Rattle.rules.specs.Books.{ranked_by}
use Rattle.memory.specs.States.{book_of}
use Rattle.matching.proofs.Renewing.{not_renewed}
use Rattle.matching.proofs.renewals.renew_order.Goals as goal

pub returns-else-is_reserve : goal.returns-else-is_reserve
returns-else-is_reserve g c =
    record { book = not_renewed (ranked_by g.K.Ranking.initial g.K.Ranking.good) (book_of c.args.state.now) c.args.order (sym c.if-is_reserve.ensures); orders = refl }
