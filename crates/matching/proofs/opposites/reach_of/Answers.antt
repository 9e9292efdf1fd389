use Rattle.std.proofs.Common.{ap, ◌∙◌}
use Rattle.std.specs.Bool.{then_some}
use Rattle.memory.specs.States.{book_of}
use Rattle.matching.proofs.Reaching.{reach_is}
use Rattle.matching.proofs.opposites.reach_of.Goals as goal

pub returns : goal.returns
returns c =
    record {
      side = c.opposite-side.ensures;
      prices = λ rank. reach_is rank (book_of c.args.state.now) c.args.order c.opposite-side.result c.then_some.result c.away.result c.opposite-side.ensures (c.then_some.ensures ∙ ap (λ t. then_some t c.args.order.price) c.has_limit.ensures) c.away.ensures;
    }
