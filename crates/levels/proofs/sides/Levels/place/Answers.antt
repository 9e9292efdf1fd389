use Rattle.std.proofs.Common.{sym, ◌∙◌}
use Rattle.rules.specs.Books.{nothing_at}
use Rattle.rules.specs.Changes.{put}
use Rattle.rules.specs.Trading.{queue_of, with_queue}
use Rattle.levels.proofs.sides.Levels.place.Goals as goal

pub returns : goal.returns
returns g c =
    c.put.ensures (nothing_at 0) ∙ sym (c.find_or_make-i.ensures.finds (λ l. with_queue c.args.step (put c.args.part (queue_of c.args.step l)) l) (nothing_at 0))
