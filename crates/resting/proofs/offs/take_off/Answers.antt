use Rattle.std.proofs.Common.{length, get_or, set, ap, ◌∙◌, arith}
use Rattle.std.proofs.lemmas.List.{length-set}
use Rattle.rules.specs.Books.{nothing_at}
use Rattle.levels.specs.Sides.{levels_of}
use Rattle.resting.proofs.Off.{without_hidden, without_shown, off_both, twice}
use Rattle.resting.proofs.offs.take_off.Goals as goal

pub off_shown-requires-clause-place : goal.off_shown-requires-clause-place
off_shown-requires-clause-place c =
    let ls = levels_of c.args.levels.now in
    omega (arith, c.requires.place, ap length (c.off_hidden-left.ensures.level (nothing_at 0)), length-set ls c.args.i (without_hidden c.args.order c.args.quantity (get_or ls c.args.i (nothing_at 0))))

pub returns : goal.returns
returns c = λ d.
    let ls = levels_of c.args.levels.now in
    twice (without_hidden c.args.order c.args.quantity) (without_shown c.args.order c.off_hidden-left.result) ls (levels_of c.off_hidden-left.new.levels) (levels_of c.off_shown.new.levels) c.args.i d c.requires.place (c.off_hidden-left.ensures.level d) (c.off_shown.ensures d)
    ∙ ap (λ m. set ls c.args.i (without_shown c.args.order m (without_hidden c.args.order c.args.quantity (get_or ls c.args.i d)))) (c.off_hidden-left.ensures.left d)
    ∙ ap (set ls c.args.i) (off_both c.args.order c.args.quantity (get_or ls c.args.i d))
