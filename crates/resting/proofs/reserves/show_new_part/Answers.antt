use Rattle.std.proofs.Common.{◌≡◌, min, length, get_or, set, sym, ap, ◌∙◌, arith}
use Rattle.std.proofs.lemmas.List.{length-set}
use Rattle.rules.specs.Books.{Level, part, level, nothing_at}
use Rattle.rules.specs.Changes.{put}
use Rattle.rules.specs.Quantities.{of_order}
use Rattle.rules.specs.Reserve.{show_anew}
use Rattle.levels.specs.Sides.{levels_of}
use Rattle.resting.proofs.Off.{twice}
use Rattle.resting.proofs.Low.{of_total, show_none, show_some, less_hidden, same_level}
use Rattle.resting.proofs.reserves.show_new_part.Goals as goal

pub returns-then-not-is_low : goal.returns-then-not-is_low
returns-then-not-is_low c = λ d.
    let ls = levels_of c.args.levels.now in
    same_level ls c.args.i d (show_anew c.args.lot c.args.order c.args.mark) (show_none c.args.lot c.args.order c.args.mark (get_or ls c.args.i d) (sym (c.if-not-is_low.ensures d)))

pub of_order-requires : goal.of_order-requires
of_order-requires c = omega (arith, of_total c.args.order.number c.parts.result.now, c.parts.ensures.fits)

pub off_hidden-requires-clause-place : goal.off_hidden-requires-clause-place
off_hidden-requires-clause-place c = omega (arith, c.requires.place, ap length (c.put.ensures (nothing_at 0)), length-set {A = Level})

pub returns : goal.returns
returns c = λ d.
    let ls = levels_of c.args.levels.now in
    let e = c.args.order in
    let l = get_or ls c.args.i d in
    let n : c.min-n.result ≡ min e.display (of_order e.number l.hidden.parts) = c.min-n.ensures ∙ ap (min e.display) (c.of_order.ensures ∙ ap (of_order e.number) (c.parts.ensures.value d)) in
    twice (λ l. level l.price (put (part e.number e.participant c.min-n.result c.args.mark) l.shown) l.hidden) (less_hidden e.number c.min-n.result) ls (levels_of c.put.new.self) (levels_of c.off_hidden.new.levels) c.args.i d c.requires.place
    (c.put.ensures d ∙ ap (λ x. set ls c.args.i (level l.price (put x l.shown) l.hidden)) c.part.ensures) (c.off_hidden.ensures.level d)
    ∙ ap (λ m. set ls c.args.i (less_hidden e.number m (level l.price (put (part e.number e.participant m c.args.mark) l.shown) l.hidden))) n
    ∙ ap (set ls c.args.i) (show_some c.args.lot e c.args.mark l (sym (c.if-not-is_low.ensures d)))
