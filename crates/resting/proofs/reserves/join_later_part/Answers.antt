use Rattle.std.proofs.Common.{◌≡◌, true, false, ltb, List, get_or, set, sym, ap, ◌∙◌, arith}
use Rattle.std.proofs.lemmas.Bool.{lt-ltb, le-ltb}
use Rattle.allocation.specs.Dealings.{sum}
use Rattle.rules.specs.Lists.{last_alone}
use Rattle.rules.specs.Books.{level}
use Rattle.rules.specs.Changes.{lose}
use Rattle.rules.specs.Quantities.{pieces, of_order}
use Rattle.rules.specs.Reserve.{shows_two, join_hidden}
use Rattle.rules.specs.declared.orders.Part.{Part}
use Rattle.levels.specs.Sides.{levels_of}
use Rattle.resting.proofs.Off.{twice}
use Rattle.resting.proofs.Low.{join_none, join_one, join_two, less_shown, more_hidden, same_level}
use Rattle.resting.proofs.reserves.join_later_part.Goals as goal

pub returns-then-not-is_low : goal.returns-then-not-is_low
returns-then-not-is_low c = λ d.
    let ls = levels_of c.args.levels.now in
    same_level ls c.args.i d (join_hidden c.args.lot c.args.order) (join_none c.args.lot c.args.order (get_or ls c.args.i d) (sym (c.if-not-is_low.ensures d)))

pub returns-then-latest-of_order : goal.returns-then-latest-of_order
returns-then-latest-of_order c = λ d.
    let ls = levels_of c.args.levels.now in
    let i = c.args.i in
    let n = c.args.order in
    let l = get_or ls i d in
    let ps = c.parts-parts.ensures.value d in
    let shares : c.latest_alone-latest.new.shares ≡ last_alone (pieces n l.shown.parts) = c.latest_alone-latest.ensures.shares ∙ ap (λ (xs : List Part). last_alone (pieces n xs)) ps in
    let size : c.latest_alone-latest.result ≡ sum (last_alone (pieces n l.shown.parts)) = c.latest_alone-latest.ensures.size ∙ ap (λ (xs : List Part). sum (last_alone (pieces n xs))) ps in
    let all : c.of_order.result ≡ of_order n l.shown.parts = c.of_order.ensures ∙ ap (of_order n) ps in
    let two : shows_two n l ≡ true = lt-ltb (sum (last_alone (pieces n l.shown.parts))) (of_order n l.shown.parts) (omega (arith, size, all, c.if-latest-of_order.true)) in
    twice (less_shown n) (more_hidden n c.latest_alone-latest.result) ls (levels_of c.lose.new.self) (levels_of c.raise.new.levels) i d c.requires.place
    (c.lose.ensures d ∙ ap (λ xs. set ls i (level l.price (lose xs l.shown) l.hidden)) shares)
    (c.raise.ensures d)
    ∙ ap (λ m. set ls i (more_hidden n m (less_shown n l))) size
    ∙ ap (set ls i) (join_two c.args.lot n l (sym (c.if-not-is_low.ensures d)) two)

pub returns-else-latest-of_order : goal.returns-else-latest-of_order
returns-else-latest-of_order c = λ d.
    let ls = levels_of c.args.levels.now in
    let l = get_or ls c.args.i d in
    let n = c.args.order in
    let few : shows_two n l ≡ false =
    ap (λ (xs : List Part). ltb (sum (last_alone (pieces n xs))) (of_order n xs)) (sym (c.parts-parts.ensures.value d))
    ∙ le-ltb (sum (last_alone (pieces n c.parts-parts.result.now))) (of_order n c.parts-parts.result.now) (omega (arith, c.latest_alone-latest.ensures.size, c.of_order.ensures, c.if-latest-of_order.false)) in
    same_level ls c.args.i d (join_hidden c.args.lot n) (join_one c.args.lot n l few)
