use Rattle.std.proofs.Common.{◌≡◌, ◌<◌, min, true, List, length, get_or, sym, ap, ◌∙◌, arith}
use Rattle.std.proofs.lemmas.List.{length-set, set-get_or, get_or-set_same}
use Rattle.rules.specs.Books.{Level, nothing_at, ranked_by}
use Rattle.rules.specs.Lists.{any}
use Rattle.rules.specs.Changes.{on_price}
use Rattle.rules.specs.Quantities.{of_side}
use Rattle.rules.specs.Reserve.{runs_low, join_hidden, show_anew, hidden_of}
use Rattle.rules.proofs.Levels.{on_price_of}
use Rattle.levels.specs.Heads.{count}
use Rattle.levels.specs.Sides.{levels_of}
use Rattle.resting.specs.Earned.{earned}
use Rattle.resting.specs.Replenished.{joined}
use Rattle.resting.proofs.Refilled.{level_of_side}
use Rattle.resting.proofs.Renewed.{any_at, replenished_at, replenished_not, low_joined}
use Rattle.resting.proofs.Off.{twice}
use Rattle.resting.proofs.marks.MarkTerms.replenish.Goals as goal

pub join_later_part-requires-clause-small : goal.join_later_part-requires-clause-small
join_later_part-requires-clause-small g c =
    let rank = ranked_by g.K.Ranking.initial g.K.Ranking.good in
    let e = c.args.order in
    let ls = levels_of c.args.levels.now in
    let f = c.find_or_make-i in
    let ms = levels_of f.new.self in
    let same : on_price rank e.side e.price (λ l. l) ls ≡ ms = f.ensures.finds (λ l. l) (nothing_at 0) ∙ set-get_or ms f.result (nothing_at 0) in
    omega (
      arith,
      c.requires.small,
      level_of_side e.number ms f.result (nothing_at 0) f.ensures.within,
      ap (of_side e.number) same,
      on_price_of rank e.side e.number 0 e.price (λ l. l) ls (λ l. omega arith),
    )

pub returns-then-not-is_low : goal.returns-then-not-is_low
returns-then-not-is_low g c =
    let rank = ranked_by g.K.Ranking.initial g.K.Ranking.good in
    let f = c.find_or_make-i in
    let z = nothing_at 0 in
    replenished_not rank c.args.self.lot c.args.self.away c.args.order (levels_of c.args.levels.now) (levels_of f.new.self) f.result z (λ h. f.ensures.finds h z) (sym (c.if-not-is_low.ensures z))

pub show_new_part-requires : goal.show_new_part-requires
show_new_part-requires g c =
    let rank = ranked_by g.K.Ranking.initial g.K.Ranking.good in
    let e = c.args.order in
    let lot = c.args.self.lot in
    let f = c.find_or_make-i in
    let z = nothing_at 0 in
    let ls = levels_of c.args.levels.now in
    let ms = levels_of f.new.self in
    let js = levels_of c.join_later_part.new.levels in
    let one : js ≡ joined rank lot e ls = c.join_later_part.ensures z ∙ sym (f.ensures.finds (join_hidden lot e.number) z) in
    let lt : f.result < length js = omega (arith, f.ensures.within, ap length (c.join_later_part.ensures z), length-set ms f.result (join_hidden lot e.number (get_or ms f.result z))) in
    let changed = join_hidden lot e.number (get_or ms f.result z) in
    let here : get_or js f.result z ≡ changed = ap (λ xs. get_or xs f.result z) (c.join_later_part.ensures z) ∙ get_or-set_same ms f.result changed z f.ensures.within in
    let low : runs_low lot e.number (get_or js f.result z) ≡ true = ap (runs_low lot e.number) here ∙ low_joined lot e.number (get_or ms f.result z) (sym (c.if-not-is_low.ensures z)) in
    let few : count (joined rank lot e ls) < 384 = c.requires.parts (ap (any (runs_low lot e.number)) (sym one) ∙ any_at (runs_low lot e.number) js f.result z lt low) in
    record {
      place = lt;
      order = c.requires.order;
      parts = omega (arith, few, ap count one);
      room = omega (arith, c.requires.room, c.join_later_part.auto.room);
    }

pub returns : goal.returns
returns g c =
    let rank = ranked_by g.K.Ranking.initial g.K.Ranking.good in
    let e = c.args.order in
    let lot = c.args.self.lot in
    let f = c.find_or_make-i in
    let z = nothing_at 0 in
    let ls = levels_of c.args.levels.now in
    let ms = levels_of f.new.self in
    let js = levels_of c.join_later_part.new.levels in
    let one : js ≡ joined rank lot e ls = c.join_later_part.ensures z ∙ sym (f.ensures.finds (join_hidden lot e.number) z) in
    let mark : c.earns_mark-mark.result ≡ earned rank e.side e.price (min e.display (hidden_of e.number (joined rank lot e ls))) lot c.args.self.away (joined rank lot e ls) =
    c.earns_mark-mark.ensures
    ∙ ap (λ k. earned rank e.side e.price k lot c.args.self.away js) c.size_to_show-n.ensures
    ∙ ap (λ (xs : List Level). earned rank e.side e.price (min e.display (hidden_of e.number xs)) lot c.args.self.away xs) one in
    twice (join_hidden lot e.number) (show_anew lot e c.earns_mark-mark.result) ms js (levels_of c.show_new_part.new.levels) f.result z f.ensures.within (c.join_later_part.ensures z) (c.show_new_part.ensures z)
    ∙ replenished_at rank lot c.args.self.away e ls ms f.result z (λ h. f.ensures.finds h z) c.earns_mark-mark.result mark
