use Rattle.std.proofs.Common.{◌≡◌, ◌<◌, ◌≤◌, List, length, get_or, set, sym, ap, ◌∙◌, arith, lit<}
use Rattle.std.specs.List.{insert}
use Rattle.std.proofs.lemmas.List.Edits.{length-insert}
use Rattle.arrays.specs.Items.{items}
use Rattle.rules.specs.Books.{Level, nothing_at, ranked_by}
use Rattle.levels.specs.Heads.{span, levels}
use Rattle.levels.specs.Sides.{levels_of}
use Rattle.levels.proofs.Flat.{insert_level, span_inserted, count_levels}
use Rattle.levels.proofs.Places.{on_found, on_made, first_within, good_same, same_total}
use Rattle.levels.proofs.Facts.{prices, parts_are}
use Rattle.levels.proofs.sides.Levels.find_or_make.Goals as goal

pub insert-requires : goal.insert-requires
insert-requires g c =
    let s = c.args.self.now in
    (lit< tt, (omega (arith, c.requires, prices s), omega (arith, c.seek-i.ensures.within, prices s)))

pub invariant_of-self : goal.invariant_of-self
invariant_of-self g c =
    let s = c.args.self.now in
    record { whole = ap span c.insert.ensures ∙ omega (arith, span_inserted (items s.heads) c.seek-i.result c.new.result, c.new.ensures.none, s.whole); limits = s.limits }

pub returns-then-not-stands : goal.returns-then-not-stands
returns-then-not-stands g c =
    let s = c.args.self.now in
    let i = c.seek-i.result in
    let v = c.args.price in
    let rank = ranked_by g.K.Ranking.initial g.K.Ranking.good in
    let le : i ≤ length (levels_of s) = c.seek-i.ensures.within in
    let now' : List Level = levels (items c.insert.new.self) (items s.parts) in
    let same : now' ≡ insert (levels_of s) i (nothing_at v) =
    ap (λ l. levels l (items s.parts)) c.insert.ensures ∙ insert_level (items s.heads) (items s.parts) i c.new.result c.new.ensures.none ∙ ap (insert (levels_of s) i) (c.new.ensures.level _) in
    let spans : span (items c.insert.new.self) ≡ span (items s.heads) = ap span c.insert.ensures ∙ omega (arith, span_inserted (items s.heads) i c.new.result, c.new.ensures.none) in
    record {
      within = omega (arith, ap length same, length-insert (levels_of s) i (nothing_at v) le);
      finds = λ f d. on_made rank c.args.side v f (good_same rank (same_total g.K.Ranking.good g.met.K.Ranking.ordered) c.args.side) (levels_of s) i d le (sym c.if-not-stands.ensures) c.seek-i.ensures.stops (c.seek-i.ensures.skips f)
          ∙ ap (λ l. set l i (f (get_or l i d))) (sym same);
      parts = count_levels (items c.insert.new.self) (items s.parts) (omega (arith, spans, s.whole)) ∙ spans ∙ s.whole ∙ sym (parts_are s);
    }

pub returns-else-not-stands-clause-finds : goal.returns-else-not-stands-clause-finds
returns-else-not-stands-clause-finds g c =
    let s = c.args.self.now in
    let i = c.seek-i.result in
    let rank = ranked_by g.K.Ranking.initial g.K.Ranking.good in
    let lt : i < length (levels_of s) = first_within c.args.price (levels_of s) i (sym c.if-not-stands.ensures) in
    λ f d. on_found rank c.args.side c.args.price f (good_same rank (same_total g.K.Ranking.good g.met.K.Ranking.ordered) c.args.side) (levels_of s) i d lt (sym c.if-not-stands.ensures) (c.seek-i.ensures.skips f)
