use Rattle.std.proofs.Common.{◌≡◌, ◌<◌, [], length, drop, sym, ap, ◌∙◌, arith}
use Rattle.rules.specs.Books.{nothing_at, ranked_by}
use Rattle.rules.specs.Trading.{trade_price, traded, trade_side}
use Rattle.rules.specs.Invariants.{prices}
use Rattle.levels.specs.Sides.{levels_of}
use Rattle.trading.specs.Reached.{reached}
use Rattle.trading.specs.Steps.{at_place}
use Rattle.trading.proofs.Touring.{tour_none, tour_room, tour_more, tour_over, over_levels, over_quantity}
use Rattle.trading.proofs.Closing.{closes_sorted, closes_more, over_reach}
use Rattle.trading.proofs.states.Terms.trade_best_first.Goals as goal
use Rattle.trading.proofs.states.Terms.trade_best_first.Goals.{then-now-eq0-via-then-now-eq0, then-now-eq0-via-else-now-eq0+then-not-has}

pub loop-i-init : goal.loop-i-init
loop-i-init g c =
    let rank = ranked_by g.K.Ranking.initial g.K.Ranking.good in
    let ls = levels_of c.args.levels.now in (
      tour_none g.D.Dealing.meaning c.args.self.now.lot c.args.self.now.arriving c.args.self.now.table.now (reached rank c.args.reach) ls c.args.so_far.left c.args.report.now c.args.so_far.rows c.requires.ready,
      closes_sorted rank g.met.K.Ranking.ordered c.args.reach (prices ls) c.requires.sorted,
    )

pub trade_price-now-requires-clause-rows : goal.trade_price-now-requires-clause-rows
trade_price-now-requires-clause-rows g c =
    let lt : c.loop-i.i < length (levels_of c.loop-i.levels) = omega (arith, c.len-i-end.ensures.count, c.loop-i.invariant.0.size) in
    let reach = reached (ranked_by g.K.Ranking.initial g.K.Ranking.good) c.args.reach in
    tour_room c.loop-i.invariant.0 c.requires.rows lt (ap reach (sym (c.price.ensures (nothing_at 0))) ∙ sym c.if-not-has.ensures)

pub loop-i-preserved : goal.loop-i-preserved
loop-i-preserved g c =
    let ls = levels_of c.loop-i.levels in
    let lt : c.loop-i.i < length ls = omega (arith, c.len-i-end.ensures.count, c.loop-i.invariant.0.size) in
    let reach = reached (ranked_by g.K.Ranking.initial g.K.Ranking.good) c.args.reach in
    let t = c.trade_price-now in (
      tour_more c.loop-i.invariant.0 c.requires.rows lt (ap reach (sym (c.price.ensures (nothing_at 0))) ∙ sym c.if-not-has.ensures) (levels_of t.new.levels) t.result.left t.new.report t.result.rows t.ensures.level t.ensures.left t.ensures.rows t.ensures.count,
      closes_more reach ls c.loop-i.i lt c.loop-i.invariant.1 (trade_price g.D.Dealing.meaning c.args.self.now.lot c.args.self.now.arriving c.args.self.now.table.now c.loop-i.now.left (at_place ls c.loop-i.i)).rest (levels_of t.new.levels) t.ensures.level,
    )

pub returns-then-now-eq0 : goal.returns-then-now-eq0
returns-then-now-eq0 g c =
    let ls = levels_of c.loop-i.levels in
    let w = c.loop-i.invariant.0 in
    let lt : c.loop-i.i < length ls = omega (arith, c.len-i-end.ensures.count, w.size) in
    let reach = reached (ranked_by g.K.Ranking.initial g.K.Ranking.good) c.args.reach in
    let over : trade_side g.D.Dealing.meaning c.args.self.now.lot c.args.self.now.arriving c.args.self.now.table.now reach c.loop-i.now.left (drop c.loop-i.i ls) ≡ traded c.loop-i.now.left [] (drop c.loop-i.i ls) =
    elim c.then-now-eq0.branch [
      | then-now-eq0-via-then-now-eq0 b ↦ over_quantity w c.requires.rows b.if-now-eq0.true
      | then-now-eq0-via-else-now-eq0+then-not-has b ↦
          over_reach reach ls c.loop-i.i lt c.loop-i.invariant.1 g.D.Dealing.meaning c.args.self.now.lot c.args.self.now.arriving c.args.self.now.table.now c.loop-i.now.left
          (ap reach (sym (b.price.ensures (nothing_at 0))) ∙ sym b.if-not-has.ensures)
    ] in
    let all = tour_over w c.requires.rows over in
    record { levels = all.0; left = all.1; rows = all.2; count = all.3 }

pub returns-after-loop-i : goal.returns-after-loop-i
returns-after-loop-i g c =
    let all = tour_over c.loop-i.invariant.0 c.requires.rows (over_levels c.loop-i.invariant.0 c.requires.rows (omega (arith, c.len-i-end.ensures.count, c.loop-i.invariant.0.size))) in
    record { levels = all.0; left = all.1; rows = all.2; count = all.3 }
