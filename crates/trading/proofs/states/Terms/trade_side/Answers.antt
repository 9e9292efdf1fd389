use Rattle.std.proofs.Common.{◌<◌, length, sym, ap, ◌∙◌, arith}
use Rattle.rules.specs.Books.{nothing_at, ranked_by}
use Rattle.levels.specs.Sides.{levels_of}
use Rattle.trading.specs.Reached.{reached}
use Rattle.trading.proofs.Touring.{tour_room, tour_more, tour_past, tour_over, over_levels, over_quantity}
use Rattle.trading.proofs.states.Terms.trade_side.Goals as goal
use Rattle.trading.proofs.states.Terms.trade_side.Goals.{then-has, else-has}

pub trade_price-now-requires-clause-rows : goal.trade_price-now-requires-clause-rows
trade_price-now-requires-clause-rows g c =
    let lt : c.loop-i.i < length (levels_of c.loop-i.levels) = omega (arith, c.len-i-end.ensures.count, c.loop-i.invariant.size) in
    let reach = reached (ranked_by g.K.Ranking.initial g.K.Ranking.good) c.args.reach in
    tour_room c.loop-i.invariant c.requires.rows lt (ap reach (sym (c.price.ensures (nothing_at 0))) ∙ sym c.if-has.ensures)

pub loop-i-preserved : goal.loop-i-preserved
loop-i-preserved g c =
    let lt : c.loop-i.i < length (levels_of c.loop-i.levels) = omega (arith, c.len-i-end.ensures.count, c.loop-i.invariant.size) in
    let reach = reached (ranked_by g.K.Ranking.initial g.K.Ranking.good) c.args.reach in
    elim c.if-has.branch [
      | then-has w ↦
          tour_more c.loop-i.invariant c.requires.rows lt (ap reach (sym (c.price.ensures (nothing_at 0))) ∙ sym w.if-has.ensures) (levels_of c.if-has.levels) c.if-has.now.left c.if-has.report c.if-has.now.rows
          (ap levels_of w.levels-is ∙ w.trade_price-now.ensures.level) (ap (λ x. x.left) w.now-is ∙ w.trade_price-now.ensures.left) (w.report-is ∙ w.trade_price-now.ensures.rows) (ap (λ x. x.rows) w.now-is ∙ w.trade_price-now.ensures.count)
      | else-has w ↦
          tour_past c.loop-i.invariant c.requires.rows lt (ap reach (sym (c.price.ensures (nothing_at 0))) ∙ sym w.if-has.ensures) (levels_of c.if-has.levels) c.if-has.now.left c.if-has.report c.if-has.now.rows
          (ap levels_of w.levels-is) (ap (λ x. x.left) w.now-is) w.report-is (ap (λ x. x.rows) w.now-is)
    ]

pub returns-then-now-eq0 : goal.returns-then-now-eq0
returns-then-now-eq0 g c =
    let all = tour_over c.loop-i.invariant c.requires.rows (over_quantity c.loop-i.invariant c.requires.rows (omega arith)) in
    record { levels = all.0; left = all.1; rows = all.2; count = all.3 }

pub returns-after-loop-i : goal.returns-after-loop-i
returns-after-loop-i g c =
    let all = tour_over c.loop-i.invariant c.requires.rows (over_levels c.loop-i.invariant c.requires.rows (omega (arith, c.len-i-end.ensures.count, c.loop-i.invariant.size))) in
    record { levels = all.0; left = all.1; rows = all.2; count = all.3 }
