use Rattle.std.proofs.Common.{◌≡◌, false, ◌+◌, ◌-◌, length, set, sym, ap, ◌∙◌, arith}
use Rattle.allocation.specs.Dealings.{Dealt, sum}
use Rattle.rules.specs.Books.{nothing_at, queue}
use Rattle.rules.specs.Changes.{lowered}
use Rattle.rules.specs.Trading.{queue_of, with_queue, rows_of}
use Rattle.levels.specs.Sides.{levels_of}
use Rattle.trading.specs.Steps.{at_place, opens}
use Rattle.trading.specs.Written.{written}
use Rattle.trading.proofs.Stepping.{no_quantity, no_claims, some_claims, stays}
use Rattle.trading.proofs.states.Terms.trade_step.Goals as goal

pub returns-then-so_far-eq0 : goal.returns-then-so_far-eq0
returns-then-so_far-eq0 g c =
    let deal = g.D.Dealing.meaning in
    let lot = c.args.self.now.lot in
    let ls = levels_of c.args.levels.now in
    let same = stays deal lot c.args.self.now.arriving c.args.so_far.left c.args.step ls c.args.i c.args.report.now c.args.so_far.rows (no_quantity deal lot c.args.so_far.left c.args.step (at_place ls c.args.i) c.if-so_far-eq0.true) in
    record { level = same.level; left = same.left; rows = same.rows; count = same.count }

pub returns-then-not-has_claims : goal.returns-then-not-has_claims
returns-then-not-has_claims g c =
    let deal = g.D.Dealing.meaning in
    let lot = c.args.self.now.lot in
    let ls = levels_of c.args.levels.now in
    let shut : opens lot c.args.step (queue_of c.args.step (at_place ls c.args.i)).parts ≡ false = ap (opens lot c.args.step) (sym (c.parts-parts.ensures.value (nothing_at 0))) ∙ sym c.if-not-has_claims.ensures in
    let same = stays deal lot c.args.self.now.arriving c.args.so_far.left c.args.step ls c.args.i c.args.report.now c.args.so_far.rows (no_claims deal lot c.args.so_far.left c.args.step (at_place ls c.args.i) shut) in
    record { level = same.level; left = same.left; rows = same.rows; count = same.count }

pub deal_step-requires-clause-room : goal.deal_step-requires-clause-room
deal_step-requires-clause-room g c =
    let l = at_place (levels_of c.args.levels.now) c.args.i in
    let some = some_claims g.D.Dealing.meaning c.args.self.now.lot c.args.so_far.left c.args.step l c.if-so_far-eq0.false (ap (opens c.args.self.now.lot c.args.step) (sym (c.parts-parts.ensures.value (nothing_at 0))) ∙ sym c.if-not-has_claims.ensures) in
    omega (arith, c.requires.rows, ap (λ (x : Dealt). length (rows_of c.args.step c.args.self.now.arriving l.price (queue_of c.args.step l).parts x.shares)) some)

pub returns : goal.returns
returns g c =
    let ls = levels_of c.args.levels.now in
    let t = c.args.step in
    let l = at_place ls c.args.i in
    let some = some_claims g.D.Dealing.meaning c.args.self.now.lot c.args.so_far.left t l c.if-so_far-eq0.false (ap (opens c.args.self.now.lot t) (sym (c.parts-parts.ensures.value (nothing_at 0))) ∙ sym c.if-not-has_claims.ensures) in
    record {
      level = c.deal_step.ensures.level ∙ ap (λ (x : Dealt). set ls c.args.i (with_queue t (queue (lowered (queue_of t l).parts x.shares) x.wheel) l)) (sym some);
      left = c.deal_step.ensures.left ∙ ap (λ (x : Dealt). c.args.so_far.left - sum x.shares) (sym some);
      rows = c.deal_step.ensures.rows ∙ ap (λ (x : Dealt). written c.args.report.now c.args.so_far.rows (rows_of t c.args.self.now.arriving l.price (queue_of t l).parts x.shares)) (sym some);
      count = c.deal_step.ensures.count ∙ ap (λ (x : Dealt). c.args.so_far.rows + length (rows_of t c.args.self.now.arriving l.price (queue_of t l).parts x.shares)) (sym some);
    }
