use Rattle.std.proofs.Common.{◌+◌, ◌<◌, false, List, length, get_or, drop, set, sym, ap, ◌∙◌, arith}
use Rattle.rules.specs.Books.{part}
use Rattle.rules.specs.Trading.{rows_of}
use Rattle.rules.specs.declared.answers.Row.{Row}
use Rattle.rules.specs.declared.answers.Row.TheVariants.{Trade}
use Rattle.trading.specs.Written.{written}
use Rattle.trading.proofs.Writing.{written_more, row_here, row_none}
use Rattle.trading.proofs.reports.write_rows.Goals as goal
use Rattle.trading.proofs.reports.write_rows.Goals.{then-quantity-gt0, else-quantity-gt0}

pub bounds-report-end : goal.bounds-report-end
bounds-report-end c =
    let row = row_here c.args.step c.args.arriving c.args.price c.args.parts.now c.args.shares.now c.loop-i.i (part 0 0 0 false) c.loop-i-test.true c.requires.each c.if-quantity-gt0.true in
    omega (arith, c.requires.room, c.loop-i.invariant.1, ap length row, c.loop-i.auto.report)

pub loop-i-preserved : goal.loop-i-preserved
loop-i-preserved c =
    let t = c.args.step in
    let a = c.args.arriving in
    let v = c.args.price in
    let ps = c.args.parts.now in
    let xs = c.args.shares.now in
    let i = c.loop-i.i in
    let rest : List Row = rows_of t a v (drop (i + 1) ps) (drop (i + 1) xs) in
    elim c.if-quantity-gt0.branch [
      | then-quantity-gt0 w ↦
          let row : Row = Trade t (get_or ps i (part 0 0 0 false)).order a v (get_or xs i 0) in
          let here = row_here t a v ps xs i (part 0 0 0 false) c.loop-i-test.true c.requires.each w.if-quantity-gt0.true in
          let lt : c.loop-i.end < length c.loop-i.report = omega (arith, c.requires.room, c.loop-i.invariant.1, ap length here, c.loop-i.auto.report) in (
            ap (λ r. written r c.if-quantity-gt0.end rest) w.report-is
                ∙ ap (λ n. written (set c.loop-i.report c.loop-i.end row) n rest) w.end-is
                ∙ written_more c.loop-i.report c.loop-i.end row rest lt
                ∙ ap (written c.loop-i.report c.loop-i.end) (sym here) ∙ c.loop-i.invariant.0,
            omega (arith, w.end-is, ap length here, c.loop-i.invariant.1),
          )
      | else-quantity-gt0 w ↦
          let here = row_none t a v ps xs i (part 0 0 0 false) c.loop-i-test.true c.requires.each (omega (arith, w.if-quantity-gt0.false)) in (
            ap (λ r. written r c.if-quantity-gt0.end rest) w.report-is
                ∙ ap (λ n. written c.loop-i.report n rest) w.end-is
                ∙ ap (written c.loop-i.report c.loop-i.end) (sym here) ∙ c.loop-i.invariant.0,
            omega (arith, w.end-is, ap length here, c.loop-i.invariant.1),
          )
    ]
