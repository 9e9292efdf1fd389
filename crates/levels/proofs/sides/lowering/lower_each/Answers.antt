use Rattle.std.proofs.Common.{◌<◌, ◌≤◌, arith}
use Rattle.levels.proofs.Lowering.{lowering_gone, lowering_kept, lowering_count}
use Rattle.levels.proofs.sides.lowering.lower_each.Goals as goal
use Rattle.levels.proofs.sides.lowering.lower_each.Goals.{then-amount-p, else-amount-p}

pub loop-j-preserved : goal.loop-j-preserved
loop-j-preserved c =
    let lt : c.loop-j.j < c.args.n = omega (arith, c.loop-j-test.true, c.requires.each) in
    elim c.if-amount-p.branch [
      | then-amount-p w ↦ rw (w.parts-is, w.k-is, w.set.ensures, w.with_quantity.ensures) (lowering_kept c.loop-j.invariant lt c.requires.place c.requires.each c.get-p.ensures w.if-amount-p.true)
      | else-amount-p w ↦ rw (w.parts-is, w.k-is) (lowering_gone c.loop-j.invariant lt c.requires.place c.requires.each c.get-p.ensures w.if-amount-p.false)
    ]

pub returns-clause-count : goal.returns-clause-count
returns-clause-count c =
    let end : c.args.n ≤ c.loop-j.j = omega (arith, c.loop-j-test.false, c.requires.each) in
    lowering_count c.loop-j.invariant end c.requires.place
