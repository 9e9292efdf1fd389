use Rattle.std.proofs.Common.{false, refl, arith}
use Rattle.std.proofs.lemmas.Fn.{says_at}
use Rattle.rules.specs.Books.{part}
use Rattle.amounts.proofs.Loops.{in_order_more, in_order_all}
use Rattle.amounts.proofs.sharing.share_in_order.Goals as goal

pub loop-i-preserved : goal.loop-i-preserved
loop-i-preserved g c = λ size says.
    in_order_more size c.args.parts.now c.loop-i.shares _ c.loop-i.i c.loop-i.left (part 0 0 0 false) c.counted-size.result c.min.result c.saturating_sub-left.result c.loop-i-test.true
    (omega (arith, c.requires.lengths, c.loop-i.auto.shares, c.loop-i-test.true)) (says _ _ (says_at g.F.Fn c.counted-size.ensures refl)) c.min.ensures c.saturating_sub-left.ensures (c.loop-i.invariant size says)

pub returns : goal.returns
returns g c = λ size says.
    in_order_all size c.args.parts.now c.loop-i.shares _ c.loop-i.i c.loop-i.left c.loop-i-test.false (omega (arith, c.requires.lengths, c.loop-i.auto.shares, c.loop-i-test.false)) (c.loop-i.invariant size says)
