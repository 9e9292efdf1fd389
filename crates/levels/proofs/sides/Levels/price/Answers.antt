use Rattle.std.proofs.Common.{sym, ap, arith, lit<}
use Rattle.levels.proofs.Facts.{prices, level_is}
use Rattle.levels.proofs.sides.Levels.price.Goals as goal

pub at-requires : goal.at-requires
at-requires c = (lit< tt, omega (arith, c.requires, prices c.args.self.now))

pub returns : goal.returns
returns c = λ d.
    let s = c.args.self.now in
    sym (ap (λ l. l.price) (level_is s c.args.i c.at.result.now d (omega (arith, c.requires, prices s)) c.at.ensures))
