use Rattle.std.proofs.Common.{◌<◌, eqb, length, sym, ap, ◌∙◌, arith}
use Rattle.std.proofs.lemmas.List.{at_drop_more, at_drop_all}
use Rattle.std.proofs.lemmas.Bool.{le-ltb}
use Rattle.arrays.specs.Items.{items}
use Rattle.rules.specs.Books.{nothing_at}
use Rattle.levels.specs.Prices.{first_at}
use Rattle.levels.specs.Sides.{levels_of}
use Rattle.levels.proofs.Facts.{prices, level_is}
use Rattle.levels.proofs.sides.Levels.stands.Goals as goal

pub returns-then-i-len : goal.returns-then-i-len
returns-then-i-len c =
    let s = c.args.self.now in
    let lt : c.args.i < length (items s.heads) = omega (arith, c.len.ensures) in
    let long = prices s in
    sym (at_drop_more (first_at c.args.price) (levels_of s) c.args.i (nothing_at 0) (omega arith)
    ∙ ap (λ l. eqb l.price c.args.price) (level_is s c.args.i c.at.result.now (nothing_at 0) lt c.at.ensures))

pub returns-else-i-len : goal.returns-else-i-len
returns-else-i-len c =
    let s = c.args.self.now in
    let long = prices s in
    le-ltb c.args.i c.len.result c.if-i-len.false ∙ sym (at_drop_all (first_at c.args.price) (levels_of s) c.args.i (omega (arith, c.len.ensures)))
