use Rattle.std.proofs.Common.{rules, false, ◌≡◌, ◌++◌, ◌∷◌, [], length, ◌∙◌}
use Rattle.rules.specs.Books.{part}
use Rattle.rules.specs.Quantities.{of_part}
use Rattle.amounts.proofs.Loops.{from_back, from_back_more, from_back_all}
use Rattle.amounts.proofs.sharing.to_order_latest_first.Goals as goal

pub loop-i-init : goal.loop-i-init
loop-i-init c = (from_back (of_part c.args.order) c.args.parts.now c.args.quantity _ c.args.shares.now (search rules) c.requires, search rules)

pub loop-i-preserved : goal.loop-i-preserved
loop-i-preserved c =
    let new = c.next.new.self.iter.iter.rest.now in
    let cut : c.loop-i.i-iterator.iter.iter.rest.now ≡ new ++ (c.in-Some.part.now ∷ []) = search rules in
    let at : c.in-Some.i ≡ length new = search rules in
    let none : c.next.new.self.iter.count ≡ 0 = search rules in (
      from_back_more (of_part c.args.order) c.args.parts.now c.args.quantity _ new c.in-Some.part.now (part 0 0 0 false) c.loop-i.left c.of_part-size.result c.min.result c.saturating_sub-left.result c.in-Some.i c.loop-i.shares
          c.loop-i.invariant.0 (c.loop-i.auto.shares ∙ c.requires) cut at c.of_part-size.ensures c.min.ensures c.saturating_sub-left.ensures,
      none,
    )

pub returns : goal.returns
returns c = from_back_all (of_part c.args.order) c.args.parts.now c.args.quantity c.loop-i.i-iterator.iter.iter.rest.now c.loop-i.left c.loop-i.shares c.loop-i.invariant.0 (search rules)
