use Rattle.std.proofs.Common.{◌≡◌, ◌-◌, ◌∙◌, arith, rules, tests}
use Rattle.std.proofs.lemmas.Iterator.Consumers.{fold_from_yields_List}
use Rattle.rules.specs.Books.{Level, nothing_at}
use Rattle.rules.specs.Quantities.{of_order}
use Rattle.rules.specs.Reserve.{hidden_of}
use Rattle.levels.specs.Sides.{levels_of}
use Rattle.amounts.proofs.Loops.{fold_less}
use Rattle.resting.proofs.Scans.{by_place}
use Rattle.resting.proofs.replenishing.size_to_show.Goals as goal

left : (c : goal.After-fold-left) → c.fold-left.result ≡ c.args.display - hidden_of c.args.order (levels_of c.args.levels.now)
left c =
    let ls = levels_of c.args.levels.now in
    fold_from_yields_List _ (λ left (l : Level). left - of_order c.args.order l.hidden.parts) c.args.display c.fold-left.result c.fold-left.ensures.ran (by_place ls (nothing_at 0) c.len.result c.len.ensures.count) (λ a i b q k. search (rules, tests))
    ∙ fold_less (λ (l : Level). of_order c.args.order l.hidden.parts) ls c.args.display

pub overflow_sub-result : goal.overflow_sub-result
overflow_sub-result c = omega (arith, left c)

pub returns : goal.returns
returns c = omega (arith, left c)
