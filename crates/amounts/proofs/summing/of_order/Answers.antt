use Rattle.std.proofs.Common.{rules, refl}
use Rattle.std.proofs.iter.runs.Made.{chains}
use Rattle.std.proofs.lemmas.List.Recursion.{is_sum_by}
use Rattle.rules.specs.Quantities.{of_part, of_order}
use Rattle.amounts.proofs.summing.of_order.Goals as goal

pub sum-requires-clause-fits : goal.sum-requires-clause-fits
sum-requires-clause-fits c = search (rules, chains, is_sum_by (of_order c.args.order) (of_part c.args.order) refl (λ _ _. refl))

pub returns : goal.returns
returns c = search (rules, chains, is_sum_by (of_order c.args.order) (of_part c.args.order) refl (λ _ _. refl))
