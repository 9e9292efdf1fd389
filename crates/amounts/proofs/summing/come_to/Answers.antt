use Rattle.std.proofs.Common.{rules, ◌≡◌, ◌-◌, fold, ◌∙◌}
use Rattle.std.proofs.iter.runs.Made.{chains}
use Rattle.amounts.proofs.Loops.{fold_less, none_left}
use Rattle.amounts.proofs.summing.come_to.Goals as goal

pub returns : goal.returns
returns c =
    let folded : c.fold-left.result ≡ fold (λ left p. left - p.quantity) c.args.lot c.args.parts.now = search (rules, chains) in
    none_left c.args.lot _ c.fold-left.result (folded ∙ fold_less (λ p. p.quantity) c.args.parts.now c.args.lot)
