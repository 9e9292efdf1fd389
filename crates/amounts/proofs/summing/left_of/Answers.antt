use Rattle.std.proofs.Common.{rules, ◌≡◌, ◌-◌, fold, sym, ap, ◌∙◌}
use Rattle.std.proofs.iter.runs.Made.{chains}
use Rattle.amounts.proofs.Loops.{fold_less, sum_is}
use Rattle.amounts.proofs.summing.left_of.Goals as goal

pub returns : goal.returns
returns c =
    let folded : c.fold.result ≡ fold (λ left x. left - x) c.args.quantity c.args.shares.now = search (rules, chains) in
    folded ∙ fold_less (λ x. x) c.args.shares.now c.args.quantity ∙ ap (λ n. c.args.quantity - n) (sym (sum_is c.args.shares.now))
