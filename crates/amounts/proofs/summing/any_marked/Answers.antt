use Rattle.std.proofs.Common.{rules, false, refl}
use Rattle.std.proofs.lemmas.List.Recursion.{or_is}
use Rattle.rules.specs.Lists.{any}
use Rattle.rules.specs.Books.{part}
use Rattle.amounts.proofs.summing.any_marked.Goals as goal

pub returns : goal.returns
returns c = or_is (any (λ p. p.marked)) (λ p. p.marked) refl (λ _ _. refl) c.args.parts.now (part 0 0 0 false) _ (search rules) (search rules)
