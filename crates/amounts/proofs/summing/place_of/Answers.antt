use Rattle.std.proofs.Common.{rules, false}
use Rattle.rules.specs.Books.{part}
use Rattle.amounts.proofs.Loops.{raised_at, raised_none}
use Rattle.amounts.proofs.summing.place_of.Goals as goal

pub returns-clause-found : goal.returns-clause-found
returns-clause-found c = λ m d. search (rules, raised_at c.args.order m c.args.parts.now)

pub returns-clause-none : goal.returns-clause-none
returns-clause-none c = λ m none. raised_none c.args.order m c.args.parts.now (part 0 0 0 false) (search rules)
