use Rattle.std.proofs.Common.{rules, ◌≡◌, ◌<◌, false, length, replicate, get_or, set, sym, ap, ◌∙◌}
use Rattle.allocation.specs.Dealings.{sum}
use Rattle.rules.specs.Books.{part}
use Rattle.rules.specs.Lists.{last_alone}
use Rattle.rules.specs.Quantities.{of_part, pieces}
use Rattle.amounts.proofs.Loops.{alone_at, alone_none, sum_none, sum_alone}
use Rattle.amounts.proofs.sharing.latest_alone.Goals as goal

module _ (c : goal.In-Some) where
  at : c.in-Some.i < length c.args.parts.now
  at = search rules

  size : c.map_or-size.result ≡ of_part c.args.order (get_or c.args.parts.now c.in-Some.i (part 0 0 0 false))
  size = search rules

  shares : set (replicate (length c.args.parts.now) 0) c.in-Some.i c.map_or-size.result ≡ last_alone (pieces c.args.order c.args.parts.now)
  shares = ap (set (replicate (length c.args.parts.now) 0) c.in-Some.i) size ∙ alone_at (of_part c.args.order) (part 0 0 0 false) c.args.parts.now c.in-Some.i at (search rules) (search rules)

pub returns-in-Some-clause-shares : goal.returns-in-Some-clause-shares
returns-in-Some-clause-shares c =
    let filled : c.fill.new.self ≡ replicate (length c.args.parts.now) 0 = search rules in
    ap (λ xs. set xs c.in-Some.i c.map_or-size.result) filled ∙ shares c

pub returns-in-Some-clause-size : goal.returns-in-Some-clause-size
returns-in-Some-clause-size c = sym (sum_alone (length c.args.parts.now) c.in-Some.i c.map_or-size.result (at c)) ∙ ap sum (shares c)

pub returns-in_default-clause-shares : goal.returns-in_default-clause-shares
returns-in_default-clause-shares c =
    let filled : c.fill.new.self ≡ replicate (length c.args.parts.now) 0 = search rules in
    filled ∙ alone_none (of_part c.args.order) (part 0 0 0 false) c.args.parts.now (search rules)

pub returns-in_default-clause-size : goal.returns-in_default-clause-size
returns-in_default-clause-size c =
    let none : c.map_or-size.result ≡ 0 = search rules in
    none ∙ sym (sum_none (length c.args.parts.now)) ∙ ap sum (alone_none (of_part c.args.order) (part 0 0 0 false) c.args.parts.now (search rules))
