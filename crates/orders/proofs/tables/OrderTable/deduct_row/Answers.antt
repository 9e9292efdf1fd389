use Rattle.std.proofs.Common.{◌≤◌, sym, ap, ◌∙◌, subst}
use Rattle.std.specs.List.{AllByRecursion}
use Rattle.arrays.proofs.Found.{FirstAt, first_at, nowhere}
use Rattle.rules.specs.Invariants.{numbers}
use Rattle.rules.specs.declared.answers.Row.{Row}
use Rattle.orders.specs.Rows.{rows_of, orders_of}
use Rattle.orders.specs.Deducted.{takes, deducted_by, Named}
use Rattle.orders.specs.declared.tables.Resting.{Resting}
use Rattle.orders.proofs.Taken.{blank, never_missing, one_row, enough_at, none_taken}
use Rattle.orders.proofs.tables.OrderTable.deduct_row.Goals as goal

pub decrement-requires-clause-there : goal.decrement-requires-clause-there
decrement-requires-clause-there c = λ d.
    let rs = rows_of c.args.self.now in
    let n = c.in-Trade.resting in
    let f : FirstAt (λ (r : Resting). r.order.number) n rs c.in-Some.i = first_at _ n rs c.in-Some.i (sym c.find.ensures ∙ c.in-Some.is) in
    enough_at n c.in-Trade.quantity rs c.in-Some.i d f.within (f.found d) (subst (λ (x : Row). AllByRecursion (λ r. takes r.order.number x ≤ r.quantity) rs) c.in-Trade.is c.requires.enough)

pub returns-in-Some : goal.returns-in-Some
returns-in-Some c =
    let rs = rows_of c.args.self.now in
    let n = c.in-Trade.resting in
    let f : FirstAt (λ (r : Resting). r.order.number) n rs c.in-Some.i = first_at _ n rs c.in-Some.i (sym c.find.ensures ∙ c.in-Some.is) in
    c.decrement.ensures blank ∙ one_row n c.in-Trade.quantity rs c.in-Some.i blank c.requires.once f.within (f.found blank) f.others ∙ ap (λ (x : Row). deducted_by x rs) (sym c.in-Trade.is)

pub returns-in_default : goal.returns-in_default
returns-in_default c =
    absurd (never_missing c.in-Trade.resting (rows_of c.args.self.now)
    (nowhere (λ (r : Resting). r.order.number) c.in-Trade.resting (rows_of c.args.self.now) (sym c.find.ensures ∙ c.in_default.is))
    (subst (Named (numbers (orders_of c.args.self.now))) c.in-Trade.is c.requires.named))

pub returns-in-GivenBack : goal.returns-in-GivenBack
returns-in-GivenBack c =
    let rs = rows_of c.args.self.now in
    none_taken rs ∙ ap (λ (x : Row). deducted_by x rs) (sym c.in-GivenBack.is)
