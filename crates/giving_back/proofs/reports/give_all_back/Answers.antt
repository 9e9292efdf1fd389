use Rattle.std.proofs.Common.{◌≡◌, ◌+◌, ◌≤◌, List, [], get_or, drop, sym, ap, ◌∙◌, subst, arith}
use Rattle.std.specs.List.{AllByRecursion}
use Rattle.std.proofs.lemmas.List.{at_drop_all, get_or_default}
use Rattle.rules.specs.Lists.{sum_of}
use Rattle.rules.specs.Rules.{row_given_back}
use Rattle.rules.specs.declared.answers.Row.TheVariants.{GivenBack}
use Rattle.rules.specs.declared.orders.Side.TheVariants.{Buy}
use Rattle.rules.specs.declared.orders.Kind.TheVariants.{Limit}
use Rattle.orders.specs.declared.tables.Resting.{Resting}
use Rattle.trading.specs.Written.{written}
use Rattle.trading.proofs.Writing.{written_none, written_more}
use Rattle.giving_back.specs.Backs.{backs}
use Rattle.giving_back.proofs.Closed.{backs_few, next_back}
use Rattle.giving_back.proofs.reports.give_all_back.Goals as goal

-- what stands where no row does
abbrev none : Resting
none = record { order = record { number = 0; participant = 0; side = Buy; kind = Limit; quantity = 0; display = 0; price = 0 }; quantity = 0 }

pub overflow_add-total : goal.overflow_add-total
overflow_add-total c =
    let rows = c.rows-row-items.result.now in
    let i = c.loop-i.i in
    let r = get_or rows i none in
    let next = next_back rows i r c.loop-i-test.true (sym (get_or_default rows i r none c.loop-i-test.true)) in
    let small = subst (λ (l : List Resting). AllByRecursion (λ r. r.quantity ≤ 500000) l) (sym c.rows-row-items.ensures.rows) c.requires.small in
    record { fits = omega (arith, c.loop-i.invariant.1, ap (sum_of row_given_back) next, backs_few rows small, c.rows-row-items.ensures.most) }

pub loop-i-preserved : goal.loop-i-preserved
loop-i-preserved c =
    let rows = c.rows-row-items.result.now in
    let i = c.loop-i.i in
    let r = get_or rows i none in
    let next = next_back rows i r c.loop-i-test.true (sym (get_or_default rows i r none c.loop-i-test.true)) in (
      written_more c.loop-i.report i (GivenBack r.order.number r.quantity) (backs (drop (i + 1) rows)) (omega (arith, c.requires.room, c.loop-i.auto.report, c.loop-i-test.true, c.rows-row-items.ensures.most))
          ∙ ap (written c.loop-i.report i) (sym next) ∙ c.loop-i.invariant.0,
      omega (arith, ap (sum_of row_given_back) next, c.loop-i.invariant.1),
    )

pub returns : goal.returns
returns c =
    let rows = c.rows-row-items.result.now in
    let left : backs (drop c.loop-i.i rows) ≡ [] = at_drop_all backs rows c.loop-i.i (omega (arith, c.loop-i-test.false)) in
    record {
      rows = sym (written_none c.loop-i.report c.loop-i.i) ∙ ap (written c.loop-i.report c.loop-i.i) (sym left) ∙ c.loop-i.invariant.0 ∙ ap (λ l. written c.args.report.now 0 (backs l)) c.rows-row-items.ensures.rows;
      total = omega (arith, ap (sum_of row_given_back) left, c.loop-i.invariant.1, ap (λ l. sum_of row_given_back (backs l)) c.rows-row-items.ensures.rows);
    }
