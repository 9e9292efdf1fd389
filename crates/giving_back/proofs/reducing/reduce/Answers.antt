use Rattle.std.proofs.Common.{◌≡◌, ◌<◌, length, get_or, set, Ok, sym, refl, ap, ◌∙◌, subst, arith, rules}
use Rattle.allocation.specs.Dealings.{time}
use Rattle.allocation.specs.Shares.{time_lawful}
use Rattle.rules.specs.Books.{nothing_at, ranked_by}
use Rattle.rules.specs.Quantities.{resting}
use Rattle.rules.specs.declared.calls.Call.TheVariants.{Reduce}
use Rattle.rules.specs.declared.answers.Refusal.TheVariants.{NoSuchOrder, ReductionTooLarge}
use Rattle.arrays.proofs.Found.{first_at}
use Rattle.orders.specs.Rows.{rows_of, less}
use Rattle.memory.specs.States.{book_of}
use Rattle.memory.proofs.Props.{standing}
use Rattle.memory.proofs.Staying.{keeps}
use Rattle.giving_back.specs.Places.{RestsAt}
use Rattle.giving_back.proofs.Tabled.{Known, known, untabled_rests}
use Rattle.giving_back.proofs.Ruled.{reduce_unknown, reduce_too_large}
use Rattle.giving_back.proofs.Meeting.{follows_refused}
use Rattle.giving_back.proofs.Done.{reduce_follows}
use Rattle.giving_back.proofs.reducing.reduce.Goals as goal

pub returns-in_err-k : goal.returns-in_err-k
returns-in_err-k g c = λ deal.
    let s = c.args.book.now.state in
    let b = book_of s in
    let n = c.args.order in
    let m = c.args.quantity in
    let rank = ranked_by g.K.Ranking.initial g.K.Ranking.good in
    let stands = standing rank s c.args.book.now.stands in
    let gone = untabled_rests rank b (rows_of s.orders) refl stands.sound n (search rules) in
    follows_refused rank deal (Reduce n m) s c.args.report.now NoSuchOrder c.from_residual.result (reduce_unknown rank deal b (length c.args.report.now) n m c.requires.number c.requires.quantity c.requires.permitted.room c.requires.permitted.phase gone) (search rules) stands.tallied

pub returns-then-row-quantity : goal.returns-then-row-quantity
returns-then-row-quantity g c = λ deal.
    let s = c.args.book.now.state in
    let b = book_of s in
    let n = c.args.order in
    let m = c.args.quantity in
    let k = c.in_ok-k.k in
    let r = c.row-row.result.now in
    let rank = ranked_by g.K.Ranking.initial g.K.Ranking.good in
    let stands = standing rank s c.args.book.now.stands in
    let first = first_at (λ r. r.order.number) n (rows_of s.orders) k (search rules) in
    let row : Known b (rows_of s.orders) k r = known rank b (rows_of s.orders) refl stands.sound stands.tallied k r first.within c.row-row.ensures in
    let named : r.order.number ≡ n = ap (λ x. x.order.number) c.row-row.ensures ∙ first.found r in
    let tells : r.quantity ≡ resting n b = row.tells ∙ ap (λ x. resting x b) named in
    follows_refused rank deal (Reduce n m) s c.args.report.now ReductionTooLarge _
    (reduce_too_large rank deal b (length c.args.report.now) n m c.requires.number c.requires.quantity c.requires.permitted.room c.requires.permitted.phase (subst (λ x. 0 < resting x b) named row.some) (omega (arith, tells, c.if-row-quantity.true)))
    refl stands.tallied

pub invariant_of-book : goal.invariant_of-book
invariant_of-book g c =
    let s = c.args.book.now.state in
    let rank = ranked_by g.K.Ranking.initial g.K.Ranking.good in
    let r = c.row-row.result.now in
    let k = c.in_ok-k.k in
    let i = c.level_of-i.result in
    let m = c.args.quantity in
    let first = first_at (λ r. r.order.number) c.args.order (rows_of s.orders) k (search rules) in
    let at = subst (λ x. RestsAt (book_of s) x.order i) (sym c.row-row.ensures) (c.level_of-i.ensures r) in
    let named : r.order.number ≡ c.args.order = ap (λ x. x.order.number) c.row-row.ensures ∙ first.found r in (
      (c.take_off_order.new.state.sized, tt),
      (
        keeps rank g.met.K.Ranking.ordered time time_lawful
            (reduce_follows rank s (standing rank s c.args.book.now.stands) c.args.order k r first.within c.row-row.ensures named i at (nothing_at 0) time c.args.report.now _ _ _
            c.requires.number c.requires.permitted.room m (omega (arith, c.if-row-quantity.false)) c.requires.quantity c.requires.permitted.phase (book_of c.take_off_order.new.state) c.take_off_order.ensures.book refl
            (c.decrement.ensures r ∙ ap (λ l. set l k (less (get_or l k r) m)) c.take_off_order.ensures.rows ∙ ap (λ x. set (rows_of s.orders) k (less x m)) (sym c.row-row.ensures)) refl refl) c.args.book.now.stands,
        tt,
      ),
    )

pub returns : goal.returns
returns g c = λ deal.
    let s = c.args.book.now.state in
    let rank = ranked_by g.K.Ranking.initial g.K.Ranking.good in
    let r = c.row-row.result.now in
    let k = c.in_ok-k.k in
    let i = c.level_of-i.result in
    let m = c.args.quantity in
    let first = first_at (λ r. r.order.number) c.args.order (rows_of s.orders) k (search rules) in
    let at = subst (λ x. RestsAt (book_of s) x.order i) (sym c.row-row.ensures) (c.level_of-i.ensures r) in
    let named : r.order.number ≡ c.args.order = ap (λ x. x.order.number) c.row-row.ensures ∙ first.found r in
    reduce_follows rank s (standing rank s c.args.book.now.stands) c.args.order k r first.within c.row-row.ensures named i at (nothing_at 0) deal c.args.report.now c.give_back.new.report _ (Ok c.give_back.result)
    c.requires.number c.requires.permitted.room m (omega (arith, c.if-row-quantity.false)) c.requires.quantity c.requires.permitted.phase (book_of c.take_off_order.new.state) c.take_off_order.ensures.book refl
    (c.decrement.ensures r ∙ ap (λ l. set l k (less (get_or l k r) m)) c.take_off_order.ensures.rows ∙ ap (λ x. set (rows_of s.orders) k (less x m)) (sym c.row-row.ensures)) (ap Ok c.give_back.ensures.reply) c.give_back.ensures.rows
