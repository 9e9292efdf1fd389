use Rattle.std.proofs.Common.{◌≡◌, ◌+◌, ◌++◌, length, take, drop, Ok, sym, refl, ap, ◌∙◌, subst, rules}
use Rattle.allocation.specs.Dealings.{time}
use Rattle.allocation.specs.Shares.{time_lawful}
use Rattle.rules.specs.Books.{nothing_at, ranked_by}
use Rattle.rules.specs.declared.calls.Call.TheVariants.{Cancel}
use Rattle.rules.specs.declared.answers.Refusal.TheVariants.{NoSuchOrder}
use Rattle.arrays.proofs.Found.{first_at}
use Rattle.orders.specs.Rows.{rows_of}
use Rattle.memory.specs.States.{book_of}
use Rattle.memory.proofs.Props.{standing}
use Rattle.memory.proofs.Staying.{keeps}
use Rattle.giving_back.specs.Places.{RestsAt}
use Rattle.giving_back.proofs.Tabled.{untabled_rests}
use Rattle.giving_back.proofs.Ruled.{cancel_refused}
use Rattle.giving_back.proofs.Meeting.{follows_refused}
use Rattle.giving_back.proofs.Done.{place_kept, cancel_follows}
use Rattle.giving_back.proofs.cancelling.cancel.Goals as goal

pub returns-in_err-k : goal.returns-in_err-k
returns-in_err-k g c = λ deal.
    let s = c.args.book.now.state in
    let b = book_of s in
    let n = c.args.order in
    let rank = ranked_by g.K.Ranking.initial g.K.Ranking.good in
    let stands = standing rank s c.args.book.now.stands in
    let gone = untabled_rests rank b (rows_of s.orders) refl stands.sound n (search rules) in
    follows_refused rank deal (Cancel n) s c.args.report.now NoSuchOrder c.from_residual.result (cancel_refused rank deal b (length c.args.report.now) n c.requires.number c.requires.permitted.room c.requires.permitted.phase gone) (search rules) stands.tallied

pub drop_level-requires : goal.drop_level-requires
drop_level-requires g c =
    let s = c.args.book.now.state in
    let rank = ranked_by g.K.Ranking.initial g.K.Ranking.good in
    let r = c.row-row.result.now in
    let k = c.in_ok-k.k in
    let i = c.level_of-i.result in
    let first = first_at (λ r. r.order.number) c.args.order (rows_of s.orders) k (search rules) in
    let at = subst (λ x. RestsAt (book_of s) x.order i) (sym c.row-row.ensures) (c.level_of-i.ensures r) in
    place_kept rank s (standing rank s c.args.book.now.stands) r.order.number k r first.within c.row-row.ensures refl i at (nothing_at 0) r.quantity (book_of c.take_off_order.new.state) c.take_off_order.ensures.book

pub invariant_of-book : goal.invariant_of-book
invariant_of-book g c =
    let s = c.args.book.now.state in
    let rank = ranked_by g.K.Ranking.initial g.K.Ranking.good in
    let r = c.row-row.result.now in
    let k = c.in_ok-k.k in
    let i = c.level_of-i.result in
    let first = first_at (λ r. r.order.number) c.args.order (rows_of s.orders) k (search rules) in
    let at = subst (λ x. RestsAt (book_of s) x.order i) (sym c.row-row.ensures) (c.level_of-i.ensures r) in
    let named : r.order.number ≡ c.args.order = ap (λ x. x.order.number) c.row-row.ensures ∙ first.found r in (
      (c.drop_level.new.state.sized, tt),
      (
        keeps rank g.met.K.Ranking.ordered time time_lawful
            (cancel_follows rank s (standing rank s c.args.book.now.stands) c.args.order k r first.within c.row-row.ensures named i at (nothing_at 0) time c.args.report.now _ _ _
            c.requires.number c.requires.permitted.room c.requires.permitted.phase (book_of c.take_off_order.new.state) (book_of c.drop_level.new.state) c.take_off_order.ensures.book (c.drop_level.ensures.book (nothing_at 0)) refl
            (c.remove.ensures ∙ ap (λ l. take k l ++ drop (k + 1) l) (c.drop_level.ensures.rows ∙ c.take_off_order.ensures.rows)) refl refl) c.args.book.now.stands,
        tt,
      ),
    )

pub returns : goal.returns
returns g c = λ deal.
    let s = c.args.book.now.state in
    let rank = ranked_by g.K.Ranking.initial g.K.Ranking.good in
    let r = c.row-row.result.now in
    let k = c.in_ok-k.k in
    let i = c.level_of-i.result in
    let first = first_at (λ r. r.order.number) c.args.order (rows_of s.orders) k (search rules) in
    let at = subst (λ x. RestsAt (book_of s) x.order i) (sym c.row-row.ensures) (c.level_of-i.ensures r) in
    let named : r.order.number ≡ c.args.order = ap (λ x. x.order.number) c.row-row.ensures ∙ first.found r in
    cancel_follows rank s (standing rank s c.args.book.now.stands) c.args.order k r first.within c.row-row.ensures named i at (nothing_at 0) deal c.args.report.now c.give_back.new.report _ (Ok c.give_back.result)
    c.requires.number c.requires.permitted.room c.requires.permitted.phase (book_of c.take_off_order.new.state) (book_of c.drop_level.new.state) c.take_off_order.ensures.book (c.drop_level.ensures.book (nothing_at 0)) refl
    (c.remove.ensures ∙ ap (λ l. take k l ++ drop (k + 1) l) (c.drop_level.ensures.rows ∙ c.take_off_order.ensures.rows)) (ap Ok c.give_back.ensures.reply) c.give_back.ensures.rows
