use Rattle.std.proofs.Common.{length, refl, arith}
use Rattle.std.proofs.lemmas.Bool.{ltb-false}
use Rattle.allocation.specs.Dealings.{time}
use Rattle.allocation.specs.Shares.{time_lawful}
use Rattle.rules.specs.Books.{ranked_by}
use Rattle.orders.specs.Rows.{rows_of}
use Rattle.memory.specs.States.{book_of}
use Rattle.memory.proofs.Props.{standing}
use Rattle.memory.proofs.Staying.{keeps}
use Rattle.giving_back.proofs.Tabled.{rows_small}
use Rattle.giving_back.proofs.Done.{close_follows}
use Rattle.giving_back.proofs.closing.close.Goals as goal

pub give_all_back-given_back-requires : goal.give_all_back-given_back-requires
give_all_back-given_back-requires g c =
    let s = c.args.book.now.state in
    let rank = ranked_by g.K.Ranking.initial g.K.Ranking.good in
    let stands = standing rank s c.args.book.now.stands in
    record {
      small = rows_small rank (book_of s) (rows_of s.orders) refl stands.sound stands.tallied;
      room = omega (arith, ltb-false (length c.args.report.now) 400 c.requires.room);
    }

pub invariant_of-book-5 : goal.invariant_of-book-5
invariant_of-book-5 g c =
    let s = c.args.book.now.state in
    let rank = ranked_by g.K.Ranking.initial g.K.Ranking.good in
    record {
      stands = keeps rank g.met.K.Ranking.ordered time time_lawful
          (close_follows rank time s (standing rank s c.args.book.now.stands) c.args.report.now c.give_all_back-given_back.new.report _ c.give_all_back-given_back.result c.len-rows.result c.requires.room c.requires.phase refl
          c.clear-3.ensures c.clear.ensures c.clear-2.ensures c.give_all_back-given_back.ensures.total c.len-rows.ensures.count c.give_all_back-given_back.ensures.rows) c.args.book.now.stands;
    }

pub returns : goal.returns
returns g c = λ deal.
    let s = c.args.book.now.state in
    let rank = ranked_by g.K.Ranking.initial g.K.Ranking.good in
    close_follows rank deal s (standing rank s c.args.book.now.stands) c.args.report.now c.give_all_back-given_back.new.report _ c.give_all_back-given_back.result c.len-rows.result c.requires.room c.requires.phase refl
    c.clear-3.ensures c.clear.ensures c.clear-2.ensures c.give_all_back-given_back.ensures.total c.len-rows.ensures.count c.give_all_back-given_back.ensures.rows
