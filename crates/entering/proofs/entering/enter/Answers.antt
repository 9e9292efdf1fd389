use Rattle.std.proofs.Common.{rules, sym, ◌∙◌}
use Rattle.rules.specs.Books.{ranked_by}
use Rattle.memory.proofs.Props.{standing}
use Rattle.rules.proofs.Rulings.{refused_by}
use Rattle.entering.proofs.Followed.{refused_follows}
use Rattle.entering.proofs.entering.enter.Goals as goal

pub returns-in_err-check_book : goal.returns-in_err-check_book
returns-in_err-check_book g c =
    let s = c.args.book.now.state in
    let rank = ranked_by g.K.Ranking.initial g.K.Ranking.good in
    let r = c.in_err-check_book.field-0.0 in
    refused_follows rank g.D.Dealing.meaning c.args.order s s c.args.report.now r c.from_residual.result (search rules) c.requires (refused_by _ r (sym c.check_book.ensures ∙ c.in_err-check_book.was)) (standing rank s c.args.book.now.stands).tallied
