use Rattle.allocation.specs.Rankings.{higher_is_better}
use Rattle.rules.specs.Rules.{new_book}
use Rattle.book.proofs.Turned.{run_same}
use Rattle.book.proofs.laws.letters_answer_alike.Goals as goal

pub returns : goal.returns
returns g c = λ lot asks. run_same higher_is_better g.D.Dealing.meaning (new_book lot) asks
