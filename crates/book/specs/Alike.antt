-- Which letter a book has makes no difference. Assumes nothing.
use Rattle.std.specs.Prelude.{◌≡◌, ℕ, List}
use Rattle.allocation.specs.Dealings.{Deal}
use Rattle.allocation.specs.Rankings.{buyers_letter, sellers_letter, higher_is_better, lower_is_better}
use Rattle.rules.specs.Books.{ranked_by}
use Rattle.rules.specs.Rules.{new_book}
use Rattle.rules.specs.Runs.{Ask, run}

-- the book ranked by buyers and the one ranked by sellers answer every run alike: the same answers, rows and books, call by call
abbrev pub BothLettersAnswerAlike : Deal → Type 0
BothLettersAnswerAlike deal =
    (lot : ℕ) (asks : List Ask) → run (ranked_by buyers_letter higher_is_better) deal (new_book lot) asks ≡ run (ranked_by sellers_letter lower_is_better) deal (new_book lot) asks
