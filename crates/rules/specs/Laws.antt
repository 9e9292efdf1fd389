-- What holds of every book, whatever its ranking and its dealing. Assumes nothing.
use Rattle.std.specs.Prelude.{◌≡◌}
use Rattle.allocation.specs.Dealings.{Deal, parity}
use Rattle.rules.specs.Books.{Ranking}
use Rattle.rules.specs.Rules.{steps}
use Rattle.rules.specs.Tables.{GoodTable}
use Rattle.rules.specs.Invariants.{StaysSound}
use Rattle.rules.specs.Sizes.{SoundBooksAreSmall}
use Rattle.rules.specs.Reports.{ReportsWell}
use Rattle.rules.specs.SumLaw.{AddsUp}
use Rattle.rules.specs.OrderLaw.{TradesInOrder}
use Rattle.rules.specs.LeadLaw.{NobodyLeadsByMoreThanALot}

-- what holds of a ranking and a dealing that keep their own laws
pub record Laws (rank : Ranking) (deal : Deal) : Type 0 where
  -- what is so of a new book stays so through every call
  pub sound : StaysSound rank deal
  -- a sound book has at most 128 prices with 384 parts, of known participants and small quantities
  pub small : SoundBooksAreSmall rank
  -- answers and rows agree, a refused call changes nothing, and a report of 400 rows suffices
  pub reports : ReportsWell rank deal
  -- what an accepted order traded, was given back and has resting is what it came with
  pub sum : AddsUp rank deal
  -- better parts in reach go first, wholly
  pub order : TradesInOrder rank deal
  -- where the dealing means parity, nobody gets more than a round lot ahead of one who keeps its seat
  pub lead : deal ≡ parity → NobodyLeadsByMoreThanALot rank deal
  -- the table of a new book is one that order and lead speak of
  pub table : GoodTable steps
