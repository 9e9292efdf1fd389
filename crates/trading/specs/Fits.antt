-- How many rows trading writes. Assumes nothing.
use Rattle.std.specs.Prelude.{ℕ, ◌≤◌, Bool, List, length}
use Rattle.std.specs.List.{AllByRecursion}
use Rattle.allocation.specs.Dealings.{Deal}
use Rattle.rules.specs.Books.{Level}
use Rattle.rules.specs.Trading.{trade_side}
use Rattle.rules.specs.declared.phases.Step.{Step}
use Rattle.levels.specs.Heads.{count}
use Rattle.rules.specs.Invariants.{SoundLevel}

-- trading with a side writes no more rows than the side has parts
abbrev pub NoMoreRowsThanParts : Deal → Type 0
NoMoreRowsThanParts deal = (lot arriving : ℕ) (table : List Step) (reach : ℕ → Bool) (q : ℕ) (ls : List Level) → AllByRecursion (SoundLevel lot) ls → length (trade_side deal lot arriving table reach q ls).rows ≤ count ls
