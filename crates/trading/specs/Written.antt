-- Rows written into a report. Assumes nothing.
use Rattle.std.specs.Prelude.{ℕ, ◌+◌, List, ◌++◌, length, take, drop}
use Rattle.rules.specs.declared.answers.Row.{Row}

-- the report with rows written from `at` on; the others are as they were
abbrev pub written : List Row → ℕ → List Row → List Row
written report at rows = take at report ++ (rows ++ drop (at + length rows) report)
