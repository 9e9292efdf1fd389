-- A table of amounts by participant. Assumes nothing.
use Rattle.std.specs.Prelude.{ℕ, List, slice_index}

-- the amount at p, 0 past the end
abbrev pub amounts : List ℕ → ℕ → ℕ
amounts table p = slice_index table p
