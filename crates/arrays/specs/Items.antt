-- What a bounded list in memory stands for. Assumes nothing.
use Rattle.std.specs.Prelude.{ℕ, List, take}
use Rattle.arrays.specs.declared.ArrayVec.{ArrayVec}

abbrev pub items : {T : Type 0} {N : ℕ} → ArrayVec T N → List T
items v = take v.len v.items
