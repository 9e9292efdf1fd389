-- A bounded list is no longer than its bound. Assumes nothing.
use Rattle.std.proofs.Common.{ℕ, ◌≤◌, length, arith}
use Rattle.std.proofs.lemmas.List.{length-take}
use Rattle.arrays.specs.Items.{items}
use Rattle.arrays.specs.declared.ArrayVec.{ArrayVec}

pub length_items : {T : Type 0} {N : ℕ} (v : ArrayVec T N) → length (items v) ≤ N
length_items v = omega (arith, length-take v.len v.items, v.fits)
