use Rattle.std.proofs.Common.{◌≡◌, ◌≤◌, Bool}
use Rattle.std.proofs.lemmas.List.Filters.{FiltersInPlace}
use Rattle.std.specs.Fn.{FnReturnsAt}
use Rattle.arrays.proofs.ArrayVec.retain.Given as goal

-- by any test that the closure answers, what passes stands in front
abbrev pub invariant-loop-j : goal.invariant-loop-j
invariant-loop-j g l =
    (l.self.len ≡ l.initial.self.len)
    × (l.k ≤ l.j)
    × ((p : g.row.T.Denot → Bool) → ((x : g.row.T.Denot) (b : Bool) → FnReturnsAt g.F.Fn l.keep x b → b ≡ p x) → FiltersInPlace p l.initial.self.items l.self.items l.k l.j)
