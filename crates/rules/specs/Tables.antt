-- Tables of steps: which are good, and what comes first in one. Assumes nothing.
use Rattle.std.specs.Prelude.{◌≡◌, ℕ, ◌+◌, ◌<◌, ◌≤◌, Bool, true, false, cond, List, [], ◌∷◌}
use Rattle.rules.specs.declared.phases.Step.{Step}
use Rattle.rules.specs.Lists.{sum_of, any}

-- whether two steps are the same
abbrev pub same_step : Step → Step → Bool
same_step Step.Setter Step.Setter = true
same_step Step.Setter Step.Displayed = false
same_step Step.Setter Step.Hidden = false
same_step Step.Displayed Step.Setter = false
same_step Step.Displayed Step.Displayed = true
same_step Step.Displayed Step.Hidden = false
same_step Step.Hidden Step.Setter = false
same_step Step.Hidden Step.Displayed = false
same_step Step.Hidden Step.Hidden = true

-- how many steps stand before s
abbrev pub place_of : List Step → Step → ℕ
place_of [] s = 0
place_of (t ∷ ts) s = cond (same_step t s) 0 (1 + place_of ts s)

-- whether a step stands in a table
abbrev pub has_step : Step → List Step → Bool
has_step s = any (λ t. same_step t s)

-- how often a step stands in a table
abbrev pub count : Step → List Step → ℕ
count s = sum_of (λ t. cond (same_step t s) 1 0)

-- A good table has the displayed and the hidden step once each, and the setter step at most once and before the displayed.
pub record GoodTable (ss : List Step) : Type 0 where
  pub one_displayed : count Step.Displayed ss ≡ 1
  pub one_hidden : count Step.Hidden ss ≡ 1
  pub one_setter : count Step.Setter ss ≤ 1
  pub setter_first : has_step Step.Setter ss ≡ true → place_of ss Step.Setter < place_of ss Step.Displayed
