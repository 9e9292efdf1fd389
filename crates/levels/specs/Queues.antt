-- The queue of a step in a level head. Assumes nothing.
use Rattle.std.specs.Prelude.{ℕ}
use Rattle.rules.specs.declared.phases.Step.{Step}
use Rattle.rules.specs.declared.phases.Step.TheVariants.{Setter, Displayed, Hidden}
use Rattle.levels.specs.declared.heads.QueueHead.{QueueHead}
use Rattle.levels.specs.declared.heads.LevelHead.{LevelHead}

abbrev pub head_of : Step → LevelHead → QueueHead
head_of Setter h = h.shown
head_of Displayed h = h.shown
head_of Hidden h = h.hidden

abbrev pub with_head : Step → QueueHead → LevelHead → LevelHead
with_head Setter q h = record { price = h.price; shown = q; hidden = h.hidden }
with_head Displayed q h = record { price = h.price; shown = q; hidden = h.hidden }
with_head Hidden q h = record { price = h.price; shown = h.shown; hidden = q }

-- how many parts of the level come before that queue
abbrev pub ahead : Step → LevelHead → ℕ
ahead Setter h = 0
ahead Displayed h = 0
ahead Hidden h = h.shown.count
