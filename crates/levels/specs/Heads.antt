-- What level heads stand for, with their parts one after the other. Assumes nothing.
use Rattle.std.specs.Prelude.{ℕ, ◌+◌, List, [], ◌∷◌, length, take, drop}
use Rattle.allocation.specs.Memory.{wheel_of}
use Rattle.rules.specs.Books.{Level, level, Queue, queue}
use Rattle.rules.specs.declared.orders.Part.{Part}
use Rattle.levels.specs.declared.heads.QueueHead.{QueueHead}
use Rattle.levels.specs.declared.heads.LevelHead.{LevelHead}

-- how many parts a level has
abbrev pub size : LevelHead → ℕ
size h = h.shown.count + h.hidden.count

-- how many parts levels have
abbrev pub span : List LevelHead → ℕ
span [] = 0
span (h ∷ hs) = size h + span hs

-- a queue has the next parts
abbrev pub queue_of_head : QueueHead → List Part → Queue
queue_of_head q ps = queue (take q.count ps) (wheel_of q.wheel)

-- a level has the next parts, the displayed ones first
abbrev pub level_of : LevelHead → List Part → Level
level_of h ps = level h.price (queue_of_head h.shown ps) (queue_of_head h.hidden (drop h.shown.count ps))

abbrev pub levels : List LevelHead → List Part → List Level
levels [] ps = []
levels (h ∷ hs) ps = level_of h ps ∷ levels hs (drop (size h) ps)

-- how many parts there are
abbrev pub count : List Level → ℕ
count [] = 0
count (l ∷ ls) = length l.shown.parts + length l.hidden.parts + count ls
