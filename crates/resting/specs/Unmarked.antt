-- Parts and levels without marks. Assumes nothing.
use Rattle.std.specs.Prelude.{false, map}
use Rattle.rules.specs.Books.{Level, part, level, queue}
use Rattle.rules.specs.declared.orders.Part.{Part}

-- a part that has lost its mark
abbrev pub plain : Part → Part
plain p = part p.order p.participant p.quantity false

-- a level whose shown parts have lost theirs
abbrev pub plain_level : Level → Level
plain_level l = level l.price (queue (map plain l.shown.parts) l.shown.wheel) l.hidden
