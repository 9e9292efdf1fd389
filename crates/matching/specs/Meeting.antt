-- An arriving order and the side that it trades with. Assumes nothing.
use Rattle.std.specs.Prelude.{List}
use Rattle.allocation.specs.Dealings.{Deal}
use Rattle.rules.specs.declared.orders.Order.{Order}
use Rattle.rules.specs.Books.{Level, Ranking, Book, side, other}
use Rattle.rules.specs.Trading.{Traded, in_reach, trade_side}

-- the trades with the other side, before reserve is replenished
abbrev pub met : Ranking → Deal → Order → Book → Traded (List Level)
met rank deal e b = trade_side deal b.lot e.number b.steps (in_reach rank b e) e.quantity (side (other e.side) b)
