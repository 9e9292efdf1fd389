-- One reserve order replenished, by the levels of its side alone. Assumes nothing.
use Rattle.std.specs.Prelude.{◌≡◌, ℕ, ◌<◌, ◌≤◌, min, true, Option, List}
use Rattle.rules.specs.declared.orders.Order.{Order}
use Rattle.rules.specs.Lists.{any}
use Rattle.rules.specs.Books.{Level, Ranking}
use Rattle.rules.specs.Changes.{on_price}
use Rattle.rules.specs.Reserve.{runs_low, join_hidden, show_anew, hidden_of}
use Rattle.levels.specs.Heads.{count}
use Rattle.resting.specs.Earned.{earned}

-- the side once the later of two shown parts has joined the hidden part
abbrev pub joined : Ranking → ℕ → Order → List Level → List Level
joined rank lot e ls = on_price rank e.side e.price (join_hidden lot e.number) ls

-- then a new part is shown; the round lot and the side's away price decide its mark
abbrev pub replenished : Ranking → ℕ → Option ℕ → Order → List Level → List Level
replenished rank lot away e ls =
    on_price rank e.side e.price
    (show_anew lot e (earned rank e.side e.price (min e.display (hidden_of e.number (joined rank lot e ls))) lot away (joined rank lot e ls)))
    (joined rank lot e ls)

-- an order that can show a part: its participant has a number, and it displays no more than an order has
pub record CanShow (e : Order) : Type 0 where
  pub known : (0 < e.participant) × (e.participant < 25)
  pub display : e.display ≤ 500000

-- there is room for one more part, if the order then runs low
abbrev pub RoomToShow : Ranking → ℕ → Order → List Level → Type 0
RoomToShow rank lot e ls = any (runs_low lot e.number) (joined rank lot e ls) ≡ true → count (joined rank lot e ls) < 384
