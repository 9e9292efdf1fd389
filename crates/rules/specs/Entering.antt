-- An order arrives, trades, and what is left of it is placed or given back. Assumes nothing.
use Rattle.std.specs.Prelude.{ℕ, ◌-◌, min, Bool, true, false, cond, not, ◌&&◌, ◌||◌, List, [], ◌∷◌, ◌++◌, ◌==◌}
use Rattle.allocation.specs.Dealings.{Deal}
use Rattle.rules.specs.declared.orders.Side.{Side}
use Rattle.rules.specs.declared.orders.Kind.{Kind}
use Rattle.rules.specs.declared.orders.Order.{Order}
use Rattle.rules.specs.declared.orders.Part.{Part}
use Rattle.rules.specs.declared.answers.Row.{Row}
use Rattle.rules.specs.declared.answers.Row.TheVariants.{GivenBack}
use Rattle.rules.specs.Codes.{Answer, accepted}
use Rattle.rules.specs.Books.{Level, Ranking, Book, part, good, side, other, away, with_side, with_last, with_orders}
use Rattle.rules.specs.Changes.{put_shown, put_hidden}
use Rattle.rules.specs.Marks.{earns_mark}
use Rattle.rules.specs.Trading.{Traded, traded, in_reach, trade_side}
use Rattle.rules.specs.Reserve.{on, replenish}
use Rattle.rules.specs.Refusals.{rests}

-- what a call answers, its rows, and the book afterwards
pub record Outcome : Type 0 where
  pub answer : Answer
  pub rows : List Row
  pub book : Book

-- an accepted call
abbrev pub done : ℕ → ℕ → List Row → Book → Outcome
done traded given_back rs b = record { answer = accepted traded given_back; rows = rs; book = b }

-- ## Placing

-- the part that an order of n shares shows
abbrev pub shown_part : Ranking → Book → Order → ℕ → Part
shown_part rank b e n = part e.number e.participant n (earns_mark rank e.side e.price n b)

-- the part that it hides: never marked
abbrev pub hidden_part : Order → ℕ → Part
hidden_part e n = part e.number e.participant n false

-- a reserve order shows the lesser of display quantity and remainder, and hides the rest
abbrev pub two_parts : Ranking → Book → Order → ℕ → Level → Level
two_parts rank b e n l =
    let d : ℕ = min e.display n in
    let s : Level = put_shown (shown_part rank b e d) l in
    cond (n - d == 0) s (put_hidden (hidden_part e (n - d)) s)

-- n shares of an order come to rest, by its kind
unfoldable pub place : Ranking → Kind → Order → ℕ → Book → Book
place rank Kind.Limit e n b = on rank e (put_shown (shown_part rank b e n)) b
place rank Kind.Hidden e n b = on rank e (put_hidden (hidden_part e n)) b
place rank Kind.Reserve e n b = on rank e (two_parts rank b e n) b
place rank Kind.Immediate e n b = b
place rank Kind.Market e n b = b

-- an order that rests joins the orders, last
abbrev pub with_order : Order → Book → Book
with_order e b = with_orders (b.orders ++ (e ∷ [])) b

-- ## Arrived, traded, placed

-- the number of an accepted order is spent
abbrev pub arrived : Order → Book → Book
arrived e b = with_last e.number b

-- the order trades with the other side, and then reserve is replenished
unfoldable pub trade : Ranking → Deal → Order → Book → Traded Book
trade rank deal e b =
    let s : Side = other e.side in
    let r : Traded (List Level) = trade_side deal b.lot e.number b.steps (in_reach rank b e) e.quantity (side s b) in
    traded r.left r.rows (replenish rank (with_side s r.rest b))

-- the remainder is given back for a kind that cannot rest, and for a limit that reaches the opposite away price
unfoldable pub not_placed : Ranking → Book → Order → Bool
not_placed rank b e =
    let quote : ℕ = away (other e.side) b in
    not (rests e.kind) || (not (quote == 0) && good rank (other e.side) quote e.price)

-- what becomes of n shares left: nothing if there are none, else they are given back or placed
abbrev pub finished : Bool → Bool → Ranking → Order → ℕ → List Row → Book → Outcome
finished true t rank e n rs b = done (e.quantity - n) 0 rs b
finished false true rank e n rs b = done (e.quantity - n) n (rs ++ (GivenBack e.number n ∷ [])) b
finished false false rank e n rs b = done (e.quantity - n) 0 rs (with_order e (place rank e.kind e n b))

-- an order arrives, trades, and what is left of it is placed or given back
unfoldable pub enter : Ranking → Deal → Order → Book → Outcome
enter rank deal e b =
    let r : Traded Book = trade rank deal e (arrived e b) in
    finished (r.left == 0) (not_placed rank b e) rank e r.left r.rows r.rest
