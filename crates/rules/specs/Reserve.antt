-- Reserve orders show anew what they hide. Assumes nothing.
use Rattle.std.specs.Prelude.{ℕ, ◌+◌, min, Bool, true, false, cond, ◌&&◌, List, [], ◌∷◌, fold, ◌==◌, nat_lt}
use Rattle.allocation.specs.ByTime.{shares_in_order}
use Rattle.allocation.specs.Dealings.{sum}
use Rattle.rules.specs.declared.orders.Kind.{Kind}
use Rattle.rules.specs.declared.orders.Order.{Order}
use Rattle.rules.specs.declared.orders.Part.{Part}
use Rattle.rules.specs.Lists.{sum_of, last_alone}
use Rattle.rules.specs.Books.{Level, Ranking, Book, part, queue, level, side, with_side}
use Rattle.rules.specs.Quantities.{pieces, of_order}
use Rattle.rules.specs.Changes.{lose, put, on_price}
use Rattle.rules.specs.Marks.{earns_mark}

-- whether a kind is reserve
abbrev pub is_reserve : Kind → Bool
is_reserve Kind.Limit = false
is_reserve Kind.Hidden = false
is_reserve Kind.Reserve = true
is_reserve Kind.Immediate = false
is_reserve Kind.Market = false

-- an order runs low when it shows less than the round lot and hides something
abbrev pub runs_low : ℕ → ℕ → Level → Bool
runs_low lot n l = nat_lt (of_order n l.shown.parts) lot && nat_lt 0 (of_order n l.hidden.parts)

-- an order shows two parts when its last one is not all that it shows
abbrev pub shows_two : ℕ → Level → Bool
shows_two n l = nat_lt (sum (last_alone (pieces n l.shown.parts))) (of_order n l.shown.parts)

-- m more in the hidden part of the order n, which keeps its working time
abbrev pub raised : ℕ → ℕ → List Part → List Part
raised n m [] = []
raised n m (p ∷ ps) = cond (p.order == n) (part p.order p.participant (p.quantity + m) p.marked ∷ ps) (p ∷ raised n m ps)

-- if an order that runs low shows two parts, the later joins the hidden part
unfoldable pub join_hidden : ℕ → ℕ → Level → Level
join_hidden lot n l =
    let xs : List ℕ = last_alone (pieces n l.shown.parts) in
    cond (runs_low lot n l && shows_two n l) (level l.price (lose xs l.shown) (queue (raised n (sum xs) l.hidden.parts) l.hidden.wheel)) l

-- a new part is shown, of the lesser of display quantity and hidden quantity, with a new working time
unfoldable pub show_anew : ℕ → Order → Bool → Level → Level
show_anew lot e mark l =
    let n : ℕ = min e.display (of_order e.number l.hidden.parts) in
    cond (runs_low lot e.number l) (level l.price (put (part e.number e.participant n mark) l.shown) (lose (shares_in_order n (pieces e.number l.hidden.parts)) l.hidden)) l

-- a change at an order's side and price
abbrev pub on : Ranking → Order → (Level → Level) → Book → Book
on rank e f b = with_side e.side (on_price rank e.side e.price f (side e.side b)) b

-- what an order hides
abbrev pub hidden_of : ℕ → List Level → ℕ
hidden_of n = sum_of (λ l. of_order n l.hidden.parts)

-- one reserve order is replenished, if it runs low; the mark is judged after the later part has joined
unfoldable pub replenish_order : Ranking → Book → Order → Book
replenish_order rank b e =
    let c : Book = on rank e (join_hidden b.lot e.number) b in
    let mark : Bool = earns_mark rank e.side e.price (min e.display (hidden_of e.number (side e.side c))) c in
    cond (is_reserve e.kind) (on rank e (show_anew b.lot e mark) c) b

-- every order that rests is looked at, lower number first
unfoldable pub replenish : Ranking → Book → Book
replenish rank b = fold (replenish_order rank) b b.orders
