-- What holds of a level and a book before a reserve order is placed or replenished, and after. Assumes nothing.
use Rattle.std.proofs.Common.{◌≡◌, ℕ, ◌-◌, ◌<◌, min, Bool, true, false, cond, ◌&&◌, eqb, List, refl, arith}
use Rattle.std.proofs.lemmas.Bool.{eqb-true, eqb-false}
use Rattle.rules.specs.declared.orders.Order.{Order}
use Rattle.allocation.specs.ByTime.{shares_in_order}
use Rattle.allocation.specs.Dealings.{sum}
use Rattle.rules.specs.Lists.{last_alone}
use Rattle.rules.specs.Books.{Level, Ranking, Book, part, queue, level, side}
use Rattle.rules.specs.Quantities.{pieces, of_order}
use Rattle.rules.specs.Changes.{put, lose, put_shown, put_hidden}
use Rattle.rules.specs.Marks.{earns_mark}
use Rattle.rules.specs.Reserve.{on, runs_low, shows_two, raised, join_hidden, show_anew, replenish_order, is_reserve, hidden_of}
use Rattle.rules.specs.Entering.{shown_part, hidden_part, two_parts}

pub joined_by : (P : Level → Type 0) (lot n : ℕ) (l : Level) → P l → (let xs : List ℕ = last_alone (pieces n l.shown.parts) in
    (runs_low lot n l && shows_two n l) ≡ true → P (level l.price (lose xs l.shown) (queue (raised n (sum xs) l.hidden.parts) l.hidden.wheel))) → P (join_hidden lot n l)
unfolding join_hidden
joined_by P lot n l same joins = go (runs_low lot n l && shows_two n l) refl
  where
    xs : List ℕ
    xs = last_alone (pieces n l.shown.parts)

    go : (t : Bool) → (runs_low lot n l && shows_two n l) ≡ t → P (cond t (level l.price (lose xs l.shown) (queue (raised n (sum xs) l.hidden.parts) l.hidden.wheel)) l)
    go true e = joins e
    go false e = same

pub anew_by : (P : Level → Type 0) (lot : ℕ) (e : Order) (mark : Bool) (l : Level) → (runs_low lot e.number l ≡ false → P l) → (let q : ℕ = min e.display (of_order e.number l.hidden.parts) in
    runs_low lot e.number l ≡ true → P (level l.price (put (part e.number e.participant q mark) l.shown) (lose (shares_in_order q (pieces e.number l.hidden.parts)) l.hidden))) → P (show_anew lot e mark l)
unfolding show_anew
anew_by P lot e mark l same shows = go (runs_low lot e.number l) refl
  where
    q : ℕ
    q = min e.display (of_order e.number l.hidden.parts)

    go : (t : Bool) → runs_low lot e.number l ≡ t → P (cond t (level l.price (put (part e.number e.participant q mark) l.shown) (lose (shares_in_order q (pieces e.number l.hidden.parts)) l.hidden)) l)
    go true low = shows low
    go false low = same low

-- the mark as it is judged
pub renewed_at : (P : Book → Type 0) (rank : Ranking) (b : Book) (e : Order) → P b → (let c : Book = on rank e (join_hidden b.lot e.number) b in
    is_reserve e.kind ≡ true → P (on rank e (show_anew b.lot e (earns_mark rank e.side e.price (min e.display (hidden_of e.number (side e.side c))) c)) c)) → P (replenish_order rank b e)
unfolding replenish_order
renewed_at P rank b e same anew = go (is_reserve e.kind) refl
  where
    c : Book
    c = on rank e (join_hidden b.lot e.number) b

    go : (t : Bool) → is_reserve e.kind ≡ t → P (cond t (on rank e (show_anew b.lot e (earns_mark rank e.side e.price (min e.display (hidden_of e.number (side e.side c))) c)) c) b)
    go true r = anew r
    go false r = same

-- whatever the mark
pub renewed_by : (P : Book → Type 0) (rank : Ranking) (b : Book) (e : Order) → P b → ((mark : Bool) → is_reserve e.kind ≡ true → P (on rank e (show_anew b.lot e mark) (on rank e (join_hidden b.lot e.number) b))) → P (replenish_order rank b e)
renewed_by P rank b e same anew = renewed_at P rank b e same (anew _)

pub two_parts_by : (P : Level → Type 0) (rank : Ranking) (b : Book) (e : Order) (n : ℕ) (l : Level) → (let d : ℕ = min e.display n in let s : Level = put_shown (shown_part rank b e d) l in
    (n - d ≡ 0 → P s) → (0 < n - d → P (put_hidden (hidden_part e (n - d)) s)) → P (two_parts rank b e n l))
two_parts_by P rank b e n l one both = go (eqb (n - d) 0) refl
  where
    d : ℕ
    d = min e.display n

    s : Level
    s = put_shown (shown_part rank b e d) l

    go : (t : Bool) → eqb (n - d) 0 ≡ t → P (cond t s (put_hidden (hidden_part e (n - d)) s))
    go true z = one (eqb-true (n - d) 0 z)
    go false z = both (let some = eqb-false (n - d) 0 z in omega (arith, some))
