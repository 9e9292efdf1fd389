-- Parts of an order put at its price, and the book that they make. Assumes nothing.
use Rattle.std.proofs.Common.{◌≡◌, ℕ, zero, suc, ◌+◌, ◌-◌, ◌<◌, ◌≤◌, min, Bool, true, List, [], ◌∷◌, length, get_or, set, refl, ap, ◌∙◌, arith, Option}
use mathlib.Core.Bool.{false≢true}
use Rattle.std.proofs.lemmas.List.{length_push}
use Rattle.std.proofs.lemmas.Bool.{eq-eqb, ne_eqb}
use Rattle.rules.specs.declared.orders.Kind.{Kind}
use Rattle.rules.specs.declared.orders.Order.{Order}
use Rattle.rules.specs.declared.orders.Part.{Part}
use Rattle.rules.specs.Books.{Book, Level, Ranking, part, side, away, with_side}
use Rattle.rules.specs.Changes.{put, put_shown, put_hidden}
use Rattle.rules.specs.Marks.{quoted, earns_mark}
use Rattle.rules.specs.Entering.{place, hidden_part}
use Rattle.rules.specs.Refusals.{rests}
use Rattle.levels.specs.Heads.{count}
use Rattle.placing.specs.Placed.{both_parts, placed}

-- one part more is shown
pub count_shown : (ls : List Level) (i : ℕ) (d : Level) (p : Part) → i < length ls → count (set ls i (put_shown p (get_or ls i d))) ≡ count ls + 1
unfolding put
count_shown [] i d p lt = absurd (omega arith)
count_shown (l ∷ ls) zero d p lt = omega (arith, length_push l.shown.parts p)
count_shown (l ∷ ls) (suc i) d p lt = omega (arith, count_shown ls i d p (omega arith))

-- a reserve order that hides something, and one that does not
pub hides_rest : (e : Order) (n : ℕ) (mark : Bool) (l : Level) → min e.display n < n
    → put_hidden (hidden_part e (n - min e.display n)) (put_shown (part e.number e.participant (min e.display n) mark) l) ≡ both_parts e n mark l
hides_rest e n mark l lt = rw (ne_eqb (n - min e.display n) 0 (λ z. omega arith)) refl

pub hides_nothing : (e : Order) (n : ℕ) (mark : Bool) (l : Level) → n ≤ min e.display n → put_shown (part e.number e.participant (min e.display n) mark) l ≡ both_parts e n mark l
hides_nothing e n mark l le = rw (eq-eqb (n - min e.display n) 0 (omega arith)) refl

-- the book with the placed side is the rule's
pub placed_book : (rank : Ranking) (k : Kind) (e : Order) (n : ℕ) (b : Book) → rests k ≡ true → with_side e.side (placed rank k b.lot (quoted (away e.side b)) e n (side e.side b)) b ≡ place rank k e n b
unfolding place earns_mark
placed_book rank Kind.Limit e n b r = refl
placed_book rank Kind.Hidden e n b r = refl
placed_book rank Kind.Reserve e n b r = refl
placed_book rank Kind.Immediate e n b r = absurd (false≢true r)
placed_book rank Kind.Market e n b r = absurd (false≢true r)

pub placed_side : (rank : Ranking) (e : Order) (n : ℕ) (a : Option ℕ) (b : Book) (xs : List Level) → rests e.kind ≡ true → a ≡ quoted (away e.side b) → xs ≡ placed rank e.kind b.lot a e n (side e.side b) → with_side e.side xs b ≡ place rank e.kind e n b
placed_side rank e n a b xs r quote now =
    ap (λ xs. with_side e.side xs b) now
    ∙ ap (λ q. with_side e.side (placed rank e.kind b.lot q e n (side e.side b)) b) quote
    ∙ placed_book rank e.kind e n b r
