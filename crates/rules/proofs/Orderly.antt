-- Orderly levels stay so: listed orders, one mark, two parts shown and one hidden. Assumes nothing.
use Rattle.std.proofs.Common.{◌≡◌, ℕ, ◌+◌, ◌≤◌, min, Bool, true, false, cond, ◌&&◌, eqb, List, [], ◌∷◌, map, sym, refl, ◌∙◌, subst, arith}
use mathlib.Core.Bool.{false≢true}
use Rattle.std.proofs.lemmas.Bool.{eqb-true}
use Rattle.allocation.specs.ByTime.{shares_in_order}
use Rattle.allocation.specs.Dealings.{sum}
use Rattle.rules.specs.declared.orders.Side.{Side}
use Rattle.rules.specs.declared.orders.Order.{Order}
use Rattle.rules.specs.declared.orders.Part.{Part}
use Rattle.rules.specs.Lists.{any, last_alone}
use Rattle.rules.specs.Books.{part, same_side, Queue, nothing_at, Level, level, queue}
use Rattle.rules.specs.Quantities.{pieces, of_order}
use Rattle.rules.specs.Changes.{lowered, lose, put}
use Rattle.rules.specs.Reserve.{raised, runs_low, join_hidden, shows_two, show_anew}
use Rattle.rules.specs.Invariants.{listed, OrderlyParts, Orderly, marked_parts, parts_of, SoundLevel}
use Rattle.rules.proofs.Renewed.{joined_by, anew_by}
use Rattle.rules.proofs.Parts.{Steady, all_lowered, raised_all, put_all, unmark_all, lowered_count, raised_count, put_count, last_gone, shows_one}

-- ## Parts

pub listed_steady : (es : List Order) (s : Side) (v : ℕ) → Steady (λ p. listed es s v p ≡ true)
listed_steady es s v x y o h m =
    subst (λ k. any (λ e. eqb e.number y.order && (eqb k e.participant && (same_side e.side s && eqb e.price v))) es ≡ true) h
    (subst (λ n. any (λ e. eqb e.number n && (eqb x.participant e.participant && (same_side e.side s && eqb e.price v))) es ≡ true) o m)

module _ (es : List Order) (s : Side) (v marks few : ℕ) where
  pub orderly_lowered : (ps : List Part) (xs : List ℕ) → OrderlyParts es s v marks few ps → OrderlyParts es s v marks few (lowered ps xs)
  orderly_lowered ps xs h =
      record {
        listed = all_lowered (λ p. listed es s v p ≡ true) (listed_steady es s v) ps xs h.listed;
        marked = omega (arith, h.marked, lowered_count (λ p. cond p.marked 1 0) (λ p n. refl) ps xs);
        few = λ n. omega (arith, h.few n, lowered_count (λ p. cond (eqb p.order n) 1 0) (λ p n. refl) ps xs);
      }

  pub orderly_lost : (xs : List ℕ) (k : Queue) → OrderlyParts es s v marks few k.parts → OrderlyParts es s v marks few (lose xs k).parts
  unfolding lose
  orderly_lost xs k h = orderly_lowered k.parts xs h

  pub orderly_raised : (n m : ℕ) (ps : List Part) → OrderlyParts es s v marks few ps → OrderlyParts es s v marks few (raised n m ps)
  orderly_raised n m ps h =
      record {
        listed = raised_all (λ p. listed es s v p ≡ true) (listed_steady es s v) n m ps h.listed;
        marked = omega (arith, h.marked, raised_count (λ p. cond p.marked 1 0) (λ p n. refl) n m ps);
        few = λ k. omega (arith, h.few k, raised_count (λ p. cond (eqb p.order k) 1 0) (λ p n. refl) n m ps);
      }

  unmarked_none : (ps : List Part) → marked_parts (map (λ p. part p.order p.participant p.quantity false) ps) ≡ 0
  unmarked_none [] = refl
  unmarked_none (p ∷ ps) = omega (arith, unmarked_none ps)

  unmarked_few : (n : ℕ) (ps : List Part) → parts_of n (map (λ p. part p.order p.participant p.quantity false) ps) ≡ parts_of n ps
  unmarked_few n [] = refl
  unmarked_few n (p ∷ ps) = omega (arith, unmarked_few n ps)

  pub orderly_unmarked : (ps : List Part) → OrderlyParts es s v marks few ps → OrderlyParts es s v marks few (map (λ p. part p.order p.participant p.quantity false) ps)
  orderly_unmarked ps h =
      record {
        listed = unmark_all (λ p. listed es s v p ≡ true) (listed_steady es s v) ps h.listed;
        marked = omega (arith, unmarked_none ps);
        few = λ n. omega (arith, h.few n, unmarked_few n ps);
      }

  -- one more part, of an order that has room for it
  pub orderly_put : (x : Part) (k : Queue) → listed es s v x ≡ true → marked_parts k.parts + cond x.marked 1 0 ≤ marks → parts_of x.order k.parts + 1 ≤ few → OrderlyParts es s v marks few k.parts → OrderlyParts es s v marks few (put x k).parts
  orderly_put x k l m f h =
      record {
        listed = put_all (λ p. listed es s v p ≡ true) x k h.listed l;
        marked = omega (arith, m, put_count (λ p. cond p.marked 1 0) x k);
        few = λ n. room n (eqb x.order n) refl (put_count (λ p. cond (eqb p.order n) 1 0) x k);
      }
    where
      room : (n : ℕ) (t : Bool) → eqb x.order n ≡ t → parts_of n (put x k).parts ≡ parts_of n k.parts + cond (eqb x.order n) 1 0 → parts_of n (put x k).parts ≤ few
      room n true e c = let here : parts_of n k.parts + 1 ≤ few = subst (λ i. parts_of i k.parts + 1 ≤ few) (eqb-true x.order n e) f in let d = rw e at c in omega arith
      room n false e c = let d = rw e at c in omega (arith, h.few n)

pub orderly_nothing : (es : List Order) (s : Side) (v : ℕ) → Orderly es s (nothing_at v)
orderly_nothing es s v = (record { listed = tt; marked = omega arith; few = λ n. omega arith }, record { listed = tt; marked = omega arith; few = λ n. omega arith })

-- ## Levels

-- an order's own part
pub own_part : (es : List Order) (e : Order) (n : ℕ) (m : Bool) → any (λ x. eqb x.number e.number && (eqb e.participant x.participant && (same_side x.side e.side && eqb x.price e.price))) es ≡ true → listed es e.side e.price (part e.number e.participant n m) ≡ true
own_part es e n m h = h

-- the order n has one part shown at most, where it runs low
abbrev pub LowShowsOne : ℕ → ℕ → Level → Type 0
LowShowsOne lot n l = runs_low lot n l ≡ true → parts_of n l.shown.parts ≤ 1

module _ (es : List Order) (s : Side) (lot n : ℕ) where
  pub orderly_joined : (l : Level) → SoundLevel lot l → Orderly es s l → Orderly es s (join_hidden lot n l)
  orderly_joined l g o =
      let xs : List ℕ = last_alone (pieces n l.shown.parts) in
      joined_by (Orderly es s) lot n l o (λ _. (orderly_lost es s l.price 1 2 xs l.shown o.0, orderly_raised es s l.price 0 1 n (sum xs) l.hidden.parts o.1))

  pub joined_shows_one : (l : Level) → SoundLevel lot l → Orderly es s l → LowShowsOne lot n (join_hidden lot n l)
  unfolding join_hidden lose
  joined_shows_one l g o = go (runs_low lot n l) refl (shows_two n l) refl
    where
      xs : List ℕ
      xs = last_alone (pieces n l.shown.parts)

      go : (t : Bool) → runs_low lot n l ≡ t → (u : Bool) → shows_two n l ≡ u → LowShowsOne lot n (cond (t && u) (level l.price (lose xs l.shown) (queue (raised n (sum xs) l.hidden.parts) l.hidden.wheel)) l)
      go true et true eu low = omega (arith, last_gone n l.shown.parts g.0.positive, o.0.few n)
      go true et false eu low = shows_one n l.shown.parts g.0.positive eu
      go false et u eu low = absurd (false≢true (sym et ∙ low))

  pub orderly_shown_anew : (e : Order) (mark : Bool) (l : Level) → e.number ≡ n → ((m : ℕ) (t : Bool) → listed es s l.price (part e.number e.participant m t) ≡ true)
      → LowShowsOne lot n l → (mark ≡ true → marked_parts l.shown.parts ≡ 0) → Orderly es s l → Orderly es s (show_anew lot e mark l)
  orderly_shown_anew e mark l same own one clear o = anew_by (Orderly es s) lot e mark l (λ _. o) shows
    where
      q : ℕ
      q = min e.display (of_order e.number l.hidden.parts)

      marks : (t : Bool) → mark ≡ t → marked_parts l.shown.parts + cond mark 1 0 ≤ 1
      marks true z = rw z (omega (arith, clear z))
      marks false z = rw z (omega (arith, o.0.marked))

      shows : runs_low lot e.number l ≡ true → Orderly es s (level l.price (put (part e.number e.participant q mark) l.shown) (lose (shares_in_order q (pieces e.number l.hidden.parts)) l.hidden))
      shows low =
          let few : parts_of n l.shown.parts ≤ 1 = one (subst (λ k. runs_low lot k l ≡ true) same low) in (
            orderly_put es s l.price 1 2 (part e.number e.participant q mark) l.shown (own q mark) (marks mark refl) (subst (λ k. parts_of k l.shown.parts + 1 ≤ 2) (sym same) (omega arith)) o.0,
            orderly_lost es s l.price 0 1 (shares_in_order q (pieces e.number l.hidden.parts)) l.hidden o.1,
          )
