-- Which orders a part can belong to. Assumes nothing.
use Rattle.std.proofs.Common.{◌≡◌, ℕ, Bool, true, false, cond, ◌&&◌, ◌||◌, eqb, List, [], ◌∷◌, ◌++◌, filter, sym, refl, ap, ◌∙◌, subst, arith}
use mathlib.Core.Bool.{false≢true}
use Rattle.std.specs.List.{AllByRecursion}
use Rattle.std.proofs.lemmas.Bool.{eqb-true, eqb-false, eq-eqb, ne_eqb, and_parts, or_parts}
use Rattle.std.proofs.ByRecursion.{All-weaker}
use Rattle.rules.specs.declared.orders.Side.{Side}
use Rattle.rules.specs.declared.orders.Side.TheVariants.{Buy, Sell}
use Rattle.rules.specs.declared.orders.Order.{Order}
use Rattle.rules.specs.declared.orders.Part.{Part}
use Rattle.rules.specs.Lists.{any, has, Distinct}
use Rattle.rules.specs.Books.{part, same_side}
use Rattle.rules.specs.Quantities.{of_order}
use Rattle.rules.specs.Invariants.{listed, belongs, numbers}
use Rattle.rules.proofs.Members.{all_both}

any_push : {A : Type 0} (t : A → Bool) (xs : List A) (x : A) → any t (xs ++ (x ∷ [])) ≡ (any t xs || t x)
any_push t [] x = grind arith
any_push t (y ∷ xs) x = let ih = any_push t xs x in grind arith

or_yes : (x : Bool) → (x || true) ≡ true
or_yes true = refl
or_yes false = refl

pub listed_push : (es : List Order) (e : Order) (s : Side) (v : ℕ) (p : Part) → listed es s v p ≡ true → listed (es ++ (e ∷ [])) s v p ≡ true
listed_push es e s v p h = any_push (λ x. belongs x s v p) es e ∙ rw h

-- an order lists its own parts
abbrev pub OwnListed : List Order → Order → Type 0
OwnListed es e = (n : ℕ) (m : Bool) → listed es e.side e.price (part e.number e.participant n m) ≡ true

same_itself : (s : Side) → same_side s s ≡ true
same_itself Buy = refl
same_itself Sell = refl

belongs_own : (e : Order) (n : ℕ) (m : Bool) → belongs e e.side e.price (part e.number e.participant n m) ≡ true
belongs_own e n m = rw (eq-eqb e.number e.number refl, eq-eqb e.participant e.participant refl, same_itself e.side, eq-eqb e.price e.price refl)

pub own_last : (es : List Order) (e : Order) → OwnListed (es ++ (e ∷ [])) e
own_last es e n m = any_push (λ x. belongs x e.side e.price (part e.number e.participant n m)) es e ∙ rw (belongs_own e n m) (or_yes (listed es e.side e.price (part e.number e.participant n m)))

pub own_each : (es : List Order) → AllByRecursion (OwnListed es) es
own_each [] = tt
own_each (e ∷ es) = (
  (λ n m. rw (belongs_own e n m)),
  All-weaker (OwnListed es) (OwnListed (e ∷ es)) (λ x h n m. rw (h n m) (or_yes (belongs e x.side x.price (part x.number x.participant n m)))) es (own_each es),
)

pub listed_kept : (g : ℕ → Bool) (es : List Order) (s : Side) (v : ℕ) (p : Part) → listed (filter (λ e. g e.number) es) s v p ≡ (listed es s v p && g p.order)
listed_kept g [] s v p = refl
listed_kept g (e ∷ es) s v p = go (g e.number) refl (belongs e s v p) refl (listed_kept g es s v p)
  where
    go : (t : Bool) → g e.number ≡ t → (u : Bool) → belongs e s v p ≡ u → listed (filter (λ e. g e.number) es) s v p ≡ (listed es s v p && g p.order)
        → any (λ x. belongs x s v p) (cond t (e ∷ filter (λ e. g e.number) es) (filter (λ e. g e.number) es)) ≡ ((u || listed es s v p) && g p.order)
    go t et true eu ih =
        let same : e.number ≡ p.order = eqb-true e.number p.order (and_parts (eqb e.number p.order) _ eu).0 in
        let at : g p.order ≡ t = ap g (sym same) ∙ et in
        pick_out t at ih
      where
        pick_out : (t : Bool) → g p.order ≡ t → listed (filter (λ e. g e.number) es) s v p ≡ (listed es s v p && g p.order) → any (λ x. belongs x s v p) (cond t (e ∷ filter (λ e. g e.number) es) (filter (λ e. g e.number) es)) ≡ g p.order
        pick_out true at ih = rw (eu, at)
        pick_out false at ih = ih ∙ rw at (and_no (listed es s v p))
          where
            and_no : (x : Bool) → (x && false) ≡ false
            and_no true = refl
            and_no false = refl
    go true et false eu ih = rw eu ih
    go false et false eu ih = ih

pub listed_number : (es : List Order) (s : Side) (v : ℕ) (p : Part) → listed es s v p ≡ true → has p.order (numbers es) ≡ true
listed_number [] s v p h = h
listed_number (e ∷ es) s v p h = go (belongs e s v p) refl h (listed_number es s v p)
  where
    go : (t : Bool) → belongs e s v p ≡ t → (t || listed es s v p) ≡ true → (listed es s v p ≡ true → has p.order (numbers es) ≡ true) → (eqb e.number p.order || has p.order (numbers es)) ≡ true
    go true e' h ih = rw (and_parts (eqb e.number p.order) _ e').0
    go false e' h ih = rw (ih h) (or_yes (eqb e.number p.order))

pub others : (n : ℕ) (es : List Order) → has n (numbers es) ≡ false → AllByRecursion (λ x. eqb n x.number ≡ false) es
others n [] h = tt
others n (e ∷ es) h = let k = or_parts (eqb e.number n) (has n (numbers es)) h in (ne_eqb n e.number (λ z. eqb-false e.number n k.0 (sym z)), others n es k.1)

-- a listed part with an order's number belongs to it
abbrev pub Unique : List Order → Order → Type 0
Unique es e = (s : Side) (v : ℕ) (p : Part) → listed es s v p ≡ true → p.order ≡ e.number → belongs e s v p ≡ true

pub unique_each : (es : List Order) → Distinct (numbers es) → AllByRecursion (Unique es) es
unique_each [] d = tt
unique_each (e ∷ es) d = (
  (λ s v p l o. head s v p o (belongs e s v p) refl l),
  All-weaker (λ x. (eqb e.number x.number ≡ false) × Unique es x) (Unique (e ∷ es)) (λ x h s v p l o. h.1 s v p (tail x s v p h.0 o l) o) es
      (all_both (λ x. eqb e.number x.number ≡ false) (Unique es) es (others e.number es d.0) (unique_each es d.1)),
)
  where
    head : (s : Side) (v : ℕ) (p : Part) → p.order ≡ e.number → (t : Bool) → belongs e s v p ≡ t → (t || listed es s v p) ≡ true → t ≡ true
    head s v p o true b l = refl
    head s v p o false b l = absurd (false≢true (sym d.0 ∙ subst (λ k. has k (numbers es) ≡ true) o (listed_number es s v p l)))

    tail : (x : Order) (s : Side) (v : ℕ) (p : Part) → eqb e.number x.number ≡ false → p.order ≡ x.number → listed (e ∷ es) s v p ≡ true → listed es s v p ≡ true
    tail x s v p ne o l =
        let apart : eqb e.number p.order ≡ false = ap (eqb e.number) o ∙ ne in
        let gone : belongs e s v p ≡ false = rw apart in
        rw gone at l

-- nothing of an order where none of its parts can be
pub none_of : (es : List Order) (s : Side) (v n : ℕ) (ps : List Part) → AllByRecursion (λ p. listed es s v p ≡ true) ps → ((p : Part) → listed es s v p ≡ true → p.order ≡ n → ⊥) → of_order n ps ≡ 0
none_of es s v n [] h never = refl
none_of es s v n (p ∷ ps) h never =
    let ih = none_of es s v n ps h.1 never in
    let ne : eqb p.order n ≡ false = ne_eqb p.order n (never p h.0) in
    rw ne (omega arith)
