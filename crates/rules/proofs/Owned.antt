-- A listed part is its order's participant's. Assumes nothing.
use Rattle.std.proofs.Common.{◌≡◌, ℕ, Bool, true, false, ◌&&◌, ◌||◌, eqb, List, [], ◌∷◌, sym, refl, ◌∙◌, subst, arith}
use mathlib.Core.Bool.{false≢true}
use Rattle.std.specs.List.{AllByRecursion}
use Rattle.std.proofs.lemmas.Bool.{eqb-true, eq-eqb, ne_eqb, and_parts, or_parts}
use Rattle.std.proofs.ByRecursion.{All-weaker}
use Rattle.rules.specs.declared.orders.Side.{Side}
use Rattle.rules.specs.declared.orders.Order.{Order}
use Rattle.rules.specs.declared.orders.Part.{Part}
use Rattle.rules.specs.Lists.{has, Distinct}
use Rattle.rules.specs.Books.{Level}
use Rattle.rules.specs.LeadLaw.{owns}
use Rattle.rules.specs.Invariants.{numbers, listed, belongs, Orderly}
use Rattle.rules.proofs.Listing.{listed_number}
use Rattle.rules.proofs.Leads.{Mine, MineAt}

owns_none : (q n : ℕ) (es : List Order) → has n (numbers es) ≡ false → owns q es n ≡ false
owns_none q n [] h = refl
owns_none q n (e ∷ es) h = let k = or_parts (eqb e.number n) (has n (numbers es)) h in let a = k.0 in let ih = owns_none q n es k.1 in grind arith

pub listed_mine : (es : List Order) (s : Side) (v : ℕ) (p : Part) → Distinct (numbers es) → listed es s v p ≡ true → Mine es p
listed_mine [] s v p d h q = absurd (false≢true h)
listed_mine (e ∷ es) s v p d h q = go (belongs e s v p) refl h (λ k. listed_mine es s v p d.1 k q)
  where
    go : (t : Bool) → belongs e s v p ≡ t → (t || listed es s v p) ≡ true → (listed es s v p ≡ true → owns q es p.order ≡ eqb q p.participant)
        → ((eqb e.number p.order && eqb q e.participant) || owns q es p.order) ≡ eqb q p.participant
    go true b h ih =
        let same : e.number ≡ p.order = eqb-true e.number p.order (and_parts (eqb e.number p.order) _ b).0 in
        let whose : p.participant ≡ e.participant = eqb-true p.participant e.participant (and_parts (eqb p.participant e.participant) _ (and_parts (eqb e.number p.order) _ b).1).0 in
        let none_else : owns q es p.order ≡ false = subst (λ n. owns q es n ≡ false) same (owns_none q e.number es d.0) in
        let at : eqb e.number p.order ≡ true = eq-eqb e.number p.order same in
        rw (at, none_else, whose) (or_no (eqb q e.participant))
      where
        or_no : (x : Bool) → (x || false) ≡ x
        or_no true = refl
        or_no false = refl
    go false b h ih =
        let apart : eqb e.number p.order ≡ false = ne_eqb e.number p.order (λ same. false≢true (sym d.0 ∙ subst (λ n. has n (numbers es) ≡ true) (sym same) (listed_number es s v p h))) in
        rw apart (ih h)

pub orderly_mine : (es : List Order) (s : Side) (ls : List Level) → Distinct (numbers es) → AllByRecursion (Orderly es s) ls → AllByRecursion (MineAt es) ls
orderly_mine es s ls d h =
    All-weaker (Orderly es s) (MineAt es)
    (λ l o. (All-weaker (λ p. listed es s l.price p ≡ true) (Mine es) (λ p k. listed_mine es s l.price p d k) l.shown.parts o.0.listed, All-weaker (λ p. listed es s l.price p ≡ true) (Mine es) (λ p k. listed_mine es s l.price p d k) l.hidden.parts o.1.listed))
    ls h
