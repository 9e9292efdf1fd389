-- Looking through the levels of a side. Assumes nothing.
use Rattle.std.proofs.Common.{◌≡◌, ℕ, Bool, true, false, cond, leb, List, [], ◌∷◌, length, length-drop, get_or, drop, Some, refl, sym, ap, ◌∙◌, arith}
use Rattle.std.specs.List.{list_any, find}
use Rattle.std.specs.Option.{option_map}
use Rattle.std.proofs.iter.Yields.{nat_range_steps}
use Rattle.std.proofs.lemmas.Iterator.{YieldsList}
use Rattle.std.proofs.lemmas.Iterator.Splits.{YieldsList-from_shown_while}
use Rattle.std.proofs.lemmas.List.{at_drop_more}
use Rattle.rules.specs.Lists.{any}
use Rattle.rules.specs.Books.{Level}
use Rattle.rules.specs.Quantities.{displayed, best}

-- a range over the places of a list gives its members, each read at its place
pub by_place : {X : Type 0} (xs : List X) (d : X) (n : ℕ) → n ≡ length xs → YieldsList nat_range_steps (λ i. get_or xs i d) (record { start = 0; end = n }) xs
by_place xs d n all = YieldsList-from_shown_while nat_range_steps (λ i. get_or xs i d) (λ s. drop s.start xs) (λ s. s.end ≡ length xs)
    (λ s t end k. omega (arith, length-drop s.start xs, end, k.1.0))
    (λ s i t end k. (
      k.0 ∙ end,
      at_drop_more (λ l. l) xs s.start d (omega (arith, end, k.1.0)) ∙ ap (λ j. get_or xs s.start d ∷ drop j xs) (sym k.1.2) ∙ ap (λ j. get_or xs j d ∷ drop t.start xs) (sym k.1.1),
    ))
    (record { start = 0; end = n })
    all

-- our word and the library's are one
pub any_is : {X : Type 0} (t : X → Bool) (xs : List X) → list_any t xs ≡ any t xs
any_is t [] = refl
any_is t (x ∷ xs) = rw (any_is t xs)

-- the best price is that of the first level found
pub best_is : (lot : ℕ) (ls : List Level) → option_map (λ l. l.price) (find (λ l. leb lot (displayed l)) ls) ≡ best lot ls
best_is lot [] = refl
best_is lot (l ∷ ls) = go (leb lot (displayed l)) (best_is lot ls)
  where
    go : (t : Bool) → option_map (λ l. l.price) (find (λ l. leb lot (displayed l)) ls) ≡ best lot ls → option_map (λ l. l.price) (cond t (Some l) (find (λ l. leb lot (displayed l)) ls)) ≡ cond t (Some l.price) (best lot ls)
    go true ih = refl
    go false ih = ih
