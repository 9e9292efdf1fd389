-- Members of a list: of numbers, when one more comes last, and what is so of each. Assumes nothing.
use Rattle.std.proofs.Common.{◌≡◌, ℕ, ◌+◌, Bool, true, false, cond, ◌||◌, eqb, List, [], ◌∷◌, ◌++◌, map, filter, get_or, refl, ◌∙◌, arith}
use Rattle.std.specs.List.{AllByRecursion}
use Rattle.std.proofs.lemmas.List.Elements.{recursion_from_All}
use Rattle.std.proofs.lemmas.Bool.Decides.{nat_tests}
use Rattle.rules.specs.Lists.{has, Distinct, sum_of}

pub has_push : (p s : ℕ) (ss : List ℕ) → has p (ss ++ (s ∷ [])) ≡ (has p ss || eqb s p)
has_push p s [] = grind arith
has_push p s (x ∷ ss) = let ih = has_push p s ss in grind arith

pub distinct_push : (s : ℕ) (ss : List ℕ) → has s ss ≡ false → Distinct ss → Distinct (ss ++ (s ∷ []))
distinct_push s [] h o = (refl, tt)
distinct_push s (x ∷ ss) h o = (has_push x s ss ∙ (let o0 = o.0 in grind (arith, nat_tests)), distinct_push s ss (grind (arith, nat_tests)) o.1)

pub sum_of_append : {A : Type 0} (f : A → ℕ) (xs ys : List A) → sum_of f (xs ++ ys) ≡ sum_of f xs + sum_of f ys
sum_of_append f [] ys = omega arith
sum_of_append f (x ∷ xs) ys = omega (arith, sum_of_append f xs ys)

pub all_both : {X : Type 0} (P Q : X → Type 0) (xs : List X) → AllByRecursion P xs → AllByRecursion Q xs → AllByRecursion (λ x. P x × Q x) xs
all_both P Q [] p q = tt
all_both P Q (x ∷ xs) p q = ((p.0, q.0), all_both P Q xs p.1 q.1)

-- what is so of everything is so of each member
pub always_by : {X : Type 0} (P : X → Type 0) → ((x : X) → P x) → (xs : List X) → AllByRecursion P xs
always_by P h xs = recursion_from_All P xs (λ k d lt. h (get_or xs k d))

pub always : {X : Type 0} (A : Type 0) (xs : List X) → A → AllByRecursion (λ (_ : X). A) xs
always A xs a = always_by (λ _. A) (λ _. a) xs

pub mapped_kept : {X : Type 0} (f : X → ℕ) (P : ℕ → Type 0) (g : X → Bool) (xs : List X) → AllByRecursion P (map f xs) → AllByRecursion P (map f (filter g xs))
mapped_kept f P g [] h = tt
mapped_kept f P g (x ∷ xs) h = go (g x) (mapped_kept f P g xs h.1)
  where
    go : (t : Bool) → AllByRecursion P (map f (filter g xs)) → AllByRecursion P (map f (cond t (x ∷ filter g xs) (filter g xs)))
    go true ih = (h.0, ih)
    go false ih = ih
