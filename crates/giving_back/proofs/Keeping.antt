-- Lists of which at most one member goes, and members told apart by a number. Assumes nothing.
use Rattle.std.proofs.Common.{◌≡◌, ℕ, zero, suc, ◌+◌, ◌<◌, Bool, true, false, cond, eqb, List, [], ◌∷◌, ◌++◌, map, length, get_or, take, drop, filter, sym, refl, ap, ◌∙◌, subst, arith}
use Rattle.std.specs.List.{AllByRecursion}
use Rattle.std.proofs.lemmas.Bool.{or_parts, or_from, eqb-false, ne_eqb}
use Rattle.std.proofs.ByRecursion.{All-get_or}
use Rattle.rules.specs.Lists.{has, Distinct}

-- ## What is kept

pub kept_all : {X : Type 0} (f : X → Bool) (xs : List X) → AllByRecursion (λ x. f x ≡ true) xs → filter f xs ≡ xs
kept_all f [] a = refl
kept_all f (x ∷ xs) a = rw a.0 (ap (λ l. x ∷ l) (kept_all f xs a.1))

pub kept_none : {X : Type 0} (f : X → Bool) (xs : List X) → AllByRecursion (λ x. f x ≡ false) xs → filter f xs ≡ []
kept_none f [] a = refl
kept_none f (x ∷ xs) a = rw a.0 (kept_none f xs a.1)

pub kept_map : {X Y : Type 0} (f : Y → Bool) (g : X → Y) (xs : List X) → filter f (map g xs) ≡ map g (filter (λ x. f (g x)) xs)
kept_map f g [] = refl
kept_map f g (x ∷ xs) = go (f (g x)) (kept_map f g xs)
  where
    go : (t : Bool) → filter f (map g xs) ≡ map g (filter (λ x. f (g x)) xs) → cond t (g x ∷ filter f (map g xs)) (filter f (map g xs)) ≡ map g (cond t (x ∷ filter (λ x. f (g x)) xs) (filter (λ x. f (g x)) xs))
    go true ih = ap (λ l. g x ∷ l) ih
    go false ih = ih

cons_cond : {X : Type 0} (x : X) (t : Bool) (ys zs : List X) → (x ∷ cond t ys zs) ≡ cond t (x ∷ ys) (x ∷ zs)
cons_cond x true ys zs = refl
cons_cond x false ys zs = refl

-- all but the one at i pass
pub kept_one : {X : Type 0} (f : X → Bool) (xs : List X) (i : ℕ) (d : X) → i < length xs → AllByRecursion (λ x. f x ≡ true) (take i xs) → AllByRecursion (λ x. f x ≡ true) (drop (i + 1) xs)
    → filter f xs ≡ cond (f (get_or xs i d)) xs (take i xs ++ drop (i + 1) xs)
kept_one f [] i d lt a b = absurd (omega arith)
kept_one f (x ∷ xs) zero d lt a b = ap (λ l. cond (f x) (x ∷ l) l) (kept_all f xs b)
kept_one f (x ∷ xs) (suc i) d lt a b =
    let up : suc i + 1 ≡ suc (i + 1) = omega arith in
    let back : AllByRecursion (λ x. f x ≡ true) (drop (i + 1) xs) = subst (λ n. AllByRecursion (λ x. f x ≡ true) (drop n (x ∷ xs))) up b in
    rw a.0
    (ap (λ l. x ∷ l) (kept_one f xs i d (omega arith) a.1 back)
    ∙ cons_cond x (f (get_or xs i d)) xs (take i xs ++ drop (i + 1) xs)
    ∙ ap (λ n. cond (f (get_or xs i d)) (x ∷ xs) (x ∷ (take i xs ++ drop n (x ∷ xs)))) (sym up))

-- ## Members told apart

pub unlike : {X : Type 0} (f : X → ℕ) (n : ℕ) (xs : List X) → has n (map f xs) ≡ false → AllByRecursion (λ x. (f x ≡ n → ⊥)) xs
unlike f n [] h = tt
unlike f n (x ∷ xs) h = let k = or_parts (eqb (f x) n) (has n (map f xs)) h in (eqb-false (f x) n k.0, unlike f n xs k.1)

pub not_among : {X : Type 0} (f : X → ℕ) (n : ℕ) (xs : List X) → AllByRecursion (λ x. (f x ≡ n → ⊥)) xs → has n (map f xs) ≡ false
not_among f n [] a = refl
not_among f n (x ∷ xs) a = or_from (eqb (f x) n) (has n (map f xs)) (ne_eqb (f x) n a.0) (not_among f n xs a.1)

pub apart_before : {X : Type 0} (f : X → ℕ) (xs : List X) (i : ℕ) (d : X) → Distinct (map f xs) → i < length xs → AllByRecursion (λ x. (f x ≡ f (get_or xs i d) → ⊥)) (take i xs)
apart_before f [] i d h lt = absurd (omega arith)
apart_before f (x ∷ xs) zero d h lt = tt
apart_before f (x ∷ xs) (suc i) d h lt = (
  (λ e. All-get_or (λ y. (f y ≡ f x → ⊥)) xs i d (omega arith) (unlike f (f x) xs h.0) (sym e)),
  apart_before f xs i d h.1 (omega arith),
)

pub apart_after : {X : Type 0} (f : X → ℕ) (xs : List X) (i : ℕ) (d : X) → Distinct (map f xs) → i < length xs → AllByRecursion (λ x. (f x ≡ f (get_or xs i d) → ⊥)) (drop (i + 1) xs)
apart_after f [] i d h lt = absurd (omega arith)
apart_after f (x ∷ xs) zero d h lt = unlike f (f x) xs h.0
apart_after f (x ∷ xs) (suc i) d h lt =
    let up : suc (i + 1) ≡ suc i + 1 = omega arith in
    subst (λ n. AllByRecursion (λ y. (f y ≡ f (get_or xs i d) → ⊥)) (drop n (x ∷ xs))) up (apart_after f xs i d h.1 (omega arith))

-- ## What is so of each

pub all_unmap : {X Y : Type 0} (P : Y → Type 0) (f : X → Y) (xs : List X) → AllByRecursion P (map f xs) → AllByRecursion (λ x. P (f x)) xs
all_unmap P f [] a = tt
all_unmap P f (x ∷ xs) a = (a.0, all_unmap P f xs a.1)
