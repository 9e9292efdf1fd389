-- A list in which a stretch is replaced. Assumes nothing.
use Rattle.std.proofs.Common.{◌≡◌, ℕ, ◌+◌, ◌-◌, ◌<◌, ◌≤◌, List, [], ◌∷◌, ◌++◌, length, take, drop, set, sym, refl, ap, ◌∙◌, append_assoc, arith}
use Rattle.std.specs.List.{insert}
use Rattle.levels.specs.Splices.{spliced}
use Rattle.std.proofs.lemmas.List.{length-take, length-take-le, length-drop, length-append, take_at, drop_at, take-take, drop-drop, take-append-drop, drop-take, set-append_left, set-append_right}

module _ {X : Type 0} (xs : List X) (a b : ℕ) (ys : List X) (le : a ≤ length xs) where
  pub take_spliced : take a (spliced xs a b ys) ≡ take a xs
  take_spliced = take_at (take a xs) (ys ++ drop b xs) a (length-take-le a xs le)

  pub drop_spliced : drop a (spliced xs a b ys) ≡ ys ++ drop b xs
  drop_spliced = drop_at (take a xs) (ys ++ drop b xs) a (length-take-le a xs le)

  pub past_spliced : drop (a + length ys) (spliced xs a b ys) ≡ drop b xs
  past_spliced = sym (drop-drop (length ys) a (spliced xs a b ys)) ∙ ap (drop (length ys)) drop_spliced ∙ drop_at ys (drop b xs) (length ys) refl

  pub length_spliced : b ≤ length xs → length (spliced xs a b ys) + b ≡ length xs + a + length ys
  length_spliced within = simp (length-append, length-take, length-drop) (omega arith)

-- one more after a stretch
pub inserted_spliced : {X : Type 0} (xs : List X) (a n : ℕ) (x : X) → insert xs (a + n) x ≡ spliced xs a (a + n) (take n (drop a xs) ++ (x ∷ []))
inserted_spliced xs a n x =
    ap (λ l. l ++ (x ∷ drop (a + n) xs)) (split a n xs)
    ∙ append_assoc (take a xs) (take n (drop a xs)) (x ∷ drop (a + n) xs)
    ∙ ap (λ l. take a xs ++ l) (sym (append_assoc (take n (drop a xs)) (x ∷ []) (drop (a + n) xs)))
  where
    split : {X : Type 0} (a n : ℕ) (xs : List X) → take (a + n) xs ≡ take a xs ++ take n (drop a xs)
    split a n xs =
        sym (take-append-drop a (take (a + n) xs))
        ∙ ap (λ l. l ++ drop a (take (a + n) xs)) (take-take a (a + n) xs (omega arith))
        ∙ ap (λ l. take a xs ++ l) (drop-take a n xs)

-- ## One place of a stretch is set

pub set_spliced : {X : Type 0} (xs : List X) (a n k : ℕ) (x : X) → a + n ≤ length xs → k < n → set xs (a + k) x ≡ spliced xs a (a + n) (set (take n (drop a xs)) k x)
set_spliced xs a n k x fits lt =
    let mid = take n (drop a xs) in
    let here : a + k - a ≡ k = omega arith in
    ap (λ l. set l (a + k) x) (sym (take-append-drop a xs))
    ∙ set-append_right (take a xs) (drop a xs) a (a + k) x (length-take-le a xs (omega arith)) (omega arith)
    ∙ ap (λ m. take a xs ++ set (drop a xs) m x) here
    ∙ ap (λ l. take a xs ++ set l k x) (sym (take-append-drop n (drop a xs)))
    ∙ ap (λ l. take a xs ++ l) (set-append_left mid (drop n (drop a xs)) k x (omega (arith, length-take n (drop a xs), length-drop a xs)))
    ∙ ap (λ l. take a xs ++ (set mid k x ++ l)) (drop-drop n a xs)
