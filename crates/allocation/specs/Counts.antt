-- How often a participant is seated, and sums over seats. Assumes nothing.
use Rattle.std.specs.Prelude.{◌≡◌, ℕ, ◌+◌, ◌-◌, ◌*◌, ◌<◌, ◌≤◌, Bool, true, false, cond, List, [], ◌∷◌, ◌++◌, length, take, drop, ◌==◌, slice_index, slice_index_or, refl}
use Rattle.std.proofs.Common.{sym, ap, ◌∙◌, ⊎_elim, arith, add-mul, zero-mul, one-mul}
use Rattle.std.proofs.lemmas.List.{take_more, take-append-drop, take-take, take_all}
use Rattle.std.proofs.lemmas.Bool.{cases_eq, eq-eqb, ne_eqb}
use Rattle.allocation.specs.Wheels.{seats_of}
use Rattle.allocation.specs.ByTime.{less}

pub eqb_swap : (a b : ℕ) → (a == b) ≡ (b == a)
eqb_swap a b =
    ⊎_elim (λ e. eq-eqb a b e ∙ sym (eq-eqb b a (sym e))) (λ n. ne_eqb a b n ∙ sym (ne_eqb b a (λ e. n (sym e)))) (cases_eq a b)

pub seats_append : (p : ℕ) (xs ys : List ℕ) → seats_of p (xs ++ ys) ≡ seats_of p xs + seats_of p ys
seats_append p [] ys = omega arith
seats_append p (x ∷ xs) ys = omega (arith, seats_append p xs ys)

-- the sum over seats
abbrev pub across : List ℕ → (ℕ → ℕ) → ℕ
across [] f = 0
across (p ∷ ps) f = f p + across ps f

pub across_add : (ps : List ℕ) (f g : ℕ → ℕ) → across ps (λ p. f p + g p) ≡ across ps f + across ps g
across_add [] f g = refl
across_add (p ∷ ps) f g = omega (arith, across_add ps f g)

pub across_same : (ps : List ℕ) (f g : ℕ → ℕ) → ((p : ℕ) → f p ≡ g p) → across ps f ≡ across ps g
across_same [] f g h = refl
across_same (p ∷ ps) f g h = omega (arith, across_same ps f g h, h p)

pub across_sub : (ps : List ℕ) (f g : ℕ → ℕ) → ((p : ℕ) → g p ≤ f p) → across ps (λ p. f p - g p) + across ps g ≡ across ps f
across_sub [] f g h = refl
across_sub (p ∷ ps) f g h = omega (arith, across_sub ps f g h, h p)

pub across_point : (ps : List ℕ) (k x : ℕ) → across ps (λ p. cond (p == k) x 0) ≡ seats_of k ps * x
across_point [] k x = sym (zero-mul x)
across_point (p ∷ ps) k x =
    let go : (b : Bool) → cond b x 0 + seats_of k ps * x ≡ (cond b 1 0 + seats_of k ps) * x = elim [ true ↦ omega (arith, add-mul 1 (seats_of k ps) x, one-mul x) | false ↦ omega (arith, add-mul 0 (seats_of k ps) x, zero-mul x) ] in
    rw (across_point ps k x, eqb_swap p k) (go (k == p))

-- x is taken from p's share of the sum
pub across_less : (ps : List ℕ) (f : ℕ → ℕ) (k x : ℕ) → x ≤ f k → across ps (less f k x) + seats_of k ps * x ≡ across ps f
across_less [] f k x h = omega (arith, zero-mul x)
across_less (p ∷ ps) f k x h =
    ⊎_elim
    (λ e. let fe : f p ≡ f k = ap f e in rw (eq-eqb p k e, eq-eqb k p (sym e)) (omega (arith, across_less ps f k x h, add-mul 1 (seats_of k ps) x, one-mul x)))
    (λ n. rw (ne_eqb p k n, ne_eqb k p (λ e. n (sym e))) (omega (arith, across_less ps f k x h, add-mul 0 (seats_of k ps) x, zero-mul x)))
    (cases_eq p k)

-- one seat more
pub seats_more : (xs : List ℕ) (i p : ℕ) → i < length xs → seats_of p (take (i + 1) xs) ≡ seats_of p (take i xs) + cond (p == slice_index xs i) 1 0
seats_more xs i p h =
    omega (arith, ap (seats_of p) (take_more xs i 0 h), seats_append p (take i xs) (slice_index xs i ∷ []))

pub seats_front : (xs : List ℕ) (i n p : ℕ) → i ≤ n → seats_of p (take i xs) ≤ seats_of p (take n xs)
seats_front xs i n p h =
    omega (
      arith,
      ap (seats_of p) (take-append-drop i (take n xs)),
      seats_append p (take i (take n xs)) (drop i (take n xs)),
      ap (seats_of p) (take-take i n xs h),
    )

-- who is at a seat has one
pub seats_at : (xs : List ℕ) (i : ℕ) → i < length xs → 0 < seats_of (slice_index xs i) xs
seats_at xs i h =
    let p = slice_index_or xs i 0 in
    omega (arith, rw (eq-eqb p p refl) at (seats_more xs i p h), seats_front xs (i + 1) (length xs) p (omega arith), ap (seats_of p) (take_all (length xs) xs (omega arith)))
