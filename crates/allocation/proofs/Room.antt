-- There is always room on the wheel for one who has no seat. Assumes nothing.
use Rattle.std.proofs.Common.{◌≡◌, ℕ, zero, suc, ◌+◌, ◌<◌, ◌≤◌, Bool, true, false, cond, ◌||◌, eqb, ltb, List, [], ◌∷◌, ◌++◌, length, take, drop, filter, sym, refl, ap, subst, ⊎_elim, arith}
use Rattle.std.specs.List.{AllByRecursion, list_any}
use Rattle.std.proofs.lemmas.Bool.{cases_eq, eq-eqb, ne_eqb, cond-true, cond-false, cond_both, lt-ltb}
use Rattle.std.proofs.lemmas.List.{take-append-drop}
use Rattle.allocation.specs.Wheels.{seats_of}
use Rattle.allocation.specs.Counts.{eqb_swap, seats_append}
use Rattle.allocation.specs.Seating.{seats_kept}

-- whether p is among the seats
pub list_any-seats : (p : ℕ) (xs : List ℕ) → list_any (λ x. eqb x p) xs ≡ ltb 0 (seats_of p xs)
list_any-seats p [] = refl
list_any-seats p (x ∷ xs) = rw (list_any-seats p xs, eqb_swap x p) (go (eqb p x) (seats_of p xs))
  where
    go : (b : Bool) (n : ℕ) → (b || ltb 0 n) ≡ ltb 0 (cond b 1 0 + n)
    go true n = sym (lt-ltb 0 (1 + n) (omega arith))
    go false n = ap (ltb 0) (omega arith)

-- what the type of a wheel says of its seats: participants from 1 to 24, each with one at most
pub record OnceEach (seats : List ℕ) : Type 0 where
  pub once : (k : ℕ) → seats_of k seats ≤ 1
  pub known : (k : ℕ) → 0 < seats_of k seats → (0 < k) × (k < 25)

-- the sum of f below n
abbrev under : ℕ → (ℕ → ℕ) → ℕ
under zero f = 0
under (suc n) f = f n + under n f

under_add : (n : ℕ) (f g : ℕ → ℕ) → under n (λ k. f k + g k) ≡ under n f + under n g
under_add zero f g = refl
under_add (suc n) f g = omega (arith, under_add n f g)

under_point_past : (n x : ℕ) → n ≤ x → under n (λ k. cond (eqb k x) 1 0) ≡ 0
under_point_past zero x h = refl
under_point_past (suc n) x h = rw (ne_eqb n x (λ e. omega arith)) (omega (arith, under_point_past n x (omega arith)))

under_point : (n x : ℕ) → x < n → under n (λ k. cond (eqb k x) 1 0) ≡ 1
under_point zero x h = absurd (omega arith)
under_point (suc n) x h =
    ⊎_elim
    (λ e. rw (eq-eqb n x e) (omega (arith, under_point_past n x (omega arith))))
    (λ ne. rw (ne_eqb n x ne) (omega (arith, under_point n x (omega arith))))
    (cases_eq n x)

under_none : (n : ℕ) → under n (λ k. 0) ≡ 0
under_none zero = refl
under_none (suc n) = omega (arith, under_none n)

-- a list is as long as its numbers are often
length_seats : (n : ℕ) (xs : List ℕ) → AllByRecursion (λ x. x < n) xs → length xs ≡ under n (λ k. seats_of k xs)
length_seats n [] a = sym (under_none n)
length_seats n (x ∷ xs) a =
    omega (arith, length_seats n xs a.1, under_add n (λ k. cond (eqb k x) 1 0) (λ k. seats_of k xs), under_point n x a.0)

-- two numbers below n that do not come
under_two : (n p : ℕ) (f : ℕ → ℕ) → ((k : ℕ) → f k ≤ 1) → f 0 ≡ 0 → f p ≡ 0 → 0 < p → p < n → under n f + 2 ≤ n
under_two n p f once no_seat away pos below = go n below
  where
    one : (n : ℕ) → 0 < n → under n f + 1 ≤ n
    one zero h = absurd (omega arith)
    one (suc zero) h = omega (arith, no_seat)
    one (suc (suc n)) h = omega (arith, once (suc n), one (suc n) (omega arith))

    go : (n : ℕ) → p < n → under n f + 2 ≤ n
    go zero h = absurd (omega arith)
    go (suc n) h =
        ⊎_elim
        (λ e. omega (arith, ap f e, away, one n (omega arith)))
        (λ ne. omega (arith, once n, go n (omega arith)))
        (cases_eq n p)

all_known : (xs ys : List ℕ) → ((k : ℕ) → 0 < seats_of k ys → k < 25) → ((k : ℕ) → seats_of k xs ≤ seats_of k ys) → AllByRecursion (λ x. x < 25) xs
all_known [] ys known within = tt
all_known (x ∷ xs) ys known within =
    (known x (omega (arith, rw (eq-eqb x x refl) at (within x))), all_known xs ys known (λ k. omega (arith, within k)))

pub room : (xs : List ℕ) (p : ℕ) → OnceEach xs → 0 < p → p < 25 → seats_of p xs ≡ 0 → length xs < 24
room xs p s pos below away =
    let all = all_known xs xs (λ k h. (s.known k h).1) (λ k. omega arith) in
    let no_seat : seats_of 0 xs ≡ 0 = zero_away (seats_of 0 xs) (s.known 0) in
    omega (arith, length_seats 25 xs all, under_two 25 p (λ k. seats_of k xs) s.once no_seat away pos below)
  where
    zero_away : (n : ℕ) → (0 < n → (0 < 0) × (0 < 25)) → n ≡ 0
    zero_away zero h = refl
    zero_away (suc n) h = absurd (omega (arith, (h (omega arith)).0))

-- seats of which nobody has more than before
pub fewer_seats : (xs ys : List ℕ) → ((k : ℕ) → seats_of k ys ≤ seats_of k xs) → OnceEach xs → OnceEach ys
fewer_seats xs ys h s = record { once = λ k. omega (arith, h k, s.once k); known = λ k some. s.known k (omega (arith, h k)) }

pub turned_seats : (xs : List ℕ) → OnceEach xs → OnceEach (drop 1 xs ++ take 1 xs)
turned_seats xs =
    fewer_seats xs (drop 1 xs ++ take 1 xs)
    (λ k. omega (arith, seats_append k (drop 1 xs) (take 1 xs), seats_append k (take 1 xs) (drop 1 xs), ap (seats_of k) (take-append-drop 1 xs)))

pub dropped_seat : (xs : List ℕ) → OnceEach xs → OnceEach (drop 1 xs)
dropped_seat xs =
    fewer_seats xs (drop 1 xs) (λ k. omega (arith, seats_append k (take 1 xs) (drop 1 xs), ap (seats_of k) (take-append-drop 1 xs)))

pub kept_seats : (t : ℕ → Bool) (xs : List ℕ) → OnceEach xs → OnceEach (filter t xs)
kept_seats t xs =
    fewer_seats xs (filter t xs)
    (λ k. subst (λ (n : ℕ). n ≤ seats_of k xs) (sym (seats_kept t k xs)) (cond_both (t k) (seats_of k xs) 0 (λ n. n ≤ seats_of k xs) (λ _. omega arith) (λ _. omega arith)))

pub last_seat : (xs : List ℕ) (p : ℕ) → 0 < p → p < 25 → seats_of p xs ≡ 0 → OnceEach xs → OnceEach (xs ++ (p ∷ []))
last_seat xs p pos below away s =
    record {
      once = λ k. ⊎_elim (λ e. omega (arith, seats_append k xs (p ∷ []), one k e, ap (λ j. seats_of j xs) e)) (λ n. omega (arith, seats_append k xs (p ∷ []), nil k n, s.once k)) (cases_eq k p);
      known = λ k some. ⊎_elim (λ e. (omega (arith, e), omega (arith, e))) (λ n. s.known k (omega (arith, seats_append k xs (p ∷ []), nil k n))) (cases_eq k p);
    }
  where
    one : (k : ℕ) → k ≡ p → ◌≡◌ {A = ℕ} (cond (eqb k p) 1 0) 1
    one k e = cond-true (eqb k p) 1 0 (eq-eqb k p e)

    nil : (k : ℕ) → (k ≡ p → ⊥) → ◌≡◌ {A = ℕ} (cond (eqb k p) 1 0) 0
    nil k n = cond-false (eqb k p) 1 0 (ne_eqb k p n)
