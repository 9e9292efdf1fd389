-- What time_shares gives. Assumes nothing.
use Rattle.std.specs.Prelude.{◌≡◌, ℕ, ◌+◌, ◌-◌, ◌*◌, ◌≤◌, min, Bool, true, false, cond, ltb, List, [], ◌∷◌, map, ◌==◌, nat_lt, refl}
use Rattle.std.proofs.Common.{ap, ⊎_elim, arith, one-mul, mul-zero}
use Rattle.std.specs.List.{AllByRecursion}
use Rattle.std.proofs.lemmas.Bool.{cases_eq, eq-eqb, ne_eqb, ltb-true, ltb-false, cond_both}
use Rattle.allocation.specs.Wheels.{seats_of}
use Rattle.allocation.specs.ByTime.{less, time_shares, shares_in_order}
use Rattle.allocation.specs.Dealings.{Lawful, Within, total, sum, interest, share_of, claims_left, by_participant, time}
use Rattle.allocation.specs.declared.claims.Claim.{Claim}
use Rattle.allocation.specs.Seating.{retain_seated}
use Rattle.allocation.specs.Counts.{across, across_add, across_point}

pub within_groups : (f : Claim → ℕ × ℕ) → ((c : Claim) → (f c).1 ≡ c.size) → (cs : List Claim) (have : ℕ → ℕ) → Within (time_shares have (map f cs)) cs
within_groups f e [] have = tt
within_groups f e (c ∷ cs) have = (omega (arith, e c), within_groups f e cs (less have (f c).0 (f c).1))

-- in one group each takes no more than its size
pub within_in_order : (cs : List Claim) (have : ℕ → ℕ) → Within (time_shares have (map (λ n. (0, n)) (map (λ c. c.size) cs))) cs
within_in_order [] have = tt
within_in_order (c ∷ cs) have = (omega arith, within_in_order cs (less have 0 c.size))

pub sum_time : (cs : List Claim) (have : ℕ → ℕ) → sum (time_shares have (map (λ n. (0, n)) (map (λ c. c.size) cs))) ≡ min (have 0) (total cs)
sum_time [] have = omega arith
sum_time (c ∷ cs) have = omega (arith, sum_time cs (less have 0 c.size))

pub own_share : (p : ℕ) (cs : List Claim) (have : ℕ → ℕ) → share_of p cs (time_shares have (map by_participant cs)) ≡ min (have p) (interest p cs)
own_share p [] have = omega arith
own_share p (c ∷ cs) have =
    let ih = own_share p cs (less have c.participant c.size) in
    ⊎_elim
    (λ e. let he : have p ≡ have c.participant = ap have e in rw (ih, eq-eqb p c.participant e) (omega arith))
    (λ n. rw (ih, ne_eqb p c.participant n) (omega arith))
    (cases_eq p c.participant)

-- what is left and what was got make what was claimed
pub left_own : (p : ℕ) (cs : List Claim) (xs : List ℕ) → Within xs cs → interest p (claims_left cs xs) + share_of p cs xs ≡ interest p cs
left_own p [] xs h = omega arith
left_own p (c ∷ cs) [] h = absurd h
left_own p (c ∷ cs) (x ∷ xs) h =
    let ih = left_own p cs xs h.1 in
    let go : (b : Bool) → (cond b (c.size - x) 0 + interest p (claims_left cs xs)) + (cond b x 0 + share_of p cs xs) ≡ cond b c.size 0 + interest p cs = elim [ true ↦ omega (arith, h.0) | false ↦ omega arith ] in
    go (p == c.participant)

-- each claimant has a seat
abbrev pub Placed : List ℕ → List Claim → Type 0
Placed ps cs = AllByRecursion (λ c. min 1 c.size ≤ seats_of c.participant ps) cs

placed_more : (ps : List ℕ) (f : ℕ → ℕ) → ((p : ℕ) → seats_of p ps ≡ min 1 (f p)) → (cs : List Claim) → ((p : ℕ) → interest p cs ≤ f p) → Placed ps cs
placed_more ps f once [] h = tt
placed_more ps f once (c ∷ cs) h =
    let here : c.size ≤ f c.participant = omega (arith, rw (eq-eqb c.participant c.participant refl) at (h c.participant)) in
    (omega (arith, once c.participant), placed_more ps f once cs (λ p. omega (arith, h p)))

pub placed : (ps : List ℕ) (cs : List Claim) → ((p : ℕ) → seats_of p ps ≡ min 1 (interest p cs)) → Placed ps cs
placed ps cs once = placed_more ps (λ p. interest p cs) once cs (λ p. omega arith)

-- a product by 0 or 1
scaled : (t x n : ℕ) → t ≤ 1 → min 1 n ≤ t → x ≤ n → t * x ≡ x
scaled t x n h l w =
    ⊎_elim (λ e. rw e (omega (arith, mul-zero t))) (λ ne. let e : t ≡ 1 = omega arith in rw e (one-mul x)) (cases_eq x 0)

pub sum_own : (ps : List ℕ) → ((p : ℕ) → seats_of p ps ≤ 1) → (cs : List Claim) (xs : List ℕ) → Placed ps cs → Within xs cs → sum xs ≡ across ps (λ p. share_of p cs xs)
sum_own ps once [] [] h w = zeros ps
  where
    zeros : (ps : List ℕ) → 0 ≡ across ps (λ p. 0)
    zeros [] = refl
    zeros (p ∷ ps) = omega (arith, zeros ps)
sum_own ps once [] (x ∷ xs) h w = absurd w
sum_own ps once (c ∷ cs) [] h w = absurd w
sum_own ps once (c ∷ cs) (x ∷ xs) h w =
    omega (
      arith,
      sum_own ps once cs xs h.1 w.1,
      across_add ps (λ p. cond (p == c.participant) x 0) (λ p. share_of p cs xs),
      across_point ps c.participant x,
      scaled (seats_of c.participant ps) x c.size (once c.participant) h.0 w.0,
    )

pub total_interest : (ps : List ℕ) → ((p : ℕ) → seats_of p ps ≤ 1) → (cs : List Claim) → Placed ps cs → total cs ≡ across ps (λ p. interest p cs)
total_interest ps once [] h = zeros ps
  where
    zeros : (ps : List ℕ) → 0 ≡ across ps (λ p. 0)
    zeros [] = refl
    zeros (p ∷ ps) = omega (arith, zeros ps)
total_interest ps once (c ∷ cs) h =
    omega (
      arith,
      total_interest ps once cs h.1,
      across_add ps (λ p. cond (p == c.participant) c.size 0) (λ p. interest p cs),
      across_point ps c.participant c.size,
      scaled (seats_of c.participant ps) c.size c.size (once c.participant) h.0 (omega arith),
    )

kept_once : (i f : ℕ) → f ≤ i → cond (nat_lt 0 f) (min 1 i) 0 ≡ min 1 f
kept_once i f h = cond_both (nat_lt 0 f) (min 1 i) 0 (λ n. n ≡ min 1 f) (λ e. omega (arith, ltb-true 0 f e)) (λ e. omega (arith, ltb-false 0 f e))

pub time_lawful : Lawful time
time_lawful q w R cs s =
    let xs = shares_in_order q (map (λ c. c.size) cs) in
    let in' = within_in_order cs (λ _. q) in
    let f : ℕ → ℕ = λ p. interest p (claims_left cs xs) in
    record {
      within = in';
      all = sum_time cs (λ _. q);
      seats = retain_seated R w (λ p. interest p cs) f (λ p. ltb 0 (f p)) s (λ p. kept_once (interest p cs) (f p) (omega (arith, left_own p cs xs in')));
    }
