-- Tables of amounts by participant, and what is left of claims. Assumes nothing.
use Rattle.std.proofs.Common.{◌≡◌, ℕ, zero, suc, ◌+◌, ◌-◌, ◌^◌, ◌<◌, ◌≤◌, Bool, true, false, cond, eqb, List, [], ◌∷◌, map, length, get_or, drop, set, replicate, sym, refl, ap, ◌∙◌, ⊎_elim, arith}
use Rattle.std.proofs.lemmas.List.{drop_more, get_or-set_same, get_or-set_other, get_or-map, get_or_past, drop_all}
use Rattle.std.proofs.lemmas.Bool.{cases_eq, cases_lt, eq-eqb, ne_eqb, cond_both}
use Rattle.allocation.specs.Amounts.{amounts}
use Rattle.allocation.specs.Dealings.{total, interest, claims_left}
use Rattle.allocation.specs.declared.claims.Claim.{Claim}

pub zeros : (n p : ℕ) → ◌≡◌ {A = ℕ} (get_or (replicate n 0) p 0) 0
zeros zero p = refl
zeros (suc n) zero = refl
zeros (suc n) (suc p) = zeros n p

pub amounts_add : (t : List ℕ) (k n : ℕ) → k < length t → (p : ℕ) → amounts (set t k (amounts t k + n)) p ≡ cond (eqb p k) n 0 + amounts t p
amounts_add t k n h p =
    ⊎_elim
    (λ e. let same : amounts (set t k (amounts t k + n)) p ≡ amounts t k + n = ap (amounts (set t k (amounts t k + n))) e ∙ get_or-set_same t k (amounts t k + n) 0 h in rw (eq-eqb p k e) (omega (arith, same, ap (amounts t) e)))
    (λ ne. rw (ne_eqb p k ne) (omega (arith, get_or-set_other t k p (amounts t k + n) 0 ne)))
    (cases_eq p k)

-- what has an amount has a place
pub amounts_place : (t : List ℕ) (p : ℕ) → 0 < amounts t p → p < length t
amounts_place [] p h = absurd (omega arith)
amounts_place (x ∷ t) zero h = omega arith
amounts_place (x ∷ t) (suc p) h = omega (arith, amounts_place t p h)

-- no shares leave the claims as they are
pub left_none : (cs : List Claim) → claims_left cs [] ≡ cs
left_none [] = refl
left_none (c ∷ cs) = refl

pub left_more : (cs : List Claim) (xs : List ℕ) (i : ℕ) (d : Claim) → i < length cs → (p : ℕ) → interest p (claims_left (drop i cs) (drop i xs)) ≡ cond (eqb p (get_or cs i d).participant) ((get_or cs i d).size - get_or xs i 0) 0 + interest p (claims_left (drop (i + 1) cs) (drop (i + 1) xs))
left_more cs xs i d in-cs p =
    ⊎_elim
    (λ in_xs. rw (drop_more cs i d in-cs, drop_more xs i 0 in_xs))
    (λ past.
    let all = ap (λ l. interest p (claims_left (drop i cs) l)) (drop_all i xs past) ∙ ap (λ l. interest p (claims_left l [])) (drop_more cs i d in-cs) in
    let rest = ap (λ l. interest p (claims_left (drop (i + 1) cs) l)) (drop_all (i + 1) xs (omega arith)) ∙ ap (interest p) (left_none (drop (i + 1) cs)) in
    let none : get_or xs i 0 ≡ 0 = get_or_past xs i 0 past in
    let go : (b : Bool) → cond b (get_or cs i d).size 0 ≡ cond b ((get_or cs i d).size - get_or xs i 0) 0 = elim [ true ↦ omega arith | false ↦ refl ] in
    omega (arith, all, rest, go (eqb p (get_or cs i d).participant)))
    (cases_lt i (length xs))

pub left_all : (cs : List Claim) (xs : List ℕ) (i : ℕ) → length cs ≤ i → (p : ℕ) → interest p (claims_left (drop i cs) (drop i xs)) ≡ 0
left_all cs xs i h p = rw (drop_all i cs h)

-- nobody has more left than all claims come to
pub left_total : (p : ℕ) (cs : List Claim) (xs : List ℕ) → interest p (claims_left cs xs) ≤ total cs
left_total p [] xs = omega arith
left_total p (c ∷ cs) [] = cond_both (eqb p c.participant) c.size 0 (λ n. n + interest p cs ≤ c.size + total cs) (λ _. omega (arith, left_total p cs [], plain p cs)) (λ _. omega (arith, plain p cs))
  where
    plain : (p : ℕ) (cs : List Claim) → interest p cs ≤ total cs
    plain p [] = omega arith
    plain p (c ∷ cs) = cond_both (eqb p c.participant) c.size 0 (λ n. n + interest p cs ≤ c.size + total cs) (λ _. omega (arith, plain p cs)) (λ _. omega (arith, plain p cs))
left_total p (c ∷ cs) (x ∷ xs) = cond_both (eqb p c.participant) (c.size - x) 0 (λ n. n + interest p (claims_left cs xs) ≤ c.size + total cs) (λ _. omega (arith, left_total p cs xs)) (λ _. omega (arith, left_total p cs xs))

-- the claim that was read is the one at its place
pub claim_read : {X : Type 0} (f : X → Claim) (xs : List X) (i : ℕ) (x : X) (e : Claim) → i < length xs → x ≡ get_or xs i x → e ≡ f x → get_or (map f xs) i e ≡ e
claim_read f xs i x e h at is = get_or-map f xs i x e h ∙ ap f (sym at) ∙ sym is

-- one claim more is counted: room for it, and the table afterwards
module _ (cs : List Claim) (xs : List ℕ) (i : ℕ) (e : Claim) (table : List ℕ) (at : get_or cs i e ≡ e) (inside : i < length cs) (start : (p : ℕ) → amounts table p + interest p (claims_left (drop i cs) (drop i xs)) ≡ interest p (claims_left cs xs)) where
  more : (p : ℕ) → interest p (claims_left (drop i cs) (drop i xs)) ≡ cond (eqb p e.participant) (e.size - get_or xs i 0) 0 + interest p (claims_left (drop (i + 1) cs) (drop (i + 1) xs))
  more p = left_more cs xs i e inside p ∙ ap (λ c. cond (eqb p c.participant) (c.size - get_or xs i 0) 0 + interest p (claims_left (drop (i + 1) cs) (drop (i + 1) xs))) at

  pub counted_fits : total cs < 2 ^ 32 → amounts table e.participant + (e.size - get_or xs i 0) < 2 ^ 32
  counted_fits fits = omega (arith, start e.participant, rw (eq-eqb e.participant e.participant refl) at (more e.participant), left_total e.participant cs xs, fits)

  pub counted_more : (table' : List ℕ) → e.participant < length table → table' ≡ set table e.participant (amounts table e.participant + (e.size - get_or xs i 0)) → (p : ℕ) → amounts table' p + interest p (claims_left (drop (i + 1) cs) (drop (i + 1) xs)) ≡ interest p (claims_left cs xs)
  counted_more table' place is p =
      omega (arith, start p, more p, amounts_add table e.participant (e.size - get_or xs i 0) place p, ap (λ t. amounts t p) is)
