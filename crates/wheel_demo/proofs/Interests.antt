-- What participants have in claims that come and go, and which claims stand. Assumes nothing.
use Rattle.std.proofs.Common.{◌≡◌, ℕ, ◌+◌, ◌-◌, ◌*◌, ◌<◌, ◌≤◌, Bool, true, false, cond, ◌&&◌, eqb, leb, Ok, Err, is_ok, List, [], ◌∷◌, ◌++◌, length, filter, sym, refl, ◌∙◌, arith}
use Rattle.std.specs.List.{AllByRecursion}
use Rattle.std.proofs.ByRecursion.{all_kept_by, All-get_or, All-from_get_or}
use Rattle.std.proofs.lemmas.Bool.{and_parts, and_from, leb-true, le-leb, ltb-true, ltb-false, eqb-true, ne_eqb, not-true, not-false, cond_both}
use Rattle.allocation.specs.Dealings.{interest, claims_left, total}
use Rattle.allocation.specs.declared.claims.Claim.{Claim}
use Rattle.wheel_demo.specs.Admitted.{admissible, Admitted}
use Rattle.wheel_demo.specs.Answers.{admitted}
use Rattle.wheel_demo.specs.declared.queues.refusing.Refused.TheVariants.{Participant, Size}
use Rattle.wheel_demo.specs.Queues.{unfilled, not_of}
use Rattle.wheel_demo.proofs.Reduced.{none}

-- what an admissible claim is
pub record Bounds (c : Claim) : Type 0 where
  pub named : 0 < c.participant
  pub known : c.participant < 25
  pub some : 0 < c.size
  pub most : c.size ≤ 500000

pub bounds : (c : Claim) → admissible c ≡ true → Bounds c
bounds c h =
    let both = and_parts (leb 1 c.participant && leb c.participant 24) (leb 1 c.size && leb c.size 500000) h in
    let who = and_parts (leb 1 c.participant) (leb c.participant 24) both.0 in
    let size = and_parts (leb 1 c.size) (leb c.size 500000) both.1 in
    record {
      named = leb-true 1 c.participant who.0;
      known = omega (arith, leb-true c.participant 24 who.1);
      some = leb-true 1 c.size size.0;
      most = leb-true c.size 500000 size.1;
    }

pub from_bounds : (c : Claim) → Bounds c → admissible c ≡ true
from_bounds c b =
    and_from (leb 1 c.participant && leb c.participant 24) (leb 1 c.size && leb c.size 500000)
    (and_from (leb 1 c.participant) (leb c.participant 24) (le-leb 1 c.participant b.named) (le-leb c.participant 24 (omega (arith, b.known))))
    (and_from (leb 1 c.size) (leb c.size 500000) (le-leb 1 c.size b.some) (le-leb c.size 500000 b.most))

-- a claim is taken where it is admissible
pub is_ok-admitted : (c : Claim) → is_ok (admitted c) ≡ admissible c
is_ok-admitted c = go (leb 1 c.participant && leb c.participant 24) (leb 1 c.size && leb c.size 500000)
  where
    go : (a b : Bool) → is_ok {T = Unit {0}} (cond a (cond b (Ok (tt {0})) (Err Size)) (Err Participant)) ≡ (a && b)
    go true true = refl
    go true false = refl
    go false b = refl

-- every claim of a list is admissible
abbrev pub EachAdmissible : List Claim → Type 0
EachAdmissible cs = AllByRecursion (λ c. admissible c ≡ true) cs

pub each_admitted : (cs : List Claim) → Admitted cs → EachAdmissible cs
each_admitted cs h = All-from_get_or (λ c. admissible c ≡ true) cs none (λ i l. h i none l)

pub admitted_each : (cs : List Claim) → EachAdmissible cs → Admitted cs
admitted_each cs h k d l = All-get_or (λ c. admissible c ≡ true) cs k d l h

pub each_known : (cs : List Claim) → EachAdmissible cs → AllByRecursion (λ c. c.participant < 25) cs
each_known [] h = tt
each_known (c ∷ cs) h = ((bounds c h.0).known, each_known cs h.1)

pub total_most : (cs : List Claim) → EachAdmissible cs → total cs ≤ 500000 * length cs
total_most [] h = omega arith
total_most (c ∷ cs) h = omega (arith, (bounds c h.0).most, total_most cs h.1)

pub interest_push : (p : ℕ) (cs : List Claim) (c : Claim) → interest p (cs ++ (c ∷ [])) ≡ interest p cs + cond (eqb p c.participant) c.size 0
interest_push p [] c = omega arith
interest_push p (x ∷ cs) c = omega (arith, interest_push p cs c)

-- who has nothing left in a claim does not miss it
pub interest_unfilled : (p : ℕ) (cs : List Claim) → interest p (filter unfilled cs) ≡ interest p cs
interest_unfilled p [] = refl
interest_unfilled p (c ∷ cs) =
    let ih = interest_unfilled p cs in
    let nil : (b : Bool) → c.size ≡ 0 → interest p (filter unfilled cs) ≡ cond b c.size 0 + interest p cs = elim [ true ↦ λ e. omega (arith, ih, e) | false ↦ λ e. omega (arith, ih) ] in
    cond_both (unfilled c) (c ∷ filter unfilled cs) (filter unfilled cs) (λ l. interest p l ≡ interest p (c ∷ cs))
    (λ _. omega (arith, ih))
    (λ e. nil (eqb p c.participant) (omega (arith, ltb-false 0 c.size e)))

-- p has nothing once its claims are given up
pub interest_given_up : (p : ℕ) (cs : List Claim) → interest p (filter (not_of p) cs) ≡ 0
interest_given_up p [] = refl
interest_given_up p (c ∷ cs) =
    let ih = interest_given_up p cs in
    cond_both (not_of p c) (c ∷ filter (not_of p) cs) (filter (not_of p) cs) (λ l. interest p l ≡ 0)
    (λ e. rw (not-true (eqb p c.participant) e) (omega (arith, ih)))
    (λ _. ih)

pub interest_others : (p k : ℕ) (cs : List Claim) → (k ≡ p → ⊥) → interest k (filter (not_of p) cs) ≡ interest k cs
interest_others p k [] n = refl
interest_others p k (c ∷ cs) n =
    let ih = interest_others p k cs n in
    cond_both (not_of p c) (c ∷ filter (not_of p) cs) (filter (not_of p) cs) (λ l. interest k l ≡ interest k (c ∷ cs))
    (λ _. omega (arith, ih))
    (λ e.
    let his : p ≡ c.participant = eqb-true p c.participant (not-false (eqb p c.participant) e) in
    rw (ne_eqb k c.participant (λ same. n (same ∙ sym his))) (omega (arith, ih)))

-- a claim of which some is left is still admissible
less_admissible : (c : Claim) (x : ℕ) → admissible c ≡ true → unfilled (record { participant = c.participant; size = c.size - x }) ≡ true → admissible (record { participant = c.participant; size = c.size - x }) ≡ true
less_admissible c x h some =
    let b = bounds c h in
    from_bounds (record { participant = c.participant; size = c.size - x }) (record { named = b.named; known = b.known; some = ltb-true 0 (c.size - x) some; most = omega (arith, b.most) })

pub left_admissible : (cs : List Claim) (xs : List ℕ) → EachAdmissible cs → EachAdmissible (filter unfilled (claims_left cs xs))
left_admissible [] xs h = tt
left_admissible (c ∷ cs) [] h = all_kept_by unfilled (λ c. admissible c ≡ true) (c ∷ cs) h
left_admissible (c ∷ cs) (x ∷ xs) h =
    let rest = filter unfilled (claims_left cs xs) in
    let ih = left_admissible cs xs h.1 in
    let e : Claim = record { participant = c.participant; size = c.size - x } in
    cond_both (unfilled e) (e ∷ rest) rest EachAdmissible (λ some. (less_admissible c x h.0 some, ih)) (λ _. ih)
