-- What the ghost fields of a queue say, and that it stays so. Assumes nothing.
use Rattle.std.proofs.Common.{◌≡◌, ℕ, true, [], ◌∷◌, ◌++◌, filter, sym, refl, ◌∙◌, subst, arith}
use mathlib.Core.Path.{fun_ext}
use Rattle.std.proofs.ByRecursion.{all_kept_by, All-push}
use Rattle.std.proofs.lemmas.Bool.{eq-eqb, ne_eqb}
use Rattle.allocation.specs.Dealings.{Dealt, Seated, WellDealt, interest, claims_left}
use Rattle.allocation.specs.declared.claims.Claim.{Claim}
use Rattle.allocation.specs.Seating.{seated_ensure, seated_leave}
use Rattle.wheel_demo.specs.Admitted.{admissible, Admitted}
use Rattle.wheel_demo.specs.Queues.{Standing, joined, served, without, unfilled, not_of}
use Rattle.wheel_demo.specs.Memory.{standing}
use Rattle.wheel_demo.specs.declared.queues.Queue.{Queue}
use Rattle.allocation.specs.declared.dealings.Dealing.{Ghosts}
use Rattle.wheel_demo.proofs.Interests.{bounds, each_admitted, admitted_each, left_admissible, interest_push, interest_unfilled, interest_given_up, interest_others}

-- the claims are admissible, and the wheel seats exactly the claimants
pub record Sound (lot : ℕ) (s : Standing) : Type 0 where
  pub admitted : Admitted s.claims
  pub seated : Seated lot s.wheel (λ p. interest p s.claims)

pub sound_queue : {D : Type 0} {d : Ghosts D} (q : Queue D d) → Sound q.lot (standing q)
sound_queue q = record { admitted = q.admitted; seated = q.seated }

pub sound_joined : (lot : ℕ) (s t : Standing) (c : Claim) → Sound lot s → admissible c ≡ true → t ≡ joined s c → Sound lot t
sound_joined lot s t c h ok is =
    let cs = s.claims in
    let p = c.participant in
    let ds = cs ++ (c ∷ []) in
    subst (Sound lot) (sym is)
    (record {
      admitted = admitted_each ds (All-push (λ x. admissible x ≡ true) cs c (each_admitted cs h.admitted) ok);
      seated = seated_ensure lot s.wheel (λ k. interest k cs) (λ k. interest k ds) p h.seated
          (omega (arith, rw (eq-eqb p p refl) at (interest_push p cs c), (bounds c ok).some))
          (λ k n. interest_push k cs c ∙ rw (ne_eqb k p n) (omega arith));
    })

pub sound_served : (q lot : ℕ) (s t : Standing) (d : Dealt) → Sound lot s → WellDealt q lot s.claims d → t ≡ served s d → Sound lot t
sound_served q lot s t d h well is =
    let left = claims_left s.claims d.shares in
    let same : (λ p. interest p left) ≡ (λ p. interest p (filter unfilled left)) = fun_ext (λ p. sym (interest_unfilled p left)) in
    subst (Sound lot) (sym is)
    (record {
      admitted = admitted_each (filter unfilled left) (left_admissible s.claims d.shares (each_admitted s.claims h.admitted));
      seated = subst (λ (f : ℕ → ℕ). Seated lot d.wheel f) same well.seats;
    })

pub sound_without : (lot : ℕ) (s t : Standing) (p : ℕ) → Sound lot s → t ≡ without s p → Sound lot t
sound_without lot s t p h is =
    let cs = s.claims in
    let ds = filter (not_of p) cs in
    subst (Sound lot) (sym is)
    (record {
      admitted = admitted_each ds (all_kept_by (not_of p) (λ x. admissible x ≡ true) cs (each_admitted cs h.admitted));
      seated = seated_leave lot s.wheel (λ k. interest k cs) (λ k. interest k ds) p h.seated (interest_given_up p cs) (λ k n. interest_others p k cs n);
    })
