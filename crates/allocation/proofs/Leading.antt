-- The lead law. Assumes nothing.
use Rattle.std.proofs.Common.{◌≡◌, ℕ, ◌+◌, ◌<◌, ◌≤◌, Bool, cond, eqb, List, [], ◌∷◌, ◌++◌, filter, sym, refl, ap, subst, ⊎_elim, arith}
use Rattle.std.proofs.lemmas.Bool.{cases_eq, eq-eqb, ne_eqb, eqb-false, cond_both, cond-true, cond-false}
use Rattle.allocation.specs.Wheels.{Wheel, wheel_with, seats_of, first_stays, other_than, first_served}
use Rattle.allocation.specs.Dealings.{Seated}
use Rattle.allocation.specs.Leads.{Event, takes_turn, takes_seat, loses_seat, after, Legal, run, shares_taken, LegalRun, KeepsSeat, Sound, NobodyLeadsByMoreThanALot}
use Rattle.allocation.proofs.Slack.{slack_of, slack_le, event_slack}
use Rattle.allocation.specs.Seating.{seats_kept}
use Rattle.allocation.specs.Counts.{seats_append}

without_le : (k r : ℕ) (ys : List ℕ) → seats_of k (filter (other_than r) ys) ≤ seats_of k ys
without_le k r ys = subst (λ (n : ℕ). n ≤ seats_of k ys) (sym (seats_kept (other_than r) k ys)) (cond_both (other_than r k) (seats_of k ys) 0 (λ n. n ≤ seats_of k ys) (λ _. omega arith) (λ _. omega arith))

bit_none : (a b : ℕ) → (a ≡ b → ⊥) → ◌≡◌ {A = ℕ} (cond (eqb a b) 1 0) 0
bit_none a b n = cond-false (eqb a b) 1 0 (ne_eqb a b n)

bit_one : (a b : ℕ) → a ≡ b → ◌≡◌ {A = ℕ} (cond (eqb a b) 1 0) 1
bit_one a b e = cond-true (eqb a b) 1 0 (eq-eqb a b e)

served_sound : (R u : ℕ) (kept : Bool) (seats : List ℕ) → 0 < R → u ≤ R → ((k : ℕ) → seats_of k seats ≤ 1) → Sound R (first_served R kept seats u)
served_sound R u kept [] pos lot once = (pos, once)
served_sound R u kept (f ∷ fs) pos lot once =
    cond_both kept _ _ (Sound R)
    (λ _. cond_both (eqb u R) _ _ (Sound R) (λ _. (pos, λ k. omega (arith, once k, seats_append k fs (f ∷ [])))) (λ n. (omega (arith, eqb-false u R n), once)))
    (λ _. (pos, λ k. omega (arith, once k)))

pub after_sound : (R : ℕ) (w : Wheel) (e : Event) → Sound R w → Legal R w e → Sound R (after R w e)
after_sound R w (takes_turn x kept) s l = served_sound R (w.used + x) kept w.seats (omega (arith, s.0)) l.1 s.1
after_sound R w (takes_seat r) s l = (
  s.0,
  λ k. ⊎_elim
      (λ e. omega (arith, seats_append k w.seats (r ∷ []), l, ap (λ z. seats_of z w.seats) e, bit_one k r e))
      (λ n. omega (arith, seats_append k w.seats (r ∷ []), s.1 k, bit_none k r n))
      (cases_eq k r),
)
after_sound R w (loses_seat r) s l =
    (cond_both (first_stays (other_than r) w.seats) w.used 0 (λ n. n < R) (λ _. s.0) (λ _. omega (arith, s.0)), λ k. omega (arith, s.1 k, without_le k r w.seats))

pub keeps_now : (R p : ℕ) (w : Wheel) (es : List Event) → KeepsSeat R p w es → seats_of p w.seats ≡ 1
keeps_now R p w [] k = k
keeps_now R p w (e ∷ es) k = k.0

-- over a run r takes no more than p and what the slack grows by
pub run_slack : (p r R : ℕ) → (p ≡ r → ⊥) → (w : Wheel) (es : List Event) → Sound R w → LegalRun R w es → KeepsSeat R p w es
    → shares_taken R r w es + slack_of p r R w ≤ shares_taken R p w es + slack_of p r R (run R w es)
run_slack p r R ne w [] s runs kept_seat = omega arith
run_slack p r R ne w (e ∷ es) s runs kept_seat =
    omega (
      arith,
      event_slack p r R ne w e s runs.0 kept_seat.0 (keeps_now R p (after R w e) es kept_seat.1),
      run_slack p r R ne (after R w e) es (after_sound R w e s runs.0) runs.1 kept_seat.1,
    )

-- one run after another
pub run_append : (R : ℕ) (w : Wheel) (es fs : List Event) → run R w (es ++ fs) ≡ run R (run R w es) fs
run_append R w [] fs = refl
run_append R w (e ∷ es) fs = run_append R (after R w e) es fs

pub taken_append : (R p : ℕ) (w : Wheel) (es fs : List Event) → shares_taken R p w (es ++ fs) ≡ shares_taken R p w es + shares_taken R p (run R w es) fs
taken_append R p w [] fs = omega arith
taken_append R p w (e ∷ es) fs = omega (arith, taken_append R p (after R w e) es fs)

pub runs_append : (R : ℕ) (w : Wheel) (es fs : List Event) → LegalRun R w es → LegalRun R (run R w es) fs → LegalRun R w (es ++ fs)
runs_append R w [] fs a b = b
runs_append R w (e ∷ es) fs a b = (a.0, runs_append R (after R w e) es fs a.1 b)

pub keeps_append : (R p : ℕ) (w : Wheel) (es fs : List Event) → KeepsSeat R p w es → KeepsSeat R p (run R w es) fs → KeepsSeat R p w (es ++ fs)
keeps_append R p w [] fs a b = b
keeps_append R p w (e ∷ es) fs a b = (a.0, keeps_append R p (after R w e) es fs a.1 b)

pub run_sound : (R : ℕ) (w : Wheel) (es : List Event) → Sound R w → LegalRun R w es → Sound R (run R w es)
run_sound R w [] s r = s
run_sound R w (e ∷ es) s r = run_sound R (after R w e) es (after_sound R w e s r.0) r.1

-- from a sound wheel over a run
pub lead : (R : ℕ) (w : Wheel) (es : List Event) → Sound R w → LegalRun R w es → (p q : ℕ) → KeepsSeat R p w es → shares_taken R q w es ≤ shares_taken R p w es + R
lead R w es s runs p q kept_seat =
    ⊎_elim
    (λ e. omega (arith, ap (λ k. shares_taken R k w es) e))
    (λ n. omega (arith, run_slack p q R n w es s runs kept_seat, slack_le p q R (run R w es).used (run R w es).seats (omega (arith, (run_sound R w es s runs).0))))
    (cases_eq p q)

-- a run of two parts is a run of each
pub runs_front : (R : ℕ) (w : Wheel) (es fs : List Event) → LegalRun R w (es ++ fs) → LegalRun R w es
runs_front R w [] fs r = tt
runs_front R w (e ∷ es) fs r = (r.0, runs_front R (after R w e) es fs r.1)

pub runs_back : (R : ℕ) (w : Wheel) (es fs : List Event) → LegalRun R w (es ++ fs) → LegalRun R (run R w es) fs
runs_back R w [] fs r = r
runs_back R w (e ∷ es) fs r = runs_back R (after R w e) es fs r.1

pub nobody_leads : NobodyLeadsByMoreThanALot
nobody_leads R w before later s runs p q kept_seat =
    lead R (run R w before) later (run_sound R w before s (runs_front R w before later runs)) (runs_back R w before later runs) p q kept_seat

-- a wheel that seats those with interest is sound, and so is one without seats
pub seated_sound : (R : ℕ) (w : Wheel) (f : ℕ → ℕ) → Seated R w f → Sound R w
seated_sound R w f s = (s.below, λ k. omega (arith, s.once k))

pub empty_sound : (R : ℕ) → 0 < R → Sound R (wheel_with [] 0)
empty_sound R pos = (pos, λ k. omega arith)

-- who keeps its seat over a run of two parts keeps it over each
pub keeps_front : (R p : ℕ) (w : Wheel) (es fs : List Event) → KeepsSeat R p w (es ++ fs) → KeepsSeat R p w es
keeps_front R p w [] fs k = keeps_now R p w fs k
keeps_front R p w (e ∷ es) fs k = (k.0, keeps_front R p (after R w e) es fs k.1)

pub keeps_back : (R p : ℕ) (w : Wheel) (es fs : List Event) → KeepsSeat R p w (es ++ fs) → KeepsSeat R p (run R w es) fs
keeps_back R p w [] fs k = k
keeps_back R p w (e ∷ es) fs k = keeps_back R p (after R w e) es fs k.1
