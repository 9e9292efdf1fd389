-- What the turns of parity keep, and that parity is lawful. Assumes nothing.
use Rattle.std.specs.Prelude.{◌≡◌, ℕ, zero, suc, ◌+◌, ◌-◌, ◌<◌, ◌≤◌, min, true, false, List, [], ◌∷◌, ◌++◌, map, ◌==◌, nat_lt, refl}
use Rattle.std.proofs.Common.{sym, ap, ◌∙◌, ⊎_elim, arith, one-mul}
use Rattle.std.proofs.lemmas.Bool.{cases_eq, eq-eqb, ne_eqb, eqb-true, eqb-false, ltb-true, ltb-false, cond_both, or_parts, or_cases, or_left, true≢false}
use Rattle.allocation.specs.Wheels.{Wheel, wheel_with, seats_of, first_served, first_seat, no_seat}
use Rattle.allocation.specs.ByTime.{less, time_shares}
use Rattle.allocation.specs.Turns.{Stage, turn_share, turn, over, turns}
use Rattle.allocation.specs.Dealings.{Lawful, Seated, total, sum, interest, share_of, claims_left, by_participant, parity_end, parity}
use Rattle.allocation.specs.declared.claims.Claim.{Claim}
use Rattle.allocation.specs.Counts.{across, across_same, across_less, across_sub, seats_append}
use Rattle.allocation.specs.Shares.{within_groups, own_share, left_own, placed, sum_own, total_interest}

abbrev round : List ℕ → ℕ → (ℕ → ℕ) → ℕ → Stage
round seats used interests rest = record { wheel = wheel_with seats used; interests = interests; quantity = rest }

-- the seats after a turn of p that takes x
module _ (R : ℕ) (p : ℕ) (ps : List ℕ) (used : ℕ) (interests : ℕ → ℕ) (s : Seated R (wheel_with (p ∷ ps) used) interests) (x : ℕ) (lot : used + x ≤ R) (most : x ≤ interests p) where
  once_kept : 0 < interests p - x → (k t : ℕ) → t ≡ seats_of k (p ∷ ps) → t ≡ min 1 (less interests p x k)
  once_kept h k t e =
      ⊎_elim
      (λ eq. let oe : interests k ≡ interests p = ap interests eq in rw (eq-eqb k p eq) (omega (arith, s.once k)))
      (λ ne. rw (ne_eqb k p ne) (omega (arith, s.once k)))
      (cases_eq k p)

  once_lost : interests p - x ≤ 0 → (k : ℕ) → seats_of k ps ≡ min 1 (less interests p x k)
  once_lost h k =
      ⊎_elim
      (λ eq. let oe : interests k ≡ interests p = ap interests eq in rw (eq-eqb k p eq) (omega (arith, rw (eq-eqb k p eq) at (s.once k))))
      (λ ne. rw (ne_eqb k p ne) (omega (arith, rw (ne_eqb k p ne) at (s.once k))))
      (cases_eq k p)

  served_seated : Seated R (first_served R (nat_lt 0 (interests p - x)) (p ∷ ps) (used + x)) (less interests p x)
  served_seated =
      let P : Wheel → Type 0 = λ w. Seated R w (less interests p x) in
      cond_both (nat_lt 0 (interests p - x)) _ _ P
      (λ h. cond_both (used + x == R) _ _ P
      (λ e. record { once = λ k. once_kept (ltb-true 0 (interests p - x) h) k (seats_of k (ps ++ (p ∷ []))) (omega (arith, seats_append k ps (p ∷ []))); below = omega (arith, s.below); empty = λ _. refl })
      (λ n. record { once = λ k. once_kept (ltb-true 0 (interests p - x) h) k (seats_of k (p ∷ ps)) refl; below = omega (arith, eqb-false (used + x) R n); empty = λ e. let z : ◌≡◌ {A = ℕ} 0 1 = cc in absurd (omega arith) }))
      (λ h. record { once = once_lost (ltb-false 0 (interests p - x) h); below = omega (arith, s.below); empty = λ _. refl })

-- where it is not over there are seats, and something is left
none_false : (seats : List ℕ) → no_seat seats ≡ false → (p : ℕ) × ((ps : List ℕ) × (seats ≡ p ∷ ps))
none_false [] e = absurd (true≢false e)
none_false (p ∷ ps) e = (p, (ps, refl))

pub turn_seated : (R : ℕ) (r : Stage) → no_seat r.wheel.seats ≡ false → Seated R r.wheel r.interests → Seated R (turn R r).wheel (turn R r).interests
turn_seated R r go s = at r.wheel.seats go s
  where
    at : (seats : List ℕ) → no_seat seats ≡ false → Seated R (wheel_with seats r.wheel.used) r.interests → let t = round seats r.wheel.used r.interests r.quantity in Seated R (turn R t).wheel (turn R t).interests
    at [] e s = absurd (true≢false e)
    at (p ∷ ps) e s = served_seated R p ps r.wheel.used r.interests s _ (omega (arith, s.below)) (omega arith)

pub first_interest : (R : ℕ) (r : Stage) → no_seat r.wheel.seats ≡ false → Seated R r.wheel r.interests → 0 < r.interests (first_seat r.wheel.seats)
first_interest R r go s = at r.wheel.seats go s
  where
    at : (seats : List ℕ) → no_seat seats ≡ false → Seated R (wheel_with seats r.wheel.used) r.interests → 0 < r.interests (first_seat seats)
    at [] e s = absurd (true≢false e)
    at (p ∷ ps) e s = omega (arith, rw (eq-eqb p p refl) at (s.once p))

-- a turn takes at least one share
pub turn_takes : (R : ℕ) (r : Stage) → over r ≡ false → Seated R r.wheel r.interests → 0 < turn_share R r
turn_takes R r go s =
    let parts = or_parts (r.quantity == 0) (no_seat r.wheel.seats) go in
    omega (arith, first_interest R r parts.1 s, s.below, eqb-false r.quantity 0 parts.0)

-- what turns do to the interest and to the quantity, over the seats S of the start
pub record Turned (S : List ℕ) (r t : Stage) : Type 0 where
  pub falls : (k : ℕ) → t.interests k ≤ r.interests k
  pub balance : across S r.interests + t.quantity ≡ across S t.interests + r.quantity

pub less_falls : (f : ℕ → ℕ) (p x k : ℕ) → less f p x k ≤ f k
less_falls f p x k = cond_both (k == p) (f k - x) (f k) (λ n. n ≤ f k) (λ _. omega arith) (λ _. omega arith)

pub turns_falls : (R n : ℕ) (r : Stage) (k : ℕ) → (turns R n r).interests k ≤ r.interests k
turns_falls R zero r k = omega arith
turns_falls R (suc n) r k =
    cond_both (over r) r (turns R n (turn R r)) (λ t. t.interests k ≤ r.interests k)
    (λ _. omega arith)
    (λ _. omega (arith, turns_falls R n (turn R r) k, less_falls r.interests (first_seat r.wheel.seats) (turn_share R r) k))

turn_turned : (R : ℕ) (S : List ℕ) (r : Stage) → seats_of (first_seat r.wheel.seats) S ≡ 1 → Turned S r (turn R r)
turn_turned R S r e =
    let p = first_seat r.wheel.seats in
    record {
      falls = less_falls r.interests p (turn_share R r);
      balance = omega (arith, across_less S r.interests p (turn_share R r) (omega arith), rw (e, one-mul) at (across_less S r.interests p (turn_share R r) (omega arith)));
    }

turned_trans : (S : List ℕ) (r t v : Stage) → Turned S r t → Turned S t v → Turned S r v
turned_trans S r t v a b = record { falls = λ k. omega (arith, a.falls k, b.falls k); balance = omega (arith, a.balance, b.balance) }

pub record Ended (R : ℕ) (S : List ℕ) (r t : Stage) : Type 0 where
  pub seated : Seated R t.wheel t.interests
  pub turned : Turned S r t
  pub done : over t ≡ true

pub turns_end : (R : ℕ) (S : List ℕ) (f : ℕ → ℕ) → ((k : ℕ) → seats_of k S ≡ min 1 (f k)) → (n : ℕ) (r : Stage) → ((k : ℕ) → r.interests k ≤ f k) → r.quantity ≤ n → Seated R r.wheel r.interests → Ended R S r (turns R n r)
turns_end R S f once zero r up small s = record { seated = s; turned = record { falls = λ k. omega arith; balance = omega arith }; done = or_left (r.quantity == 0) (no_seat r.wheel.seats) (eq-eqb r.quantity 0 (omega arith)) }
turns_end R S f once (suc n) r up small s =
    cond_both (over r) r (turns R n (turn R r)) (Ended R S r)
    (λ e. record { seated = s; turned = record { falls = λ k. omega arith; balance = omega arith }; done = e })
    (λ e.
    let parts = or_parts (r.quantity == 0) (no_seat r.wheel.seats) e in
    let step = turn_turned R S r (omega (arith, once (first_seat r.wheel.seats), up (first_seat r.wheel.seats), first_interest R r parts.1 s)) in
    let rest = turns_end R S f once n (turn R r) (λ k. omega (arith, up k, step.falls k)) (omega (arith, turn_takes R r e s)) (turn_seated R r parts.1 s) in
    record { seated = rest.seated; turned = turned_trans S r (turn R r) (turns R n (turn R r)) step rest.turned; done = rest.done })

none_true : (seats : List ℕ) → no_seat seats ≡ true → seats ≡ []
none_true [] e = refl
none_true (p ∷ ps) e = absurd (true≢false (sym e))

across_none : (ps : List ℕ) (f : ℕ → ℕ) → ((k : ℕ) → f k ≡ 0) → across ps f ≡ 0
across_none [] f h = refl
across_none (p ∷ ps) f h = omega (arith, across_none ps f h, h p)

module _ (q : ℕ) (w : Wheel) (R : ℕ) (cs : List Claim) (s : Seated R w (λ p. interest p cs)) where
  abbrev start : Stage
  start = record { wheel = w; interests = λ p. interest p cs; quantity = q }

  ended : Ended R w.seats start (parity_end q w R cs)
  ended = turns_end R w.seats (λ p. interest p cs) s.once q start (λ k. omega arith) (omega arith) s

  abbrev given : ℕ → ℕ
  given p = interest p cs - (parity_end q w R cs).interests p

  abbrev xs : List ℕ
  xs = time_shares given (map by_participant cs)

  -- what p's claims get is what p took
  pub own_given : (p : ℕ) → share_of p cs xs ≡ given p
  own_given p = own_share p cs given ∙ omega arith

  pub left_interest : (p : ℕ) → interest p (claims_left cs xs) ≡ (parity_end q w R cs).interests p
  left_interest p = omega (arith, left_own p cs xs (within_groups by_participant (λ _. refl) cs given), own_given p, ended.turned.falls p)

  parity_all : sum xs ≡ min q (total cs)
  parity_all =
      let S = w.seats in
      let t = parity_end q w R cs in
      let once : (p : ℕ) → seats_of p S ≤ 1 = λ p. omega (arith, s.once p) in
      let seats = placed S cs s.once in
      let a = sum_own S once cs xs seats (within_groups by_participant (λ _. refl) cs given) in
      let b = across_same S (λ p. share_of p cs xs) given own_given in
      let c = across_sub S (λ p. interest p cs) t.interests ended.turned.falls in
      let d = total_interest S once cs seats in
      let e = ended.turned.balance in
      ⊎_elim
      (λ z. omega (arith, a, b, c, d, e, eqb-true t.quantity 0 z))
      (λ z. omega (arith, a, b, c, d, e, across_none S t.interests (λ k. omega (arith, ended.seated.once k, ap (seats_of k) (none_true t.wheel.seats z)))))
      (or_cases (t.quantity == 0) (no_seat t.wheel.seats) ended.done)

pub parity_lawful : Lawful parity
parity_lawful q w R cs s =
    let e = ended q w R cs s in
    record {
      within = within_groups by_participant (λ _. refl) cs (given q w R cs s);
      all = parity_all q w R cs s;
      seats = record {
        once = λ p. omega (arith, e.seated.once p, left_interest q w R cs s p);
        below = e.seated.below;
        empty = e.seated.empty;
      };
    }
