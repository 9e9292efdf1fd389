-- How much more than p another participant r may yet take on a wheel, as it stands: no event lets it fall. Assumes nothing.
use Rattle.std.proofs.Common.{◌≡◌, ℕ, ◌+◌, ◌-◌, ◌<◌, ◌≤◌, Bool, true, false, cond, eqb, ltb, List, [], ◌∷◌, ◌++◌, filter, sym, refl, ap, ◌∙◌, subst, arith}
use mathlib.Core.Bool.{false≢true}
use Rattle.std.proofs.lemmas.Bool.Decides.{nat_tests}
use Rattle.std.proofs.lemmas.Bool.{eqb-true}
use Rattle.allocation.specs.Wheels.{Wheel, wheel_with, seats_of, first_stays, retain, other_than, take_last_seat, ensure_seat, first_served}
use Rattle.allocation.specs.Leads.{Event, takes_turn, takes_seat, loses_seat, after, event_share, Legal, Sound}
use Rattle.allocation.specs.Seating.{seats_kept}

-- p first: what is left of its lot; r first: what it has used; r ahead of p: nothing; else a lot
abbrev pub slack : ℕ → ℕ → ℕ → ℕ → List ℕ → ℕ
slack p r lot u [] = lot
slack p r lot u (s ∷ ss) = cond (eqb r s) u (cond (eqb p s) (lot - u) (slack p r lot 0 ss))

abbrev pub slack_of : ℕ → ℕ → ℕ → Wheel → ℕ
slack_of p r lot w = slack p r lot w.used w.seats

pub slack_le : (p r lot u : ℕ) (ss : List ℕ) → u ≤ lot → slack p r lot u ss ≤ lot
slack_le p r lot u [] h = omega arith
slack_le p r lot u (s ∷ ss) h = let ih = slack_le p r lot 0 ss (omega arith) in grind arith

-- r has no seat
slack_none : (p r lot : ℕ) (ss : List ℕ) → seats_of r ss ≡ 0 → slack p r lot 0 ss ≡ lot
slack_none p r lot [] h = refl
slack_none p r lot (s ∷ ss) h = go (eqb r s) h (slack_none p r lot ss)
  where
    go : (t : Bool) → cond t 1 0 + seats_of r ss ≡ 0 → (seats_of r ss ≡ 0 → slack p r lot 0 ss ≡ lot) → cond t 0 (cond (eqb p s) (lot - 0) (slack p r lot 0 ss)) ≡ lot
    go true h ih = let no_way : ⊥ = omega arith in absurd no_way
    go false h ih = let i = ih (omega arith) in grind arith

-- one more seat behind p's changes nothing
push_slack : (p r lot u x : ℕ) (ss : List ℕ) → 0 < seats_of p ss → slack p r lot u (ss ++ (x ∷ [])) ≡ slack p r lot u ss
push_slack p r lot u x [] h = absurd (never h)
  where
    never : 0 < 0 → ⊥
    never h = omega arith
push_slack p r lot u x (s ∷ ss) h = go (eqb p s) h (push_slack p r lot 0 x ss)
  where
    go : (t : Bool) → 0 < cond t 1 0 + seats_of p ss → (0 < seats_of p ss → slack p r lot 0 (ss ++ (x ∷ [])) ≡ slack p r lot 0 ss)
        → cond (eqb r s) u (cond t (lot - u) (slack p r lot 0 (ss ++ (x ∷ [])))) ≡ cond (eqb r s) u (cond t (lot - u) (slack p r lot 0 ss))
    go true h ih = refl
    go false h ih = rw (ih (omega arith))

-- ## Seats lost and taken

leave_rest : (p r lot : ℕ) (stays : ℕ → Bool) (ss : List ℕ) → stays p ≡ true → slack p r lot 0 ss ≤ slack p r lot 0 (filter stays ss)
leave_rest p r lot stays [] h = omega arith
leave_rest p r lot stays (s ∷ ss) h = let ih = leave_rest p r lot stays ss h in grind (arith, nat_tests)

pub retain_slack : (p r lot : ℕ) (stays : ℕ → Bool) (w : Wheel) → seats_of r w.seats ≤ 1 → w.used < lot → stays p ≡ true → slack_of p r lot w ≤ slack_of p r lot (retain stays w)
retain_slack p r lot stays w = go w.seats
  where
    go : (ss : List ℕ) → seats_of r ss ≤ 1 → w.used < lot → stays p ≡ true → slack p r lot w.used ss ≤ slack p r lot (cond (first_stays stays ss) w.used 0) (filter stays ss)
    go [] o b h = omega arith
    go (s ∷ ss) o b h = first (stays s) refl (eqb r s) refl o (eqb p s) refl
      where
        rest : slack p r lot 0 ss ≤ slack p r lot 0 (filter stays ss)
        rest = leave_rest p r lot stays ss h

        first : (t : Bool) → stays s ≡ t → (c : Bool) → eqb r s ≡ c → cond c 1 0 + seats_of r ss ≤ 1 → (d : Bool) → eqb p s ≡ d
            → cond c w.used (cond d (lot - w.used) (slack p r lot 0 ss)) ≤ slack p r lot (cond t w.used 0) (cond t (s ∷ filter stays ss) (filter stays ss))
        first true et true ec oc d ed = rw ec (omega arith)
        first true et false ec oc true ed = rw (ec, ed) (omega arith)
        first true et false ec oc false ed = rw (ec, ed) rest
        first false et true ec oc d ed = let z = slack_none p r lot ss (omega arith) in omega (arith, rest)
        first false et false ec oc true ed = let y : stays s ≡ true = subst (λ k. stays k ≡ true) (eqb-true p s ed) h in absurd (false≢true (sym et ∙ y))
        first false et false ec oc false ed = rest

pub join_slack : (p r lot x : ℕ) (w : Wheel) → 0 < seats_of p w.seats → slack_of p r lot (ensure_seat w x) ≡ slack_of p r lot w
join_slack p r lot x w h = go (ltb 0 (seats_of x w.seats))
  where
    go : (t : Bool) → slack_of p r lot (cond t w (take_last_seat w x)) ≡ slack_of p r lot w
    go true = refl
    go false = push_slack p r lot w.used x w.seats h

-- ## Turns

-- r itself goes last, behind p
slack_last : (p r lot s : ℕ) (ss : List ℕ) → eqb r s ≡ true → 0 < seats_of p ss → seats_of r ss ≡ 0 → slack p r lot 0 (ss ++ (s ∷ [])) ≡ lot
slack_last p r lot s ss e h k = push_slack p r lot 0 s ss h ∙ slack_none p r lot ss k

slack_last_other : (p r lot s : ℕ) (ss : List ℕ) → eqb p s ≡ false → eqb r s ≡ false → slack p r lot 0 (ss ++ (s ∷ [])) ≡ slack p r lot 0 ss
slack_last_other p r lot s [] h k = rw (h, k)
slack_last_other p r lot s (x ∷ ss) h k = rw (slack_last_other p r lot s ss h k)

turn_slack : (p r lot u x : ℕ) → (p ≡ r → ⊥) → (kept : Bool) (ss : List ℕ) → u + x ≤ lot → seats_of r ss ≤ 1 → seats_of p ss ≡ 1 → seats_of p (first_served lot kept ss (u + x)).seats ≡ 1
    → (let w : Wheel = wheel_with ss u in let e : Event = takes_turn x kept in let v : Wheel = first_served lot kept ss (u + x) in
    event_share r w e + slack_of p r lot w ≤ event_share p w e + slack_of p r lot v)
turn_slack p r lot u x ne kept [] le once here then = let no_way : ⊥ = omega arith in absurd no_way
turn_slack p r lot u x ne kept (s ∷ ss) le once here then = go kept (eqb (u + x) lot) refl (eqb r s) refl (eqb p s) refl once here then
  where
    go : (k : Bool) (f : Bool) → eqb (u + x) lot ≡ f → (c : Bool) → eqb r s ≡ c → (d : Bool) → eqb p s ≡ d → cond c 1 0 + seats_of r ss ≤ 1 → cond d 1 0 + seats_of p ss ≡ 1
        → (let v : Wheel = cond k (cond f (wheel_with (ss ++ (s ∷ [])) 0) (wheel_with (s ∷ ss) (u + x))) (wheel_with ss 0) in
        seats_of p v.seats ≡ 1 → cond c x 0 + cond c u (cond d (lot - u) (slack p r lot 0 ss)) ≤ cond d x 0 + slack_of p r lot v)
    go k f ef true ec true ed o h t = absurd (ne (eqb-true p s ed ∙ sym (eqb-true r s ec)))
    go false f ef true ec false ed o h t = omega (arith, slack_none p r lot ss (omega arith))
    go true true ef true ec false ed o h t = omega (arith, slack_last p r lot s ss ec (omega arith) (omega arith))
    go true false ef true ec false ed o h t = rw ec (omega arith)
    go false f ef false ec true ed o h t = let no_way : ⊥ = omega arith in absurd no_way
    go true true ef false ec true ed o h t = omega (arith, eqb-true (u + x) lot ef)
    go true false ef false ec true ed o h t = rw (ec, ed) (omega arith)
    go false f ef false ec false ed o h t = omega arith
    go true true ef false ec false ed o h t = omega (arith, slack_last_other p r lot s ss ed ec)
    go true false ef false ec false ed o h t = rw (ec, ed) (omega arith)

-- ## Events

-- over one event r takes no more than p and what the slack grows by, if p keeps its seat
pub event_slack : (p r lot : ℕ) → (p ≡ r → ⊥) → (w : Wheel) (e : Event) → Sound lot w → Legal lot w e → seats_of p w.seats ≡ 1 → seats_of p (after lot w e).seats ≡ 1
    → event_share r w e + slack_of p r lot w ≤ event_share p w e + slack_of p r lot (after lot w e)
event_slack p r lot ne w (takes_turn x kept) s l here then = turn_slack p r lot w.used x ne kept w.seats l.1 (s.1 r) here then
event_slack p r lot ne w (takes_seat x) s l here then = omega (arith, push_slack p r lot w.used x w.seats (omega arith))
event_slack p r lot ne w (loses_seat x) s l here then = omega (arith, retain_slack p r lot (other_than x) w (s.1 r) s.0 (stays (other_than x p) refl))
  where
    stays : (b : Bool) → other_than x p ≡ b → other_than x p ≡ true
    stays true e = e
    stays false e =
        let gone : seats_of p (filter (other_than x) w.seats) ≡ 0 = seats_kept (other_than x) p w.seats ∙ ap (λ b. cond b (seats_of p w.seats) 0) e in
        absurd (omega arith)
