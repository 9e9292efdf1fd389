-- Parity is a run of turns. Assumes nothing.
use Rattle.std.proofs.Common.{◌≡◌, ℕ, zero, suc, ◌+◌, ◌-◌, ◌<◌, ◌≤◌, Bool, false, cond, eqb, ltb, List, [], ◌∷◌, sym, refl, ap, ◌∙◌, ⊎_elim, arith}
use Rattle.std.proofs.lemmas.Bool.{cases_eq, eq-eqb, ne_eqb, cond_both, or_parts, true≢false}
use Rattle.allocation.specs.Wheels.{Wheel, wheel_with, has_first_seat, first_seat, no_seat}
use Rattle.allocation.specs.ByTime.{less}
use Rattle.allocation.specs.Turns.{Stage, turn_share, turn, over, turns}
use Rattle.allocation.specs.Dealings.{Seated, interest, share_of, claims_left, parity}
use Rattle.allocation.specs.Leads.{takes_turn, event_share, KeepsSeat, Sound, RunOfTurns, ParityIsARunOfTurns}
use Rattle.allocation.specs.declared.claims.Claim.{Claim}
use Rattle.allocation.proofs.Stages.{turns_seated}
use Rattle.allocation.proofs.Slack.{slack_of}
use Rattle.allocation.proofs.Leading.{run_slack}
use Rattle.allocation.specs.Turning.{parity_lawful, turn_seated, turn_takes, less_falls, turns_falls, own_given}

turn_event : (R p : ℕ) (r : Stage) (kept : Bool) → no_seat r.wheel.seats ≡ false → event_share p r.wheel (takes_turn (turn_share R r) kept) ≡ r.interests p - (turn R r).interests p
turn_event R p r kept go = at r.wheel.seats go
  where
    at : (seats : List ℕ) → no_seat seats ≡ false → let t : Stage = record { wheel = wheel_with seats r.wheel.used; interests = r.interests; quantity = r.quantity } in cond (has_first_seat p seats) (turn_share R t) 0 ≡ r.interests p - less r.interests (first_seat seats) (turn_share R t) p
    at [] e = absurd (true≢false e)
    at (f ∷ fs) e =
        ⊎_elim
        (λ eq. let oe : r.interests p ≡ r.interests f = ap r.interests eq in rw (eq-eqb p f eq) (omega arith))
        (λ ne. rw (ne_eqb p f ne) (omega arith))
        (cases_eq p f)

pub turns_run : (R n : ℕ) (r : Stage) → Seated R r.wheel r.interests → RunOfTurns R r.wheel (turns R n r).wheel (λ p. r.interests p - (turns R n r).interests p)
turns_run R zero r s = record { events = []; only = tt; legal = tt; ends = refl; shares = λ p. omega arith; stays = λ p h. h }
turns_run R (suc n) r s =
    cond_both (over r) r (turns R n (turn R r)) (λ t. RunOfTurns R r.wheel t.wheel (λ p. r.interests p - t.interests p))
    (λ _. record { events = []; only = tt; legal = tt; ends = refl; shares = λ p. omega arith; stays = λ p h. h })
    (λ e.
    let parts = or_parts (eqb r.quantity 0) (no_seat r.wheel.seats) e in
    let kept = ltb 0 (r.interests (first_seat r.wheel.seats) - turn_share R r) in
    let t = turns_run R n (turn R r) (turn_seated R r parts.1 s) in
    record {
      events = takes_turn (turn_share R r) kept ∷ t.events;
      only = (tt, t.only);
      legal = ((turn_takes R r e s, omega (arith, s.below)), t.legal);
      ends = t.ends;
      shares = λ p. omega (arith, turn_event R p r kept parts.1, t.shares p, turns_falls R n (turn R r) p, less_falls r.interests (first_seat r.wheel.seats) (turn_share R r) p);
      stays = λ p h. (omega (arith, s.once p, less_falls r.interests (first_seat r.wheel.seats) (turn_share R r) p, turns_falls R n (turn R r) p, (turns_seated R n (turn R r) (turn_seated R r parts.1 s)).once p, h), t.stays p h);
    })

pub parity_run : ParityIsARunOfTurns
parity_run q w R cs s =
    let t = turns_run R q (record { wheel = w; interests = λ p. interest p cs; quantity = q }) s in
    record { events = t.events; only = t.only; legal = t.legal; ends = t.ends; shares = λ p. t.shares p ∙ sym (own_given q w R cs s p); stays = t.stays }

-- what a dealing by parity gives r and p, if p keeps its seat
pub parity_slack : (q : ℕ) (w : Wheel) (lot : ℕ) (cs : List Claim) (p r : ℕ) → (p ≡ r → ⊥) → Seated lot w (λ p. interest p cs)
    → 0 < interest p (claims_left cs (parity q w lot cs).shares)
    → share_of r cs (parity q w lot cs).shares + slack_of p r lot w ≤ share_of p cs (parity q w lot cs).shares + slack_of p r lot (parity q w lot cs).wheel
parity_slack q w lot cs p r ne s kept =
    let t : RunOfTurns lot w (parity q w lot cs).wheel (λ p. share_of p cs (parity q w lot cs).shares) = parity_run q w lot cs s in
    let sound : Sound lot w = (s.below, λ k. omega (arith, s.once k)) in
    let stays : KeepsSeat lot p w t.events = t.stays p (omega (arith, (parity_lawful q w lot cs s).seats.once p)) in
    omega (
      arith,
      run_slack p r lot ne w t.events sound t.legal stays,
      t.shares p,
      t.shares r,
      ap (slack_of p r lot) t.ends,
    )
