-- The rule of an enter. Assumes nothing.
use Rattle.std.proofs.Common.{◌≡◌, ℕ, ◌≤◌, Bool, false, cond, List, [], ◌∷◌, ◌++◌, Some, None, sym, refl, ap, ◌∙◌, Err}
use mathlib.Core.Bool.{false≢true}
use Rattle.std.specs.List.{AllByRecursion}
use Rattle.std.proofs.lemmas.Bool.{leb-false, ltb-false}
use Rattle.allocation.specs.Dealings.{Deal}
use Rattle.rules.specs.declared.orders.Order.{Order}
use Rattle.rules.specs.declared.phases.Phase.{Phase}
use Rattle.rules.specs.declared.calls.Call.TheVariants.{Enter}
use Rattle.rules.specs.declared.answers.Refusal.{Refusal}
use Rattle.rules.specs.Books.{Ranking, Book}
use Rattle.rules.specs.Refusals.{first, refusals, none, phase_after, next_phase, bad_number, bad_participant, bad_quantity, bad_price, bad_display, small_report, out_of_phase}
use Rattle.rules.specs.Entering.{enter}
use Rattle.rules.specs.Rules.{rule, ruled, effect, settled}
use Rattle.rules.proofs.Rulings.{none_applies}
use Rattle.rules.proofs.Remainder.{EntryAllowed}
use Rattle.entering.specs.Refused.{Presentable, late_refusals}

-- refusals whose tests fail are passed over
passed_over : (xs ys : List (Refusal × Bool)) → AllByRecursion (λ (x : Refusal × Bool). x.1 ≡ false) xs → first (xs ++ ys) ≡ first ys
passed_over [] ys h = refl
passed_over (x ∷ xs) ys h = ap (λ t. cond t (Some x.0) (first (xs ++ ys))) h.0 ∙ passed_over xs ys h.1

abbrev early_refusals : Book → ℕ → Order → List (Refusal × Bool)
early_refusals b room e =
    (Refusal.OrderNumber, bad_number e.number)
    ∷ (Refusal.Participant, bad_participant e.participant)
    ∷ (Refusal.Quantity, bad_quantity e.quantity)
    ∷ (Refusal.Price, bad_price e.kind e.price)
    ∷ (Refusal.DisplayQuantity, bad_display b.lot e.kind e.quantity e.display)
    ∷ (Refusal.ReportRoom, small_report room)
    ∷ (Refusal.Phase, out_of_phase b (Enter e))
    ∷ []

-- for a presentable order the late refusals decide
pub late_decide : (b : Book) (room : ℕ) (e : Order) → Presentable b room e → first (refusals b room (Enter e)) ≡ first (late_refusals b e)
unfolding refusals
late_decide b room e p = passed_over (early_refusals b room e) (late_refusals b e) (p.number, (p.participant, (p.quantity, (p.price, (p.display, (p.report, (p.phase, tt)))))))

pub refused : (rank : Ranking) (deal : Deal) (b : Book) (room : ℕ) (e : Order) (r : Refusal) → Presentable b room e → first (late_refusals b e) ≡ Some r → rule rank deal b room (Enter e) ≡ record { answer = Err r; rows = []; book = b }
unfolding rule
refused rank deal b room e r p h = ap (λ o. ruled o rank deal b (Enter e)) (late_decide b room e p ∙ h)

-- an enter is allowed in an open book only
pub is_open : (b : Book) (room : ℕ) (e : Order) → Presentable b room e → b.phase ≡ Phase.Open
is_open b room e p = go b.phase p.phase
  where
    go : (f : Phase) → none (phase_after f (Enter e)) ≡ false → f ≡ Phase.Open
    go Phase.New h = absurd (false≢true (sym h))
    go Phase.Open h = refl
    go Phase.Halted h = absurd (false≢true (sym h))
    go Phase.Shut h = absurd (false≢true (sym h))

pub accepted : (rank : Ranking) (deal : Deal) (b : Book) (room : ℕ) (e : Order) → Presentable b room e → first (late_refusals b e) ≡ None → rule rank deal b room (Enter e) ≡ settled Phase.Open (enter rank deal e b)
unfolding rule effect
accepted rank deal b room e p h =
    ap (λ o. ruled o rank deal b (Enter e)) (late_decide b room e p ∙ h)
    ∙ ap (λ f. settled (next_phase f (phase_after f (Enter e))) (enter rank deal e b)) (is_open b room e p)

-- what the refusals have seen to
pub entry_fine : (b : Book) (room : ℕ) (e : Order) → Presentable b room e → first (late_refusals b e) ≡ None → EntryAllowed b e
entry_fine b room e p h =
    let f = none_applies (late_refusals b e) h in
    record { number = p.number; participant = p.participant; quantity = p.quantity; price = p.price; display = p.display; new = leb-false e.number b.last f.0; room = f.1.0 }

pub enough_room : (room : ℕ) → small_report room ≡ false → 400 ≤ room
enough_room room h = ltb-false room 400 h
