-- The refusals of a call for what the caller gave: those that come before the book's state is looked at. Assumes nothing.
use Rattle.std.specs.Prelude.{ℕ, ◌%◌, Bool, not, ◌&&◌, ◌||◌, List, [], ◌∷◌, ◌==◌, nat_le}
use Rattle.rules.specs.Codes.{highest_price}
use Rattle.rules.specs.Refusals.{within, bad_number, bad_participant, bad_quantity, bad_price, bad_display, small_report, bad_away}
use Rattle.rules.specs.declared.orders.Order.{Order}
use Rattle.rules.specs.declared.calls.Call.{Call}
use Rattle.rules.specs.declared.calls.Call.TheVariants.{Open, Halt, Resume, Close, Quote, Enter, Cancel, Reduce}
use Rattle.rules.specs.declared.answers.Refusal.{Refusal}

-- a limit is 1 to 99,999,999, and from 10,000 up a multiple of 100
abbrev pub bad_limit : ℕ → Bool
bad_limit v = not (within 1 highest_price v) || (nat_le 10000 v && not (v % 100 == 0))

-- of an order
abbrev pub entry_inputs : ℕ → ℕ → Order → List (Refusal × Bool)
entry_inputs lot room e =
    (Refusal.OrderNumber, bad_number e.number)
    ∷ (Refusal.Participant, bad_participant e.participant)
    ∷ (Refusal.Quantity, bad_quantity e.quantity)
    ∷ (Refusal.Price, bad_price e.kind e.price)
    ∷ (Refusal.DisplayQuantity, bad_display lot e.kind e.quantity e.display)
    ∷ (Refusal.ReportRoom, small_report room)
    ∷ []

-- of every call
abbrev pub inputs : ℕ → ℕ → Call → List (Refusal × Bool)
inputs lot room Open = []
inputs lot room Halt = []
inputs lot room Resume = []
inputs lot room Close = (Refusal.ReportRoom, small_report room) ∷ []
inputs lot room (Quote bid offer) = (Refusal.AwayPrice, bad_away bid || bad_away offer) ∷ []
inputs lot room (Enter e) = entry_inputs lot room e
inputs lot room (Cancel n) = (Refusal.OrderNumber, bad_number n) ∷ (Refusal.ReportRoom, small_report room) ∷ []
inputs lot room (Reduce n m) = (Refusal.OrderNumber, bad_number n) ∷ (Refusal.Quantity, bad_quantity m) ∷ (Refusal.ReportRoom, small_report room) ∷ []
