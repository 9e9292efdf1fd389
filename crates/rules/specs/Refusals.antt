-- When a call is refused. Assumes nothing.
use Rattle.std.specs.Prelude.{ℕ, ◌%◌, Bool, true, false, cond, not, ◌&&◌, ◌||◌, List, [], ◌∷◌, length, Ok, Err, Result, Some, None, Option, ◌==◌, nat_le, nat_lt}
use Rattle.rules.specs.declared.orders.Kind.{Kind}
use Rattle.rules.specs.declared.orders.Order.{Order}
use Rattle.rules.specs.declared.phases.Phase.{Phase}
use Rattle.rules.specs.declared.calls.Call.{Call}
use Rattle.rules.specs.declared.calls.Call.TheVariants.{Open, Halt, Resume, Close, Quote, Enter, Cancel, Reduce}
use Rattle.rules.specs.declared.answers.Refusal.{Refusal}
use Rattle.rules.specs.Books.{Book, side, other, away}
use Rattle.rules.specs.Quantities.{resting, best}
use Rattle.rules.specs.Trading.{has_limit}
use Rattle.rules.specs.Reserve.{is_reserve}
use Rattle.rules.specs.Codes.{highest_number, most_participants, most_shares, highest_price, report_rows, largest_lot, most_orders}

-- the first refusal whose test applies
abbrev pub first : List (Refusal × Bool) → Option Refusal
first [] = None
first (x ∷ xs) = cond x.1 (Some x.0) (first xs)

-- passed, unless a refusal applies
abbrev pub passed : Option Refusal → Result Unit Refusal
passed None = Ok tt
passed (Some r) = Err r

-- low to high
abbrev pub within : ℕ → ℕ → ℕ → Bool
within low high n = nat_le low n && nat_le n high

-- whether there is none
abbrev pub none : {A : Type 0} → Option A → Bool
none None = true
none (Some x) = false

-- ## What the caller gave

-- an order number is 1 to 999,999
abbrev pub bad_number : ℕ → Bool
bad_number n = not (within 1 highest_number n)

-- a participant is 1 to 24
abbrev pub bad_participant : ℕ → Bool
bad_participant p = not (within 1 most_participants p)

-- a quantity is 1 to 500,000
abbrev pub bad_quantity : ℕ → Bool
bad_quantity n = not (within 1 most_shares n)

-- 0 for a market order; for any other 1 to 99,999,999, and from 10,000 up a multiple of 100
abbrev pub bad_price : Kind → ℕ → Bool
bad_price k v = cond (has_limit k) (not (within 1 highest_price v) || (nat_le 10000 v && not (v % 100 == 0))) (not (v == 0))

-- a positive multiple of the round lot up to the quantity for a reserve order; 0 for any other
abbrev pub bad_display : ℕ → Kind → ℕ → ℕ → Bool
bad_display lot k n d = cond (is_reserve k) (not (within 1 n d && d % lot == 0)) (not (d == 0))

-- a report has room for 400 rows at least
abbrev pub small_report : ℕ → Bool
small_report room = nat_lt room report_rows

-- an away price is at most 99,999,999
abbrev pub bad_away : ℕ → Bool
bad_away v = nat_lt highest_price v

-- a round lot is 1 to 1,000
abbrev pub bad_lot : ℕ → Bool
bad_lot lot = not (within 1 largest_lot lot)

-- ## The state of the book

-- The phase and the call together decide. Open makes New into Open, halt Open into Halted, resume Halted into Open, close Open or Halted into Shut.
-- Enter needs Open; cancel and reduce need Open or Halted; quote needs any but Shut.
abbrev pub phase_after : Phase → Call → Option Phase
phase_after Phase.New Open = Some Phase.Open
phase_after Phase.Open Open = None
phase_after Phase.Halted Open = None
phase_after Phase.Shut Open = None
phase_after Phase.New Halt = None
phase_after Phase.Open Halt = Some Phase.Halted
phase_after Phase.Halted Halt = None
phase_after Phase.Shut Halt = None
phase_after Phase.New Resume = None
phase_after Phase.Open Resume = None
phase_after Phase.Halted Resume = Some Phase.Open
phase_after Phase.Shut Resume = None
phase_after Phase.New Close = None
phase_after Phase.Open Close = Some Phase.Shut
phase_after Phase.Halted Close = Some Phase.Shut
phase_after Phase.Shut Close = None
phase_after Phase.New (Quote bid offer) = Some Phase.New
phase_after Phase.Open (Quote bid offer) = Some Phase.Open
phase_after Phase.Halted (Quote bid offer) = Some Phase.Halted
phase_after Phase.Shut (Quote bid offer) = None
phase_after Phase.New (Enter e) = None
phase_after Phase.Open (Enter e) = Some Phase.Open
phase_after Phase.Halted (Enter e) = None
phase_after Phase.Shut (Enter e) = None
phase_after Phase.New (Cancel n) = None
phase_after Phase.Open (Cancel n) = Some Phase.Open
phase_after Phase.Halted (Cancel n) = Some Phase.Halted
phase_after Phase.Shut (Cancel n) = None
phase_after Phase.New (Reduce n m) = None
phase_after Phase.Open (Reduce n m) = Some Phase.Open
phase_after Phase.Halted (Reduce n m) = Some Phase.Halted
phase_after Phase.Shut (Reduce n m) = None

-- the phase does not allow the call
abbrev pub out_of_phase : Book → Call → Bool
out_of_phase b c = none (phase_after b.phase c)

-- the phase afterwards
abbrev pub next_phase : Phase → Option Phase → Phase
next_phase p None = p
next_phase p (Some q) = q

-- a limit, hidden or reserve order can rest
abbrev pub rests : Kind → Bool
rests Kind.Limit = true
rests Kind.Hidden = true
rests Kind.Reserve = true
rests Kind.Immediate = false
rests Kind.Market = false

-- 128 orders rest, and one more would
abbrev pub no_place : Book → Order → Bool
no_place b e = nat_le most_orders (length b.orders) && rests e.kind

-- a market order meets neither a best price nor an away price
abbrev pub no_opposite : Book → Order → Bool
no_opposite b e = not (has_limit e.kind) && none (best b.lot (side (other e.side) b)) && away (other e.side) b == 0

-- the refusals of a call with a report of `room` rows, by rising number
unfoldable pub refusals : Book → ℕ → Call → List (Refusal × Bool)
refusals b room Open = (Refusal.Phase, out_of_phase b Open) ∷ []
refusals b room Halt = (Refusal.Phase, out_of_phase b Halt) ∷ []
refusals b room Resume = (Refusal.Phase, out_of_phase b Resume) ∷ []
refusals b room Close = (Refusal.ReportRoom, small_report room) ∷ (Refusal.Phase, out_of_phase b Close) ∷ []
refusals b room (Quote bid offer) = (Refusal.AwayPrice, bad_away bid || bad_away offer) ∷ (Refusal.Phase, out_of_phase b (Quote bid offer)) ∷ []
refusals b room (Enter e) =
    (Refusal.OrderNumber, bad_number e.number)
    ∷ (Refusal.Participant, bad_participant e.participant)
    ∷ (Refusal.Quantity, bad_quantity e.quantity)
    ∷ (Refusal.Price, bad_price e.kind e.price)
    ∷ (Refusal.DisplayQuantity, bad_display b.lot e.kind e.quantity e.display)
    ∷ (Refusal.ReportRoom, small_report room)
    ∷ (Refusal.Phase, out_of_phase b (Enter e))
    ∷ (Refusal.OldNumber, nat_le e.number b.last)
    ∷ (Refusal.BookFull, no_place b e)
    ∷ (Refusal.NoOppositePrice, no_opposite b e)
    ∷ []
refusals b room (Cancel n) =
    (Refusal.OrderNumber, bad_number n)
    ∷ (Refusal.ReportRoom, small_report room)
    ∷ (Refusal.Phase, out_of_phase b (Cancel n))
    ∷ (Refusal.NoSuchOrder, (resting n b == 0))
    ∷ []
refusals b room (Reduce n m) =
    (Refusal.OrderNumber, bad_number n)
    ∷ (Refusal.Quantity, bad_quantity m)
    ∷ (Refusal.ReportRoom, small_report room)
    ∷ (Refusal.Phase, out_of_phase b (Reduce n m))
    ∷ (Refusal.NoSuchOrder, (resting n b == 0))
    ∷ (Refusal.ReductionTooLarge, nat_le (resting n b) m)
    ∷ []
