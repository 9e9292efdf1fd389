-- The refusals of an enter: those that its caller has seen to, and those that are left. Assumes nothing.
use Rattle.std.specs.Prelude.{◌≡◌, ℕ, Bool, false, List, [], ◌∷◌, nat_le}
use Rattle.rules.specs.declared.orders.Order.{Order}
use Rattle.rules.specs.declared.calls.Call.TheVariants.{Enter}
use Rattle.rules.specs.declared.answers.Refusal.{Refusal}
use Rattle.rules.specs.Books.{Book}
use Rattle.rules.specs.Refusals.{bad_number, bad_participant, bad_quantity, bad_price, bad_display, small_report, out_of_phase, no_place, no_opposite}

-- what the order says is in order, the report has room, and the book is open
pub record Presentable (b : Book) (room : ℕ) (e : Order) : Type 0 where
  pub number : bad_number e.number ≡ false
  pub participant : bad_participant e.participant ≡ false
  pub quantity : bad_quantity e.quantity ≡ false
  pub price : bad_price e.kind e.price ≡ false
  pub display : bad_display b.lot e.kind e.quantity e.display ≡ false
  pub report : small_report room ≡ false
  pub phase : out_of_phase b (Enter e) ≡ false

-- the refusals that then are left, by rising number
abbrev pub late_refusals : Book → Order → List (Refusal × Bool)
late_refusals b e = (Refusal.OldNumber, nat_le e.number b.last) ∷ (Refusal.BookFull, no_place b e) ∷ (Refusal.NoOppositePrice, no_opposite b e) ∷ []
