-- When a call that gives back may be made at all. Assumes nothing.
use Rattle.std.specs.Prelude.{◌≡◌, ℕ, false}
use Rattle.rules.specs.declared.calls.Call.{Call}
use Rattle.rules.specs.Books.{Book}
use Rattle.rules.specs.Refusals.{small_report, out_of_phase}

-- the report has room, and the book's phase allows the call
pub record Permitted (b : Book) (rows : ℕ) (c : Call) : Type 0 where
  pub room : small_report rows ≡ false
  pub phase : out_of_phase b c ≡ false
