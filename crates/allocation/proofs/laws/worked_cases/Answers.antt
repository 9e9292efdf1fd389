use Rattle.std.proofs.Common.{refl}
use Rattle.allocation.proofs.laws.worked_cases.Goals as goal

pub returns : goal.returns
returns c = record {
  prices = record { buyers = (refl, refl); sellers = (refl, refl); equal = (refl, refl) };
  seats = record { first = refl; second = refl; third = refl; nobody = refl; every = refl; again = refl };
  parity = record { sixty = refl; turn_kept = refl; carried = refl; everything = refl };
  time = record { in_turn = refl; first_leaves = refl };
}
