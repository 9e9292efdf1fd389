-- The laws together. Assumes nothing.
use Rattle.std.proofs.Common.{sym, refl, subst, arith}
use Rattle.allocation.specs.Rankings.{TotalOrder}
use Rattle.allocation.specs.Dealings.{Deal, Lawful}
use Rattle.rules.specs.Books.{Ranking}
use Rattle.rules.specs.LeadLaw.{NobodyLeadsByMoreThanALot}
use Rattle.rules.specs.Laws.{Laws}
use Rattle.rules.proofs.Kept.{stays_sound}
use Rattle.rules.proofs.Smallness.{sound_small}
use Rattle.rules.proofs.Reporting.{reports_well}
use Rattle.rules.proofs.Sum.{adds_up}
use Rattle.rules.proofs.Ordering.{trades_in_order}
use Rattle.rules.proofs.Lead.{nobody_leads}

pub laws : (rank : Ranking) → TotalOrder rank.good → (deal : Deal) → Lawful deal → Laws rank deal
laws rank O deal D =
    record {
      sound = stays_sound rank O deal D;
      small = sound_small rank O;
      reports = reports_well rank O deal D;
      sum = adds_up rank deal D;
      order = trades_in_order rank O deal D;
      lead = λ e. subst (λ d. NobodyLeadsByMoreThanALot rank d) (sym e) (nobody_leads rank O);
      table = record { one_displayed = refl; one_hidden = refl; one_setter = omega arith; setter_first = λ _. omega arith };
    }
