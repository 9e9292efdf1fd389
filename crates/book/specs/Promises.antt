-- What is promised of a book from the moment it is made: of every run of calls from it, at every moment of the run.
-- Assumes nothing.
use Rattle.std.specs.Prelude.{◌≡◌, ℕ, ◌+◌, ◌≤◌, List, Ok, Err, Result}
use Rattle.std.specs.List.{AllByRecursion}
use Rattle.allocation.specs.Dealings.{Deal, parity}
use Rattle.rules.specs.declared.orders.Order.{Order}
use Rattle.rules.specs.declared.answers.Refusal.{Refusal}
use Rattle.rules.specs.Lists.{sum_of}
use Rattle.rules.specs.Books.{Ranking, Book}
use Rattle.rules.specs.Quantities.{resting}
use Rattle.rules.specs.Runs.{Ask, Event, run, final, Entered, traded_by, given_back_to}
use Rattle.rules.specs.OrderLaw.{InOrder}
use Rattle.rules.specs.LeadLaw.{Spot, Keeps, dealt_to}

pub record Promises (rank : Ranking) (deal : Deal) (b : Book) : Type 0 where
  -- Sum: what an accepted order traded, was given back and has resting adds up to what it was entered with.
  pub shares_add_up :
      (asks : List Ask) → let past : List Event = run rank deal b asks in
      AllByRecursion (λ v. (e : Order) → Entered v e → traded_by e.number past + given_back_to e.number past + resting e.number (final b past) ≡ e.quantity) past
  -- Order: each accepted order trades with the parts in its reach, and with a worse price or a later step only when all that is better is gone.
  pub better_first : (asks : List Ask) → AllByRecursion (λ v. (e : Order) → Entered v e → InOrder rank v.before e v.did) (run rank deal b asks)
  -- Lead, where the dealing means parity: from any moment to any later one, on any wheel, while p keeps its seat,
  -- what q's resting orders are dealt there exceeds what p's are by no more than one round lot.
  pub nobody_leads_by_more_than_a_lot :
      deal ≡ parity → (earlier later : List Ask) (w : Spot) (p q : ℕ) → let between : List Event = run rank deal (final b (run rank deal b earlier)) later in
      AllByRecursion (Keeps w p) between → sum_of (dealt_to w q) between ≤ sum_of (dealt_to w p) between + b.lot

-- of what the making of a book gave; a refusal promises nothing
abbrev pub Promised : Ranking → Deal → Result Book Refusal → Type 0
Promised rank deal (Ok b) = Promises rank deal b
Promised rank deal (Err r) = Unit {0}
