-- Sum: what an accepted order traded, was given back and has resting is what it came with. Assumes nothing.
use Rattle.std.specs.Prelude.{◌≡◌, ℕ, ◌+◌, ◌<◌, List}
use Rattle.std.specs.List.{AllByRecursion}
use Rattle.allocation.specs.Dealings.{Deal}
use Rattle.rules.specs.declared.orders.Order.{Order}
use Rattle.rules.specs.declared.phases.Step.{Step}
use Rattle.rules.specs.Books.{Ranking}
use Rattle.rules.specs.Quantities.{resting}
use Rattle.rules.specs.Rules.{new_with}
use Rattle.rules.specs.Runs.{Ask, Event, run, final, Entered, traded_by, given_back_to}

-- at the end of every run of calls from a new book, for each order that it accepted; every moment is the end of a run
abbrev pub AddsUp : Ranking → Deal → Type 0
AddsUp rank deal =
    (lot : ℕ) → 0 < lot → (table : List Step) (asks : List Ask) →
    let past : List Event = run rank deal (new_with lot table) asks in
    AllByRecursion (λ v. (e : Order) → Entered v e → traded_by e.number past + given_back_to e.number past + resting e.number (final (new_with lot table) past) ≡ e.quantity) past
