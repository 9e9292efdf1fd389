-- Lead: on a wheel that is dealt by parity, nobody gets more than a round lot ahead of one who keeps its seat. Assumes nothing.
use Rattle.std.specs.Prelude.{◌≡◌, ℕ, ◌+◌, ◌<◌, ◌≤◌, Bool, true, false, cond, not, ◌&&◌, List, [], ◌∷◌, ◌==◌}
use Rattle.std.specs.List.{AllByRecursion}
use Rattle.allocation.specs.Dealings.{Deal, interest}
use Rattle.rules.specs.declared.orders.Side.{Side}
use Rattle.rules.specs.declared.orders.Category.{Category}
use Rattle.rules.specs.declared.orders.Order.{Order}
use Rattle.rules.specs.declared.orders.Part.{Part}
use Rattle.rules.specs.declared.phases.Step.{Step}
use Rattle.rules.specs.declared.calls.Call.{Call}
use Rattle.rules.specs.declared.calls.Call.TheVariants.{Open, Halt, Resume, Close, Quote, Enter, Cancel, Reduce}
use Rattle.rules.specs.declared.answers.Row.{Row}
use Rattle.rules.specs.declared.answers.Row.TheVariants.{Trade, GivenBack}
use Rattle.rules.specs.Codes.{answer_number}
use Rattle.rules.specs.Lists.{sum_of, any}
use Rattle.rules.specs.Books.{Queue, Level, nothing_at, Ranking, Book, same_side, other, side}
use Rattle.rules.specs.Quantities.{claims}
use Rattle.rules.specs.Rules.{new_with}
use Rattle.rules.specs.Runs.{Ask, Event, run, final}
use Rattle.rules.specs.Tables.{GoodTable}

-- where a wheel stands
pub record Spot : Type 0 where
  pub side : Side
  pub price : ℕ
  pub category : Category

-- the level of a price
abbrev pub level_at : ℕ → List Level → Level
level_at v [] = nothing_at v
level_at v (l ∷ ls) = cond (l.price == v) l (level_at v ls)

-- the queue of a category
abbrev pub queue_in : Category → Level → Queue
queue_in Category.Displayed l = l.shown
queue_in Category.Hidden l = l.hidden

-- the queue whose wheel it is
abbrev pub queue_at : Spot → Book → Queue
queue_at w b = queue_in w.category (level_at w.price (side w.side b))

-- ## What a participant's resting orders traded on a wheel

-- is the order n one of q's?
abbrev pub owns : ℕ → List Order → ℕ → Bool
owns q es n = any (λ e. (e.number == n) && q == e.participant) es

-- the step that deals on the wheel of a category
abbrev pub deals_on : Category → Step → Bool
deals_on Category.Displayed Step.Setter = false
deals_on Category.Displayed Step.Displayed = true
deals_on Category.Displayed Step.Hidden = false
deals_on Category.Hidden Step.Setter = false
deals_on Category.Hidden Step.Displayed = false
deals_on Category.Hidden Step.Hidden = true

-- the steps that trade with its parts
abbrev pub trades_on : Category → Step → Bool
trades_on Category.Displayed Step.Setter = true
trades_on Category.Displayed Step.Displayed = true
trades_on Category.Displayed Step.Hidden = false
trades_on Category.Hidden Step.Setter = false
trades_on Category.Hidden Step.Displayed = false
trades_on Category.Hidden Step.Hidden = true

-- what a row trades of q's resting orders at the price v, in a step that counts
abbrev pub gained : (Step → Bool) → ℕ → List Order → ℕ → Row → ℕ
gained counts v es q (Trade s r a w x) = cond (counts s && (w == v && owns q es r)) x 0
gained counts v es q (GivenBack n x) = 0

-- an enter trades with the other side
abbrev pub faces : Side → Call → Bool
faces s Open = false
faces s Halt = false
faces s Resume = false
faces s Close = false
faces s (Quote x y) = false
faces s (Enter e) = same_side (other e.side) s
faces s (Cancel n) = false
faces s (Reduce n m) = false

-- what q's resting orders traded there in a call
abbrev pub gained_at : (Category → Step → Bool) → Spot → ℕ → Event → ℕ
gained_at counts w q v = cond (faces w.side v.ask.1) (sum_of (gained (counts w.category) w.price v.before.orders q) v.did.rows) 0

-- in the rows of the dealing steps, which count for the lead
abbrev pub dealt_to : Spot → ℕ → Event → ℕ
dealt_to = gained_at deals_on

-- in all rows
abbrev pub traded_there : Spot → ℕ → Event → ℕ
traded_there = gained_at trades_on

-- ## Keeping a seat

-- is n the order that the call enters?
abbrev pub arrives : Call → ℕ → Bool
arrives Open n = false
arrives Halt n = false
arrives Resume n = false
arrives Close n = false
arrives (Quote x y) n = false
arrives (Enter e) n = e.number == n
arrives (Cancel x) n = false
arrives (Reduce x y) n = false

-- p's interest without the order that arrives
abbrev pub older : Call → ℕ → List Part → ℕ
older c p = sum_of (λ x. cond (not (arrives c x.order) && p == x.participant) x.quantity 0)

-- p's interest stays above zero, also inside the call: before it, after its trades, and, if it is accepted, before the arriving order is placed
pub record Keeps (w : Spot) (p : ℕ) (v : Event) : Type 0 where
  pub before : 0 < interest p (claims (queue_at w v.before).parts)
  pub traded : traded_there w p v < interest p (claims (queue_at w v.before).parts)
  pub after : answer_number v.did.answer ≡ 0 → 0 < older v.ask.1 p (queue_at w v.did.book).parts

-- From any moment of a run to any later one: if p keeps its seat over each call between them,
-- then what q's resting orders traded on that wheel exceeds what p's did by no more than the round lot.
abbrev pub NobodyLeadsByMoreThanALot : Ranking → Deal → Type 0
NobodyLeadsByMoreThanALot rank deal =
    (lot : ℕ) → 0 < lot → (table : List Step) → GoodTable table → (earlier later : List Ask) (w : Spot) (p q : ℕ) →
    let between : List Event = run rank deal (final (new_with lot table) (run rank deal (new_with lot table) earlier)) later in
    AllByRecursion (Keeps w p) between → sum_of (dealt_to w q) between ≤ sum_of (dealt_to w p) between + lot
