-- The worked cases, round lot 100, by parity. Assumes nothing.
use Rattle.std.specs.Prelude.{◌≡◌, ℕ, Bool, true, false, List, [], ◌∷◌, ◌++◌, map}
use Rattle.allocation.specs.Wheels.{Wheel, wheel_with}
use Rattle.allocation.specs.Dealings.{parity}
use Rattle.rules.specs.declared.orders.Side.{Side}
use Rattle.rules.specs.declared.orders.Side.TheVariants.{Buy, Sell}
use Rattle.rules.specs.declared.orders.Kind.{Kind}
use Rattle.rules.specs.declared.phases.Step.TheVariants as Step
use Rattle.rules.specs.declared.calls.Call.{Call}
use Rattle.rules.specs.declared.calls.Call.TheVariants.{Open, Halt, Resume, Quote, Enter, Cancel}
use Rattle.rules.specs.declared.answers.Row.{Row}
use Rattle.rules.specs.declared.answers.Row.TheVariants.{Trade, GivenBack}
use Rattle.rules.specs.Codes.{Answer, accepted}
use Rattle.rules.specs.Books.{Queue, Level, Ranking, Book, part, queue, level, no_seats, ranked_by}
use Rattle.rules.specs.Rules.{new_book}
use Rattle.rules.specs.Runs.{Ask, Event, run, final}
use Rattle.allocation.specs.Rankings.{buyers_letter, higher_is_better}

-- buyers rank higher prices better
abbrev pub buyers : Ranking
buyers = ranked_by buyers_letter higher_is_better

-- a call with room for 400 rows
abbrev pub ask : Call → Ask
ask c = (400, c)

-- side, kind, number, participant, quantity, display quantity, price
abbrev pub enters : Side → Kind → ℕ → ℕ → ℕ → ℕ → ℕ → Ask
enters s k n p q d v = ask (Enter (record { number = n; participant = p; side = s; kind = k; quantity = q; display = d; price = v }))

-- what a parity book with round lot 100 does
abbrev pub history : List Ask → List Event
history = run buyers parity (new_book 100)

-- the book that it leaves
abbrev pub ends : List Ask → Book
ends cs = final (new_book 100) (history cs)

-- answers and rows
abbrev pub what_came : List Event → List (Answer × List Row)
what_came = map (λ e. (e.did.answer, e.did.rows))

-- all levels
abbrev pub sides : Book → List Level × List Level
sides b = (b.buys, b.sells)

-- ## A session

-- three buys, and two sells that trade with them
abbrev pub session : List Ask
session =
    ask Open
    ∷ enters Buy Kind.Limit 1 5 300 0 100000
    ∷ enters Buy Kind.Limit 2 7 250 0 100000
    ∷ enters Buy Kind.Limit 3 9 200 0 100000
    ∷ enters Sell Kind.Immediate 4 2 430 0 100000
    ∷ enters Sell Kind.Market 5 2 100 0 0
    ∷ []

-- what comes of it
abbrev pub Session : Type 0
Session =
    (what_came (history session)
    ≡ ((accepted 0 0, [])
    ∷ (accepted 0 0, [])
    ∷ (accepted 0 0, [])
    ∷ (accepted 0 0, [])
    ∷ (accepted 430 0, Trade Step.Setter 1 4 100000 300 ∷ Trade Step.Displayed 2 4 100000 100 ∷ Trade Step.Displayed 3 4 100000 30 ∷ [])
    ∷ (accepted 100 0, Trade Step.Displayed 2 5 100000 30 ∷ Trade Step.Displayed 3 5 100000 70 ∷ [])
    ∷ []))
    × (sides (ends session)
    ≡ (level 100000 (queue (part 2 7 120 false ∷ part 3 9 100 false ∷ []) (wheel_with (7 ∷ 9 ∷ []) 30)) (queue [] no_seats) ∷ [], []))

-- ## Seats 5, 7, 9 with used 40, and a cancel

-- three participants with 200 each, none marked after a halt; 5 has taken 40 of its turn
abbrev pub three_seats : List Ask
three_seats =
    ask Open
    ∷ enters Buy Kind.Limit 1 5 200 0 100000
    ∷ enters Buy Kind.Limit 2 7 200 0 100000
    ∷ enters Buy Kind.Limit 3 9 200 0 100000
    ∷ ask Halt
    ∷ ask Resume
    ∷ enters Sell Kind.Immediate 4 2 40 0 100000
    ∷ []

-- the wheels of the buys
abbrev pub wheels : Book → List (ℕ × Wheel × Wheel)
wheels b = map (λ l. (l.price, l.shown.wheel, l.hidden.wheel)) b.buys

-- seats 5, 7, 9 with used 40
abbrev pub ThreeSeats : Type 0
ThreeSeats = wheels (ends three_seats) ≡ ((100000, wheel_with (5 ∷ 7 ∷ 9 ∷ []) 40, no_seats) ∷ [])

-- the first seat is lost: the next starts with used 0
abbrev pub FirstCancels : Type 0
FirstCancels = wheels (ends (three_seats ++ (ask (Cancel 1) ∷ []))) ≡ ((100000, wheel_with (7 ∷ 9 ∷ []) 0, no_seats) ∷ [])

-- another seat is lost: used stays
abbrev pub SecondCancels : Type 0
SecondCancels = wheels (ends (three_seats ++ (ask (Cancel 2) ∷ []))) ≡ ((100000, wheel_with (5 ∷ 9 ∷ []) 40, no_seats) ∷ [])

-- ## Interests 60 and 300, deal 200

-- two buys, none marked after a halt
abbrev pub sixty_and_300 : List Ask
sixty_and_300 =
    ask Open ∷ enters Buy Kind.Limit 1 5 60 0 100000 ∷ enters Buy Kind.Limit 2 7 300 0 100000 ∷ ask Halt ∷ ask Resume ∷ enters Sell Kind.Immediate 3 2 200 0 100000 ∷ []

-- 60 and 140, and the second seat has used 40
abbrev pub Dealt200 : Type 0
Dealt200 =
    sides (ends sixty_and_300) ≡ (level 100000 (queue (part 2 7 160 false ∷ []) (wheel_with (7 ∷ []) 40)) (queue [] no_seats) ∷ [], [])

-- ## Reserve 350 showing 100

-- the quantities of a queue
abbrev pub amounts : Queue → List ℕ
amounts k = map (λ p. p.quantity) k.parts

-- what the buys show and hide
abbrev pub shown_and_hidden : Book → List (List ℕ × List ℕ)
shown_and_hidden b = map (λ l. (amounts l.shown, amounts l.hidden)) b.buys

-- 60 trade: it shows 40 and 100, and hides 150
abbrev pub Arrival60 : Type 0
Arrival60 =
    shown_and_hidden (ends (ask Open ∷ enters Buy Kind.Reserve 1 5 350 100 100000 ∷ enters Sell Kind.Immediate 2 2 60 0 100000 ∷ []))
    ≡ ((40 ∷ 100 ∷ [], 150 ∷ []) ∷ [])

-- the same after a halt, so that only the 100 is marked
abbrev pub only_the_100_marked : List Ask
only_the_100_marked =
    ask Open ∷ enters Buy Kind.Reserve 1 5 350 100 100000 ∷ ask Halt ∷ ask Resume ∷ enters Sell Kind.Immediate 2 2 60 0 100000 ∷ []

-- 70 trade with the 100, the 30 left join the hidden part: it shows 40 and 100, and hides 80
abbrev pub Arrival70 : Type 0
Arrival70 =
    (sides (ends only_the_100_marked)
    ≡ (level 100000 (queue (part 1 5 40 false ∷ part 1 5 100 true ∷ []) (wheel_with (5 ∷ []) 60)) (queue (part 1 5 150 false ∷ []) (wheel_with (5 ∷ []) 0)) ∷ [], []))
    × (shown_and_hidden (ends (only_the_100_marked ++ (enters Sell Kind.Immediate 3 2 70 0 100000 ∷ []))) ≡ ((40 ∷ 100 ∷ [], 80 ∷ []) ∷ []))

-- ## The away quote

-- the marks of the buys
abbrev pub marks : Book → List (ℕ × List Bool)
marks b = map (λ l. (l.price, map (λ p. p.marked) l.shown.parts)) b.buys

-- one buy under an away quote
abbrev pub buys_under : ℕ → ℕ → ℕ → ℕ → List Ask
buys_under bid offer q v = ask Open ∷ ask (Quote bid offer) ∷ enters Buy Kind.Limit 1 5 q 0 v ∷ []

-- a mark needs a price better than the away bid, and the round lot
abbrev pub AwayBid : Type 0
AwayBid =
    (marks (ends (buys_under 100000 0 100 100000)) ≡ ((100000, false ∷ []) ∷ []))
    × (marks (ends (buys_under 100000 0 100 100100)) ≡ ((100100, true ∷ []) ∷ []))
    × (marks (ends (buys_under 100000 0 99 100100)) ≡ ((100100, false ∷ []) ∷ []))

-- a buy at the away offer is given back, one below it rests
abbrev pub AwayOffer : Type 0
AwayOffer =
    (what_came (history (buys_under 0 100100 100 100100)) ≡ ((accepted 0 0, []) ∷ (accepted 0 0, []) ∷ (accepted 0 100, GivenBack 1 100 ∷ []) ∷ []))
    × (shown_and_hidden (ends (buys_under 0 100100 100 100000)) ≡ ((100 ∷ [], []) ∷ []))

-- all of them
pub record Cases : Type 0 where
  pub session : Session
  pub three_seats : ThreeSeats
  pub first_cancels : FirstCancels
  pub second_cancels : SecondCancels
  pub dealt_200 : Dealt200
  pub arrival_60 : Arrival60
  pub arrival_70 : Arrival70
  pub away_bid : AwayBid
  pub away_offer : AwayOffer
