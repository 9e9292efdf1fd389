-- The numbers and letters of the venue's words: each stands here, and nowhere else in the definitions. Assumes nothing.
use Rattle.std.specs.Prelude.{ℕ, Ok, Err, Result}
use Rattle.rules.specs.declared.orders.Side.{Side}
use Rattle.rules.specs.declared.orders.Side.TheVariants.{Buy, Sell}
use Rattle.rules.specs.declared.orders.Kind.{Kind}
use Rattle.rules.specs.declared.orders.Category.{Category}
use Rattle.rules.specs.declared.phases.Step.{Step}
use Rattle.rules.specs.declared.answers.Refusal.{Refusal}
use Rattle.rules.specs.declared.answers.Accepted.{Accepted}
use Rattle.allocation.specs.Rankings.{buyers_letter, sellers_letter}
use Rattle.rules.specs.declared.answers.Row.{Row}
use Rattle.rules.specs.declared.answers.Row.TheVariants.{Trade, GivenBack}
use Rattle.rules.specs.declared.answers.Columns.{Columns}

-- B, S
abbrev pub side_letter : Side → ℕ
side_letter Buy = buyers_letter
side_letter Sell = sellers_letter

-- L, N, R, I, M
abbrev pub kind_letter : Kind → ℕ
kind_letter Kind.Limit = 76
kind_letter Kind.Hidden = 78
kind_letter Kind.Reserve = 82
kind_letter Kind.Immediate = 73
kind_letter Kind.Market = 77

-- displayed 2, not displayed 3
abbrev pub category_number : Category → ℕ
category_number Category.Displayed = 2
category_number Category.Hidden = 3

-- S, D, N
abbrev pub step_letter : Step → ℕ
step_letter Step.Setter = 83
step_letter Step.Displayed = 68
step_letter Step.Hidden = 78

-- 1 to 8 come from what the caller gave, 20 to 25 from the book's state
abbrev pub refusal_number : Refusal → ℕ
refusal_number Refusal.OrderNumber = 1
refusal_number Refusal.Participant = 2
refusal_number Refusal.Quantity = 3
refusal_number Refusal.Price = 4
refusal_number Refusal.DisplayQuantity = 5
refusal_number Refusal.ReportRoom = 6
refusal_number Refusal.AwayPrice = 7
refusal_number Refusal.RoundLot = 8
refusal_number Refusal.Phase = 20
refusal_number Refusal.OldNumber = 21
refusal_number Refusal.BookFull = 22
refusal_number Refusal.NoSuchOrder = 23
refusal_number Refusal.ReductionTooLarge = 24
refusal_number Refusal.NoOppositePrice = 25

-- what a call answers
abbrev pub Answer : Type 0
Answer = Result Accepted Refusal

-- an accepted call
abbrev pub accepted : ℕ → ℕ → Answer
accepted traded given_back = Ok (record { traded = traded; given_back = given_back })

-- a refused call
abbrev pub refused : Refusal → Answer
refused r = Err r

-- an accepted call answers 0
abbrev pub answer_number : Answer → ℕ
answer_number (Ok a) = 0
answer_number (Err r) = refusal_number r

-- a refused call trades nothing and gives nothing back
abbrev pub shares_traded : Answer → ℕ
shares_traded (Ok a) = a.traded
shares_traded (Err r) = 0

-- shares given back
abbrev pub shares_given_back : Answer → ℕ
shares_given_back (Ok a) = a.given_back
shares_given_back (Err r) = 0

-- ## Limits

-- order numbers go up to this
abbrev pub highest_number : ℕ
highest_number = 999999

-- participants are numbered from 1 to this
abbrev pub most_participants : ℕ
most_participants = 24

-- an order has at most so many shares
abbrev pub most_shares : ℕ
most_shares = 500000

-- prices go up to this, away prices too
abbrev pub highest_price : ℕ
highest_price = 99999999

-- a round lot has at most so many shares
abbrev pub largest_lot : ℕ
largest_lot = 1000

-- a book holds at most so many resting orders
abbrev pub most_orders : ℕ
most_orders = 128

-- a report has at least so many rows
abbrev pub report_rows : ℕ
report_rows = 400

-- ## Rows

-- T and its step for a trade; G and - for what is given back, with arriving order and price 0
abbrev pub row_columns : Row → Columns
row_columns (Trade s r a v q) = record { letter = 84; step = step_letter s; order = r; arriving = a; price = v; quantity = q }
row_columns (GivenBack n q) = record { letter = 71; step = 45; order = n; arriving = 0; price = 0; quantity = q }
