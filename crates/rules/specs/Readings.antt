-- Small sessions, each of which shows a rule that is easily read otherwise. Round lot 100, by parity. Assumes nothing.
use Rattle.std.specs.Prelude.{◌≡◌, true, false, List, [], ◌∷◌, map, Ok, Err}
use Rattle.allocation.specs.Wheels.{wheel_with}
use Rattle.rules.specs.declared.orders.Side.TheVariants.{Buy, Sell}
use Rattle.rules.specs.declared.orders.Kind.TheVariants as Kind
use Rattle.rules.specs.declared.phases.Step.TheVariants as Step
use Rattle.rules.specs.declared.calls.Call.TheVariants.{Open, Halt, Resume, Close, Quote, Reduce}
use Rattle.rules.specs.declared.answers.Refusal.{Refusal}
use Rattle.rules.specs.declared.answers.Row.{Row}
use Rattle.rules.specs.declared.answers.Row.TheVariants.{Trade, GivenBack}
use Rattle.rules.specs.Codes.{Answer, accepted, refused}
use Rattle.rules.specs.Rules.{new_book, make}
use Rattle.rules.specs.Runs.{Ask, Event}
use Rattle.rules.specs.Cases.{ask, enters, history, ends, wheels, marks, shown_and_hidden}

-- the answer and the rows of the last call
abbrev pub last_of : List Event → Answer × List Row
last_of [] = (accepted 0 0, [])
last_of (e ∷ []) = (e.did.answer, e.did.rows)
last_of (e ∷ (f ∷ es)) = last_of (f ∷ es)

-- what the last of some calls comes to
abbrev pub comes_to : List Ask → Answer × List Row
comes_to cs = last_of (history cs)

-- what each session comes to
pub record Readings : Type 0 where
  -- The best price counts displayed shares at one price alone. 60 and 60 at two prices make none, so a market order is refused.
  pub odd_lots_make_no_best_price :
      comes_to (ask Open ∷ enters Buy Kind.Limit 1 5 60 0 100000 ∷ enters Buy Kind.Limit 2 7 60 0 99900 ∷ enters Sell Kind.Market 3 9 100 0 0 ∷ [])
      ≡ (refused Refusal.NoOppositePrice, [])
  -- An away price alone lets a market order in; it then trades with odd lots and hidden shares too.
  pub away_price_lets_market_orders_in :
      comes_to (ask Open ∷ ask (Quote 99900 0) ∷ enters Buy Kind.Limit 1 5 60 0 100000 ∷ enters Buy Kind.Hidden 2 7 70 0 99900 ∷ enters Sell Kind.Market 3 9 200 0 0 ∷ [])
      ≡ (accepted 130 70, Trade Step.Displayed 1 3 100000 60 ∷ Trade Step.Hidden 2 3 99900 70 ∷ GivenBack 3 70 ∷ [])
  -- A price equal to the away price is in reach, a worse one is not, though the limit would allow it.
  pub away_price_bounds_reach :
      comes_to (ask Open ∷ enters Buy Kind.Limit 1 5 100 0 100000 ∷ enters Buy Kind.Limit 2 7 100 0 99900 ∷ ask (Quote 100000 0) ∷ enters Sell Kind.Immediate 3 9 300 0 99900 ∷ [])
      ≡ (accepted 100 200, Trade Step.Setter 1 3 100000 100 ∷ GivenBack 3 200 ∷ [])
  -- The setter step is taken only where the round lot is displayed when the arrival comes to the price: a marked part that is all that is left of it trades in the displayed step.
  pub no_setter_step_below_the_lot :
      comes_to (ask Open ∷ enters Buy Kind.Limit 1 5 150 0 100000 ∷ enters Sell Kind.Immediate 2 9 100 0 100000 ∷ enters Sell Kind.Immediate 3 9 20 0 100000 ∷ [])
      ≡ (accepted 20 0, Trade Step.Displayed 1 3 100000 20 ∷ [])
  -- Trades keep the mark, also below the round lot; a halt loses it, and a resume gives none back.
  pub marks_outlive_trades :
      marks (ends (ask Open ∷ enters Buy Kind.Limit 1 5 150 0 100000 ∷ enters Sell Kind.Immediate 2 9 100 0 100000 ∷ [])) ≡ ((100000, true ∷ []) ∷ [])
  pub marks_end_with_a_halt :
      marks (ends (ask Open ∷ enters Buy Kind.Limit 1 5 150 0 100000 ∷ ask Halt ∷ ask Resume ∷ [])) ≡ ((100000, false ∷ []) ∷ [])
  -- A mark needs a strictly better price than the best one; at a price without the round lot there is none to beat.
  pub first_to_the_lot_sets :
      marks (ends (ask Open ∷ enters Buy Kind.Limit 1 5 60 0 100000 ∷ enters Buy Kind.Limit 2 7 100 0 100000 ∷ enters Buy Kind.Limit 3 9 100 0 100000 ∷ []))
      ≡ ((100000, false ∷ (true ∷ (false ∷ []))) ∷ [])
  -- The setter step turns no wheel: 5 and 7 still have their turns, and 5, whose marked part went first, is not set back.
  pub setter_step_turns_no_wheel :
      wheels (ends (ask Open ∷ enters Buy Kind.Limit 1 5 300 0 100000 ∷ enters Buy Kind.Limit 2 7 300 0 100000 ∷ enters Sell Kind.Immediate 3 9 100 0 100000 ∷ []))
      ≡ ((100000, wheel_with (5 ∷ 7 ∷ []) 0, wheel_with [] 0) ∷ [])
  -- An interest that is traded to zero and shown anew in the same enter has lost its seat, and takes the last one.
  pub shown_anew_sits_last :
      wheels (ends (ask Open ∷ enters Buy Kind.Reserve 1 5 300 100 100000 ∷ enters Buy Kind.Limit 2 7 200 0 100000 ∷ enters Sell Kind.Immediate 3 9 100 0 100000 ∷ []))
      ≡ ((100000, wheel_with (7 ∷ 5 ∷ []) 0, wheel_with (5 ∷ []) 0) ∷ [])
  -- A reduction takes the hidden part, then the later shown part, then the earlier.
  pub reductions_take_hidden_first :
      shown_and_hidden (ends (ask Open ∷ enters Buy Kind.Reserve 1 5 350 100 100000 ∷ enters Sell Kind.Immediate 2 9 60 0 100000 ∷ ask (Reduce 1 200) ∷ []))
      ≡ ((40 ∷ 50 ∷ [], []) ∷ [])
  -- A limit that reaches the opposite away price is given back, hidden and reserve orders too.
  pub hidden_orders_do_not_lock_the_away_price :
      comes_to (ask Open ∷ ask (Quote 0 100000) ∷ enters Buy Kind.Hidden 1 5 100 0 100000 ∷ []) ≡ (accepted 0 100, GivenBack 1 100 ∷ [])
  -- A participant may trade with itself.
  pub self_trades_happen :
      comes_to (ask Open ∷ enters Buy Kind.Limit 1 5 100 0 100000 ∷ enters Sell Kind.Limit 2 5 100 0 100000 ∷ []) ≡ (accepted 100 0, Trade Step.Setter 1 2 100000 100 ∷ [])
  -- A refused enter does not spend its number, an accepted one does, even where nothing rests.
  pub numbers_are_spent_by_acceptance :
      map (λ e. e.did.answer) (history (ask Open ∷ enters Buy Kind.Limit 7 0 100 0 100000 ∷ enters Buy Kind.Immediate 7 5 100 0 100000 ∷ enters Buy Kind.Limit 7 5 100 0 100000 ∷ []))
      ≡ (accepted 0 0 ∷ (refused Refusal.Participant ∷ (accepted 0 100 ∷ (refused Refusal.OldNumber ∷ []))))
  -- A reduction of all that rests is refused: that is a cancel.
  pub reductions_leave_something :
      comes_to (ask Open ∷ enters Buy Kind.Limit 1 5 100 0 100000 ∷ ask (Reduce 1 100) ∷ []) ≡ (refused Refusal.ReductionTooLarge, [])
  -- Prices from 10,000 up are multiples of 100; below, any will do.
  pub price_grid :
      map (λ e. e.did.answer) (history (ask Open ∷ enters Buy Kind.Limit 1 5 100 0 9999 ∷ enters Buy Kind.Limit 2 5 100 0 10000 ∷ enters Buy Kind.Limit 3 5 100 0 10050 ∷ []))
      ≡ (accepted 0 0 ∷ (accepted 0 0 ∷ (accepted 0 0 ∷ (refused Refusal.Price ∷ []))))
  -- The first refusal by number is answered: a bad price comes before a shut book.
  pub first_refusal_counts :
      comes_to (ask Open ∷ ask Close ∷ enters Buy Kind.Limit 1 5 100 0 10050 ∷ []) ≡ (refused Refusal.Price, [])
  -- A round lot is 1 to 1,000.
  pub round_lots : (make 0 ≡ Err Refusal.RoundLot) × (make 1000 ≡ Ok (new_book 1000)) × (make 1001 ≡ Err Refusal.RoundLot)
