-- The small sessions come out by computing. Assumes nothing.
use Rattle.std.proofs.Common.{refl}
use Rattle.rules.specs.Changes.{lose, put, on_price}
use Rattle.rules.specs.Marks.{earns_mark}
use Rattle.rules.specs.TakingOff.{take_off_level, take_off_side, take_off}
use Rattle.rules.specs.Trading.{in_reach, step_shares, trade_price, trade_side}
use Rattle.rules.specs.Reserve.{join_hidden, show_anew, replenish_order, replenish}
use Rattle.rules.specs.Refusals.{refusals}
use Rattle.rules.specs.Entering.{place, trade, not_placed, enter}
use Rattle.rules.specs.Rules.{effect, tidy, rule}
use Rattle.rules.specs.Readings.{Readings}

pub readings_come_out : Readings
unfolding lose put on_price earns_mark take_off_level take_off_side take_off in_reach step_shares trade_price trade_side join_hidden show_anew replenish_order replenish refusals place trade not_placed enter effect tidy rule
readings_come_out =
    record {
      odd_lots_make_no_best_price = refl;
      away_price_lets_market_orders_in = refl;
      away_price_bounds_reach = refl;
      no_setter_step_below_the_lot = refl;
      marks_outlive_trades = refl;
      marks_end_with_a_halt = refl;
      first_to_the_lot_sets = refl;
      setter_step_turns_no_wheel = refl;
      shown_anew_sits_last = refl;
      reductions_take_hidden_first = refl;
      hidden_orders_do_not_lock_the_away_price = refl;
      self_trades_happen = refl;
      numbers_are_spent_by_acceptance = refl;
      reductions_leave_something = refl;
      price_grid = refl;
      first_refusal_counts = refl;
      round_lots = (refl, refl, refl);
    }
