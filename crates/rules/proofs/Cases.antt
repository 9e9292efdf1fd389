-- The worked cases come out by computing. Assumes nothing.
use Rattle.std.proofs.Common.{refl}
use Rattle.rules.specs.Changes.{lose, put, on_price}
use Rattle.rules.specs.Marks.{earns_mark}
use Rattle.rules.specs.TakingOff.{take_off_level, take_off_side, take_off}
use Rattle.rules.specs.Trading.{in_reach, step_shares, trade_price, trade_side}
use Rattle.rules.specs.Reserve.{join_hidden, show_anew, replenish_order, replenish}
use Rattle.rules.specs.Refusals.{refusals}
use Rattle.rules.specs.Entering.{place, trade, not_placed, enter}
use Rattle.rules.specs.Rules.{effect, tidy, rule}
use Rattle.rules.specs.Cases.{Cases}

pub cases_come_out : Cases
unfolding lose put on_price earns_mark take_off_level take_off_side take_off in_reach step_shares trade_price trade_side join_hidden show_anew replenish_order replenish refusals place trade not_placed enter effect tidy rule
cases_come_out =
    record {
      session = (refl, refl);
      three_seats = refl;
      first_cancels = refl;
      second_cancels = refl;
      dealt_200 = refl;
      arrival_60 = refl;
      arrival_70 = (refl, refl);
      away_bid = (refl, refl, refl);
      away_offer = (refl, refl);
    }
