-- What is left of an order at rest, by the levels of its side alone. Assumes nothing.
use Rattle.std.specs.Prelude.{ℕ, ◌+◌, ◌-◌, ◌<◌, ◌≤◌, length, min, Bool, cond, Option, List, ◌==◌}
use Rattle.rules.specs.declared.orders.Kind.{Kind}
use Rattle.rules.specs.declared.orders.Order.{Order}
use Rattle.rules.specs.Books.{Level, Ranking, part}
use Rattle.rules.specs.Changes.{on_price, put_shown, put_hidden}
use Rattle.rules.specs.Entering.{hidden_part}
use Rattle.levels.specs.Heads.{count}
use Rattle.resting.specs.Earned.{earned}

-- there is room on a side for what is left of an order: a participant's number, no more shares than an order has,
-- two parts and a price more
pub record Fits (e : Order) (n : ℕ) (ls : List Level) : Type 0 where
  pub known : (0 < e.participant) × (e.participant < 25)
  pub small : n ≤ 500000
  pub parts : count ls + 2 ≤ 384
  pub prices : length ls < 385

-- a reserve order's parts at its price, with the mark of the shown one
abbrev pub both_parts : Order → ℕ → Bool → Level → Level
both_parts e n mark l =
    let d : ℕ = min e.display n in
    let s : Level = put_shown (part e.number e.participant d mark) l in
    cond (n - d == 0) s (put_hidden (hidden_part e (n - d)) s)

-- the side with n shares of a reserve order; the round lot and the side's away price, if there is one, decide the mark
abbrev pub reserve_placed : Ranking → ℕ → Option ℕ → Order → ℕ → List Level → List Level
reserve_placed rank lot away e n ls = on_price rank e.side e.price (both_parts e n (earned rank e.side e.price (min e.display n) lot away ls)) ls

-- the side with n shares of an order, by its kind
abbrev pub placed : Ranking → Kind → ℕ → Option ℕ → Order → ℕ → List Level → List Level
placed rank Kind.Limit lot away e n ls = on_price rank e.side e.price (put_shown (part e.number e.participant n (earned rank e.side e.price n lot away ls))) ls
placed rank Kind.Hidden lot away e n ls = on_price rank e.side e.price (put_hidden (hidden_part e n)) ls
placed rank Kind.Reserve lot away e n ls = reserve_placed rank lot away e n ls
placed rank Kind.Immediate lot away e n ls = ls
placed rank Kind.Market lot away e n ls = ls
