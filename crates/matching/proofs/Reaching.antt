-- Which prices an arriving order reaches. Assumes nothing.
use Rattle.std.proofs.Common.{◌≡◌, ℕ, ◌&&◌, Option, ap, ◌∙◌}
use Rattle.std.specs.Bool.{then_some}
use Rattle.rules.specs.declared.orders.Side.{Side}
use Rattle.rules.specs.declared.orders.Order.{Order}
use Rattle.rules.specs.Books.{Ranking, Book, other, away}
use Rattle.rules.specs.Marks.{quoted}
use Rattle.rules.specs.Trading.{has_limit, in_reach}
use Rattle.trading.specs.declared.states.Reach.{Reach}
use Rattle.trading.specs.Reached.{reached}
use Rattle.trading.proofs.Reaches.{within_limit, within_quoted}

abbrev reach_to : Side → Option ℕ → Option ℕ → Reach
reach_to s l q = record { side = s; limit = l; away = q }

pub reach_is : (rank : Ranking) (b : Book) (e : Order) (s : Side) (l q : Option ℕ) → s ≡ other e.side → l ≡ then_some (has_limit e.kind) e.price → q ≡ quoted (away s b) → reached rank (reach_to s l q) ≡ in_reach rank b e
unfolding in_reach
reach_is rank b e s l q hs hl hq =
    let t : Side = other e.side in
    ap (λ x. reached rank (reach_to s l x)) hq ∙ ap (λ x. reached rank (reach_to x l (quoted (away x b)))) hs ∙ ap (λ x. reached rank (reach_to t x (quoted (away t b)))) hl
    ∙ (λ i v. within_limit rank t v e.price (has_limit e.kind) i && within_quoted rank t v (away t b) i)
