-- Behind a price out of reach no price is in reach. Assumes nothing.
use Rattle.std.proofs.Common.{◌≡◌, ℕ, ◌+◌, ◌<◌, Bool, true, false, not, ◌||◌, None, Some, Option, List, [], ◌∷◌, ◌++◌, length, drop, set, refl, sym, ap, ◌∙◌, subst, arith}
use mathlib.Core.Bool.{false≢true}
use Rattle.std.specs.List.{AllByRecursion}
use Rattle.std.proofs.ByRecursion.{All-weaker}
use Rattle.std.proofs.lemmas.Bool.{and_parts}
use Rattle.std.proofs.lemmas.List.{drop_more, drop-set-lt}
use Rattle.allocation.specs.Rankings.{TotalOrder}
use Rattle.allocation.specs.Dealings.{Deal}
use Rattle.rules.specs.declared.orders.Side.{Side}
use Rattle.rules.specs.declared.phases.Step.{Step}
use Rattle.rules.specs.Books.{Level, Ranking, good, better, nothing_at}
use Rattle.rules.specs.Trading.{Traded, traded, trade_reached, trade_side}
use Rattle.rules.specs.Invariants.{BestFirst, prices}
use Rattle.rules.proofs.Chains.{good_total, good_chain}
use Rattle.trading.specs.declared.states.Reach.{Reach}
use Rattle.trading.specs.Reached.{within, reached}
use Rattle.trading.specs.Steps.{at_place}

-- ## Nothing in reach

pub side_out : (deal : Deal) (lot arriving : ℕ) (table : List Step) (reach : ℕ → Bool) (q : ℕ) (ls : List Level) → AllByRecursion (λ v. reach v ≡ false) (prices ls) → trade_side deal lot arriving table reach q ls ≡ traded q [] ls
unfolding trade_side
side_out deal lot arriving table reach q [] out = refl
side_out deal lot arriving table reach q (l ∷ ls) out =
    ap (λ b. let r : Traded Level = trade_reached deal lot arriving table b q l in let t : Traded (List Level) = trade_side deal lot arriving table reach r.left ls in traded t.left (r.rows ++ t.rows) (r.rest ∷ t.rest)) out.0
    ∙ ap (λ (t : Traded (List Level)). traded t.left t.rows (l ∷ t.rest)) (side_out deal lot arriving table reach q ls out.1)

-- behind a price out of reach none is in reach
abbrev pub Closes : (ℕ → Bool) → List ℕ → Type 0
Closes reach [] = Unit {0}
Closes reach (v ∷ vs) = (reach v ≡ false → AllByRecursion (λ w. reach w ≡ false) vs) × Closes reach vs

module _ (reach : ℕ → Bool) (ls : List Level) (i : ℕ) (lt : i < length ls) (c : Closes reach (prices (drop i ls))) where
  here : Closes reach (prices (at_place ls i ∷ drop (i + 1) ls))
  here = subst (λ (l : List Level). Closes reach (prices l)) (drop_more ls i (nothing_at 0) lt) c

  -- it stays so when the level at i changes
  pub closes_more : (l : Level) (ms : List Level) → ms ≡ set ls i l → Closes reach (prices (drop (i + 1) ms))
  closes_more l ms is = subst (λ (l : List Level). Closes reach (prices l)) (sym (ap (drop (i + 1)) is ∙ drop-set-lt (i + 1) ls i l (omega arith))) here.1

  -- nothing more trades where the level at i is out of reach
  pub over_reach : (deal : Deal) (lot arriving : ℕ) (table : List Step) (q : ℕ) → reach (at_place ls i).price ≡ false → trade_side deal lot arriving table reach q (drop i ls) ≡ traded q [] (drop i ls)
  over_reach deal lot arriving table q out =
      side_out deal lot arriving table reach q (drop i ls) (subst (λ (l : List Level). AllByRecursion (λ v. reach v ≡ false) (prices l)) (sym (drop_more ls i (nothing_at 0) lt)) (out, here.0 out))

-- ## Levels that stand best price first

module _ (rank : Ranking) (O : TotalOrder rank.good) where
  -- what is better is at least as good
  as_good : (s : Side) (v w : ℕ) → better rank s v w ≡ true → good rank s v w ≡ true
  as_good s v w h = go (good rank s v w) (good rank s w v) (good_total rank O s v w) h
    where
      go : (x y : Bool) → (x || y) ≡ true → not y ≡ true → x ≡ true
      go true y t n = refl
      go false true t n = absurd (false≢true n)
      go false false t n = t

  -- a better price is within a bound where a worse one is
  nearer : (s : Side) (v w : ℕ) (bound : Option ℕ) → good rank s v w ≡ true → within rank s w bound ≡ true → within rank s v bound ≡ true
  nearer s v w None vw h = refl
  nearer s v w (Some u) vw h = good_chain rank O s v w u vw h

  -- and in reach where a worse one is
  closer : (r : Reach) (v w : ℕ) → good rank r.side v w ≡ true → reached rank r w ≡ true → reached rank r v ≡ true
  closer r v w vw h =
      let both = and_parts (within rank r.side w r.limit) (within rank r.side w r.away) h in
      rw (nearer r.side v w r.limit vw both.0) (nearer r.side v w r.away vw both.1)

  out_behind : (r : Reach) (v w : ℕ) → reached rank r v ≡ false → better rank r.side v w ≡ true → reached rank r w ≡ false
  out_behind r v w out b = go (reached rank r w) refl
    where
      go : (t : Bool) → reached rank r w ≡ t → t ≡ false
      go true h = absurd (false≢true (sym out ∙ closer r v w (as_good r.side v w b) h))
      go false h = refl

  pub closes_sorted : (r : Reach) (vs : List ℕ) → BestFirst rank r.side vs → Closes (reached rank r) vs
  closes_sorted r [] o = tt
  closes_sorted r (v ∷ vs) o = ((λ out. All-weaker (λ w. better rank r.side v w ≡ true) (λ w. reached rank r w ≡ false) (λ w b. out_behind r v w out b) vs o.0), closes_sorted r vs o.1)
