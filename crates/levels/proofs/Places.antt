-- A price is found or made at its place. Assumes nothing.
use Rattle.std.proofs.Common.{one-add, ◌≡◌, ℕ, zero, suc, ◌+◌, ◌<◌, ◌≤◌, Bool, true, false, not, cond, eqb, List, [], ◌∷◌, ◌++◌, length, get_or, take, drop, set, sym, refl, ap, ◌∙◌, ⊎_elim, arith}
use Rattle.std.specs.List.{insert, position_or_len}
use Rattle.std.proofs.lemmas.List.{set_split, set_at, get_or_at, length-take-le, drop-drop, get_or-drop}
use Rattle.std.proofs.lemmas.Bool.{cases_Bool, eqb-true, cond_both, both_ways}
use Rattle.allocation.specs.Rankings.{TotalOrder}
use Rattle.rules.specs.Books.{Level, Ranking, good, same_side, nothing_at}
use Rattle.rules.specs.Changes.{on_price}
use Rattle.rules.specs.declared.orders.Side.{Side}
use Rattle.levels.specs.Prices.{first_at, no_better}

-- the place of the first level that is no better than a price
abbrev pub spot : Ranking → Side → ℕ → List Level → ℕ
spot rank s v = position_or_len (λ l. good rank s v l.price)

pub stops : (rank : Ranking) (s : Side) (v : ℕ) (ls : List Level) → no_better rank s v (drop (spot rank s v ls) ls) ≡ true
stops rank s v [] = refl
stops rank s v (l ∷ ls) = by (good rank s v l.price) refl (stops rank s v ls) where
  by : (b : Bool) → good rank s v l.price ≡ b → no_better rank s v (drop (spot rank s v ls) ls) ≡ true → no_better rank s v (drop (cond (not b) (1 + spot rank s v ls) 0) (l ∷ ls)) ≡ true
  by true e rest = e
  by false e rest = rw one-add rest

module _ (rank : Ranking) (s : Side) (v : ℕ) (f : Level → Level) (same : (w : ℕ) → good rank s w w ≡ true) where
  skip : (l : Level) (ls : List Level) → good rank s v l.price ≡ false → on_price rank s v f (l ∷ ls) ≡ l ∷ on_price rank s v f ls
  unfolding on_price
  skip l ls worse =
      let away : eqb l.price v ≡ false = ⊎_elim (λ e. absurd (both_ways (good rank s v l.price) worse (ap (good rank s v) (eqb-true l.price v e) ∙ same v))) (λ e. e) (cases_Bool (eqb l.price v)) in
      rw (away, worse)

  -- the levels before the first that is no better stay as they are
  pub skips : (ls : List Level) → on_price rank s v f ls ≡ take (spot rank s v ls) ls ++ on_price rank s v f (drop (spot rank s v ls) ls)
  skips [] = refl
  skips (l ∷ ls) = by (good rank s v l.price) refl (skips ls) where
    by : (b : Bool) → good rank s v l.price ≡ b → on_price rank s v f ls ≡ take (spot rank s v ls) ls ++ on_price rank s v f (drop (spot rank s v ls) ls)
        → on_price rank s v f (l ∷ ls) ≡ take (cond (not b) (1 + spot rank s v ls) 0) (l ∷ ls) ++ on_price rank s v f (drop (cond (not b) (1 + spot rank s v ls) 0) (l ∷ ls))
    by true e rest = refl
    by false e rest = rw one-add (skip l ls e ∙ ap (λ x. l ∷ x) rest)

  found : (ls : List Level) (d : Level) → first_at v ls ≡ true → on_price rank s v f ls ≡ f (get_or ls 0 d) ∷ drop 1 ls
  unfolding on_price
  found [] d e = absurd (both_ways false refl e)
  found (l ∷ ls) d e = rw e

  made : (ls : List Level) → first_at v ls ≡ false → no_better rank s v ls ≡ true → on_price rank s v f ls ≡ f (nothing_at v) ∷ ls
  unfolding on_price
  made [] e g = refl
  made (l ∷ ls) e g = rw (e, g)

  -- the price stands at i
  pub on_found : (ls : List Level) (i : ℕ) (d : Level) → i < length ls → first_at v (drop i ls) ≡ true
      → on_price rank s v f ls ≡ take i ls ++ on_price rank s v f (drop i ls)
      → on_price rank s v f ls ≡ set ls i (f (get_or ls i d))
  on_found ls i d lt e so =
      let none : i + 0 ≡ i = omega arith in
      let one : i + 1 ≡ suc i = omega arith in
      so
      ∙ ap (λ l. take i ls ++ l) (found (drop i ls) d e)
      ∙ ap (λ l. take i ls ++ (f l ∷ drop 1 (drop i ls))) (get_or-drop i ls 0 d ∙ ap (λ n. get_or ls n d) none)
      ∙ ap (λ l. take i ls ++ (f (get_or ls i d) ∷ l)) (drop-drop 1 i ls ∙ ap (λ n. drop n ls) one)
      ∙ sym (set_split ls i (f (get_or ls i d)) lt)

  -- the price is made at i
  pub on_made : (ls : List Level) (i : ℕ) (d : Level) → i ≤ length ls → first_at v (drop i ls) ≡ false → no_better rank s v (drop i ls) ≡ true
      → on_price rank s v f ls ≡ take i ls ++ on_price rank s v f (drop i ls)
      → on_price rank s v f ls ≡ set (insert ls i (nothing_at v)) i (f (get_or (insert ls i (nothing_at v)) i d))
  on_made ls i d le e g so =
      let long : length (take i ls) ≡ i = length-take-le i ls le in
      so
      ∙ ap (λ l. take i ls ++ l) (made (drop i ls) e g)
      ∙ sym (set_at (take i ls) (nothing_at v) (drop i ls) (f (nothing_at v)) i long)
      ∙ ap (λ l. set (insert ls i (nothing_at v)) i (f l)) (sym (get_or_at (take i ls) (nothing_at v) (drop i ls) d i long))

pub first_within : (v : ℕ) (ls : List Level) (i : ℕ) → first_at v (drop i ls) ≡ true → i < length ls
first_within v [] zero e = absurd (both_ways false refl e)
first_within v [] (suc i) e = absurd (both_ways false refl e)
first_within v (l ∷ ls) zero e = omega arith
first_within v (l ∷ ls) (suc i) e = omega (arith, first_within v ls i e)

-- a price is as good as itself on either side
pub good_same : (rank : Ranking) → ((v : ℕ) → rank.good v v ≡ true) → (s : Side) (v : ℕ) → good rank s v v ≡ true
good_same rank same s v = cond_both (same_side s rank.letter) (rank.good v v) (rank.good v v) (λ t. t ≡ true) (λ _. same v) (λ _. same v)

pub same_total : (good : ℕ → ℕ → Bool) → TotalOrder good → (v : ℕ) → good v v ≡ true
same_total good o v = ⊎_elim (λ e. e) (λ e. e) (o.either v v)
