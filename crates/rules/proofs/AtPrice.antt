-- What holds of all levels after a change at one price. Assumes nothing.
use Rattle.std.proofs.Common.{◌≡◌, ℕ, Bool, true, false, cond, eqb, List, [], ◌∷◌, sym, refl, subst}
use Rattle.std.specs.List.{AllByRecursion}
use Rattle.std.proofs.lemmas.Bool.{eqb-true, eqb-false}
use Rattle.std.proofs.ByRecursion.{All-weaker}
use Rattle.allocation.specs.Rankings.{TotalOrder}
use Rattle.rules.specs.declared.orders.Side.{Side}
use Rattle.rules.specs.Books.{Level, Ranking, nothing_at, good, better}
use Rattle.rules.specs.Changes.{on_price}
use Rattle.rules.specs.Invariants.{prices, BestFirst}
use Rattle.rules.proofs.Chains.{not_itself}
use Rattle.rules.proofs.Ranked.{better_chain}

pub on_price_each : (Q : Level → Type 0) (rank : Ranking) (s : Side) (v : ℕ) (f : Level → Level) (ls : List Level) → Q (nothing_at v) → ((l : Level) → Q l → Q (f l)) → AllByRecursion Q ls → AllByRecursion Q (on_price rank s v f ls)
unfolding on_price
on_price_each Q rank s v f [] fresh step h = (step (nothing_at v) fresh, tt)
on_price_each Q rank s v f (l ∷ ls) fresh step h = go (eqb l.price v) (good rank s v l.price) (on_price_each Q rank s v f ls fresh step h.1)
  where
    go : (t u : Bool) → AllByRecursion Q (on_price rank s v f ls) → AllByRecursion Q (cond t (f l ∷ ls) (cond u (f (nothing_at v) ∷ l ∷ ls) (l ∷ on_price rank s v f ls)))
    go true u ih = (step l h.0, h.1)
    go false true ih = (step (nothing_at v) fresh, h)
    go false false ih = (h.0, ih)

module _ (rank : Ranking) (O : TotalOrder rank.good) (s : Side) where
  pub elsewhere : (v : ℕ) (ls : List Level) → AllByRecursion (λ w. better rank s v w ≡ true) (prices ls) → AllByRecursion (λ l. l.price ≡ v → ⊥) ls
  elsewhere v [] h = tt
  elsewhere v (l ∷ ls) h = ((λ e. not_itself rank O s v l.price (sym e) h.0), elsewhere v ls h.1)

  -- at the price it is made, and nowhere else
  pub on_price_to : (Q Q' : Level → Type 0) (v : ℕ) (f : Level → Level) (ls : List Level) → BestFirst rank s (prices ls)
      → Q' (f (nothing_at v)) → ((l : Level) → l.price ≡ v → Q l → Q' (f l)) → ((l : Level) → (l.price ≡ v → ⊥) → Q l → Q' l) → AllByRecursion Q ls → AllByRecursion Q' (on_price rank s v f ls)
  unfolding on_price
  on_price_to Q Q' v f [] o fresh here there h = (fresh, tt)
  on_price_to Q Q' v f (l ∷ ls) o fresh here there h = go (eqb l.price v) refl (good rank s v l.price) refl (on_price_to Q Q' v f ls o.1 fresh here there h.1)
    where
      others : (xs : List Level) → AllByRecursion (λ l. l.price ≡ v → ⊥) xs → AllByRecursion Q xs → AllByRecursion Q' xs
      others [] a b = tt
      others (x ∷ xs) a b = (there x a.0 b.0, others xs a.1 b.1)

      go : (t : Bool) → eqb l.price v ≡ t → (u : Bool) → good rank s v l.price ≡ u → AllByRecursion Q' (on_price rank s v f ls) → AllByRecursion Q' (cond t (f l ∷ ls) (cond u (f (nothing_at v) ∷ l ∷ ls) (l ∷ on_price rank s v f ls)))
      go true e u eu ih =
          let same : l.price ≡ v = eqb-true l.price v e in
          let apart : AllByRecursion (λ l. l.price ≡ v → ⊥) ls = elsewhere v ls (subst (λ k. AllByRecursion (λ w. better rank s k w ≡ true) (prices ls)) same o.0) in
          (here l same h.0, others ls apart h.1)
      go false e true eu ih =
          let apart : AllByRecursion (λ l. l.price ≡ v → ⊥) ls = elsewhere v ls (All-weaker (λ w. better rank s l.price w ≡ true) (λ w. better rank s v w ≡ true) (λ w k. better_chain rank O s v l.price w eu k) (prices ls) o.0) in
          (fresh, (there l (eqb-false l.price v e) h.0, others ls apart h.1))
      go false e false eu ih = (there l (eqb-false l.price v e) h.0, ih)
