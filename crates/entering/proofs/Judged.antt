-- Whether one more order can rest, and whether a remainder is given back. Assumes nothing.
use Rattle.std.proofs.Common.{◌≡◌, ℕ, Bool, cond, Option, Some, None, MatchOption, subst, true, false, not, ◌&&◌, ◌||◌, eqb, leb, List, map, length, sym, ap, ◌∙◌}
use Rattle.std.proofs.lemmas.List.{length-map}
use Rattle.rules.specs.declared.orders.Order.{Order}
use Rattle.rules.specs.Books.{Ranking, Book, good, other, away}
use Rattle.rules.specs.Marks.{quoted}
use Rattle.rules.specs.Refusals.{rests}
use Rattle.rules.specs.Entering.{not_placed}
use Rattle.orders.specs.declared.tables.Resting.{Resting}

pub many_rest : (rows : List Resting) (n : ℕ) → n ≡ length rows → leb 128 n ≡ leb 128 (length (map (λ r. r.order) rows))
many_rest rows n h = ap (leb 128) (h ∙ sym (length-map rows (λ r. r.order)))

-- ## What is left of an order

module _ (rank : Ranking) (b : Book) (e : Order) where
  pub cannot_rest : rests e.kind ≡ false → true ≡ not_placed rank b e
  unfolding not_placed
  cannot_rest h = sym (ap (λ r. not r || (not (eqb (away (other e.side) b) 0) && good rank (other e.side) (away (other e.side) b) e.price)) h)

  -- the test of a kind that can rest
  pub by_quote : rests e.kind ≡ true → (not (eqb (away (other e.side) b) 0) && good rank (other e.side) (away (other e.side) b) e.price) ≡ not_placed rank b e
  unfolding not_placed
  by_quote h = sym (ap (λ r. not r || (not (eqb (away (other e.side) b) 0) && good rank (other e.side) (away (other e.side) b) e.price)) h)

-- what is asked of an away price, where there is one
pub where_quoted : (o : Option ℕ) (q : ℕ) (r : Bool) (p : ℕ → Bool) (B : ℕ → Type 0) → o ≡ quoted q → MatchOption o (r ≡ false) B → ((x : ℕ) → B x → r ≡ p x) → r ≡ (not (eqb q 0) && p q)
where_quoted o q r p B is m f = go (eqb q 0) (subst (λ x. MatchOption x (r ≡ false) B) is m)
  where
    go : (t : Bool) → MatchOption (cond t None (Some q)) (r ≡ false) B → r ≡ (not t && p q)
    go true h = h
    go false h = f q h
