-- Orders that run low. Assumes nothing.
use Rattle.std.proofs.Common.{◌≡◌, ℕ, zero, suc, ◌<◌, ◌≤◌, min, Bool, true, false, cond, ◌&&◌, List, [], ◌∷◌, length, get_or, set, sym, refl, ap, ◌∙◌, arith}
use Rattle.std.proofs.lemmas.Bool.{eq-eqb}
use Rattle.std.proofs.lemmas.Bool.Decides.{nat_tests}
use Rattle.std.proofs.lemmas.List.{set-get_or}
use Rattle.allocation.specs.Dealings.{total, sum}
use Rattle.allocation.specs.ByTime.{shares_in_order}
use Rattle.rules.specs.Lists.{last_alone}
use Rattle.rules.specs.Books.{Level, part, level, queue}
use Rattle.rules.specs.Changes.{lose, put}
use Rattle.rules.specs.Quantities.{claims, pieces, of_order}
use Rattle.rules.specs.Reserve.{runs_low, shows_two, raised, join_hidden, show_anew}
use Rattle.rules.specs.declared.orders.Part.{Part}
use Rattle.rules.specs.declared.orders.Order.{Order}

pub of_total : (n : ℕ) (ps : List Part) → of_order n ps ≤ total (claims ps)
of_total n [] = omega arith
of_total n (p ∷ ps) = let ih = of_total n ps in grind (arith, nat_tests)

pub of_at : (n : ℕ) (ps : List Part) (k : ℕ) (d : Part) → k < length ps → (get_or ps k d).order ≡ n → (get_or ps k d).quantity ≤ of_order n ps
of_at n [] k d lt e = absurd (omega arith)
of_at n (p ∷ ps) zero d lt e = rw (eq-eqb p.order n e) (omega arith)
of_at n (p ∷ ps) (suc k) d lt e = omega (arith, of_at n ps k d (omega arith) e)

-- ## The later part joins

abbrev pub less_shown : ℕ → Level → Level
less_shown n l = level l.price (lose (last_alone (pieces n l.shown.parts)) l.shown) l.hidden

abbrev pub more_hidden : ℕ → ℕ → Level → Level
more_hidden n m l = level l.price l.shown (queue (raised n m l.hidden.parts) l.hidden.wheel)

pub join_none : (lot n : ℕ) (l : Level) → runs_low lot n l ≡ false → join_hidden lot n l ≡ l
unfolding join_hidden
join_none lot n l e = rw e

pub join_one : (lot n : ℕ) (l : Level) → shows_two n l ≡ false → join_hidden lot n l ≡ l
unfolding join_hidden
join_one lot n l e = go (runs_low lot n l)
  where
    go : (t : Bool) → cond (t && shows_two n l) (level l.price (lose (last_alone (pieces n l.shown.parts)) l.shown) (queue (raised n (sum (last_alone (pieces n l.shown.parts))) l.hidden.parts) l.hidden.wheel)) l ≡ l
    go true = rw e
    go false = refl

pub join_two : (lot n : ℕ) (l : Level) → runs_low lot n l ≡ true → shows_two n l ≡ true → more_hidden n (sum (last_alone (pieces n l.shown.parts))) (less_shown n l) ≡ join_hidden lot n l
unfolding join_hidden
join_two lot n l low two = rw (low, two)

-- ## A new part is shown

abbrev pub new_shown : Order → Bool → Level → Level
new_shown e mark l = level l.price (put (part e.number e.participant (min e.display (of_order e.number l.hidden.parts)) mark) l.shown) l.hidden

abbrev pub less_hidden : ℕ → ℕ → Level → Level
less_hidden n m l = level l.price l.shown (lose (shares_in_order m (pieces n l.hidden.parts)) l.hidden)

pub show_none : (lot : ℕ) (e : Order) (mark : Bool) (l : Level) → runs_low lot e.number l ≡ false → show_anew lot e mark l ≡ l
unfolding show_anew
show_none lot e mark l h = rw h

pub show_some : (lot : ℕ) (e : Order) (mark : Bool) (l : Level) → runs_low lot e.number l ≡ true → less_hidden e.number (min e.display (of_order e.number l.hidden.parts)) (new_shown e mark l) ≡ show_anew lot e mark l
unfolding show_anew
show_some lot e mark l h = rw h

-- a level that stays as it was
pub same_level : (ls : List Level) (i : ℕ) (d : Level) (f : Level → Level) → f (get_or ls i d) ≡ get_or ls i d → ls ≡ set ls i (f (get_or ls i d))
same_level ls i d f e = sym (ap (set ls i) e ∙ set-get_or ls i d)
