-- Every call keeps a book fit, and what an order had and brought is in the rows or rests. Assumes nothing.
use Rattle.std.proofs.Common.{◌≡◌, ℕ, ◌+◌, ◌-◌, ◌<◌, ◌≤◌, min, Bool, true, false, cond, not, ◌&&◌, ◌||◌, eqb, ltb, List, [], ◌∷◌, ◌++◌, map, filter, sym, refl, ap, ◌∙◌, subst, arith}
use mathlib.Core.Bool.{false≢true}
use Rattle.std.specs.List.{AllByRecursion}
use Rattle.std.proofs.lemmas.List.{map_push}
use Rattle.std.proofs.lemmas.Bool.Decides.{nat_tests}
use Rattle.std.proofs.lemmas.Bool.{or_parts, not-false, eqb-true, eqb-false}
use Rattle.std.proofs.ByRecursion.{all_kept_by, All-push}
use Rattle.allocation.specs.Dealings.{Seated, interest}
use Rattle.rules.specs.declared.orders.Kind.{Kind}
use Rattle.rules.specs.declared.orders.Order.{Order}
use Rattle.rules.specs.declared.orders.Part.{Part}
use Rattle.rules.specs.declared.answers.Row.{Row}
use Rattle.rules.specs.declared.answers.Row.TheVariants.{GivenBack}
use Rattle.rules.specs.Lists.{has, Distinct, sum_of}
use Rattle.rules.specs.Books.{Book, Level, part, Ranking}
use Rattle.rules.specs.Quantities.{resting, of_level, of_order, of_side, claims, claim}
use Rattle.rules.specs.Marks.{unmarked}
use Rattle.rules.specs.TakingOff.{take_off}
use Rattle.rules.specs.Trading.{Traded}
use Rattle.rules.specs.Refusals.{rests, none}
use Rattle.rules.specs.Entering.{place, not_placed, Outcome, finished, with_order}
use Rattle.rules.specs.Rules.{holds, empty, tidy, all_back}
use Rattle.rules.specs.Runs.{traded_in, given_back_in}
use Rattle.rules.specs.Invariants.{numbers, SoundLevel}
use Rattle.rules.proofs.Members.{has_push, distinct_push, sum_of_append}
use Rattle.rules.proofs.Levels.{take_off_side_good, take_off_side_of}
use Rattle.rules.proofs.Trades.{as_resting, as_arriving, named_once}
use Rattle.rules.proofs.Fits.{Sides, Same, Displays, Fit, AfterTrade, place_fit, place_rest}

-- ## Books that only lose, and books that take an order on

pub shrunk : (lot : ℕ) (b c : Book) → Fit lot b → Sides lot c → c.orders ≡ b.orders → b.last ≤ c.last → ((n : ℕ) → resting n c ≤ resting n b) → Fit lot c
shrunk lot b c f s o l r =
    record {
      pos = f.pos;
      sides = s;
      displays = subst (λ es. AllByRecursion Displays es) (sym o) f.displays;
      covered = λ n h. subst (λ es. has n (numbers es) ≡ true) (sym o) (f.covered n (omega (arith, r n)));
      once = subst (λ es. Distinct (numbers es)) (sym o) f.once;
      fresh = λ n h. (let a = f.fresh n (omega arith) in omega (arith, r n));
      unlisted = λ n h. subst (λ es. has n (numbers es) ≡ false) (sym o) (f.unlisted n (omega arith));
    }

pub grown : (lot : ℕ) (e : Order) (b c : Book) → Fit lot b → Displays e → b.last < e.number → Sides lot c → c.orders ≡ b.orders ++ (e ∷ []) → c.last ≡ e.number
    → ((n : ℕ) → resting n c ≤ resting n b + cond (eqb e.number n) (resting n c) 0) → Fit lot c
grown lot e b c f d new s o l r =
    record {
      pos = f.pos;
      sides = s;
      displays = subst (λ es. AllByRecursion Displays es) (sym o) (All-push Displays b.orders e f.displays d);
      covered = λ n h. subst (λ es. has n (numbers es) ≡ true) (sym o) (rw (map_push (λ e. e.number) b.orders e) (has_push n e.number (numbers b.orders) ∙ go n h (eqb e.number n) refl));
      once = subst (λ es. Distinct (numbers es)) (sym o) (rw (map_push (λ e. e.number) b.orders e) (distinct_push e.number (numbers b.orders) (f.unlisted e.number new) f.once));
      fresh = λ n h. (let a = f.fresh n (omega arith) in let q = r n in grind (arith, nat_tests));
      unlisted = λ n h. subst (λ es. has n (numbers es) ≡ false) (sym o) (rw (map_push (λ e. e.number) b.orders e) (has_push n e.number (numbers b.orders) ∙ (let a = f.unlisted n (omega arith) in grind (arith, nat_tests))));
    }
  where
    go : (n : ℕ) → 0 < resting n c → (t : Bool) → eqb e.number n ≡ t → (has n (numbers b.orders) || t) ≡ true
    go n h true z = or_yes (has n (numbers b.orders))
      where
        or_yes : (x : Bool) → (x || true) ≡ true
        or_yes true = refl
        or_yes false = refl
    go n h false z = let k : resting n c ≤ resting n b + cond (eqb e.number n) (resting n c) 0 = r n in let y = rw z at k in let i = f.covered n (omega arith) in rw i

-- ## Tidying

pub holds_of : (n : ℕ) (l : Level) → holds l ≡ false → of_level n l ≡ 0
holds_of n l = go l.shown.parts l.hidden.parts
  where
    go : (ps qs : List Part) → not (empty ps && empty qs) ≡ false → of_order n ps + of_order n qs ≡ 0
    go [] [] h = refl
    go [] (q ∷ qs) h = absurd (false≢true (sym h))
    go (p ∷ ps) qs h = absurd (false≢true (sym h))

pub kept_of : (n : ℕ) (ls : List Level) → of_side n (filter holds ls) ≡ of_side n ls
kept_of n [] = refl
kept_of n (l ∷ ls) = go (holds l) refl (kept_of n ls)
  where
    go : (t : Bool) → holds l ≡ t → of_side n (filter holds ls) ≡ of_side n ls → of_side n (cond t (l ∷ filter holds ls) (filter holds ls)) ≡ of_level n l + of_side n ls
    go true e ih = omega arith
    go false e ih = omega (arith, holds_of n l e)

pub tidy_rest : (n : ℕ) (b : Book) → resting n (tidy b) ≡ resting n b
unfolding tidy
tidy_rest n b = omega (arith, kept_of n b.buys, kept_of n b.sells)

pub has_numbers : (g : ℕ → Bool) (n : ℕ) (es : List Order) → has n (numbers (filter (λ e. g e.number) es)) ≡ (has n (numbers es) && g n)
has_numbers g n [] = refl
has_numbers g n (e ∷ es) = let ih = has_numbers g n es in grind (arith, nat_tests)

pub once_numbers : (g : ℕ → Bool) (es : List Order) → Distinct (numbers es) → Distinct (numbers (filter (λ e. g e.number) es))
once_numbers g [] h = tt
once_numbers g (e ∷ es) h = go (g e.number) (once_numbers g es h.1)
  where
    go : (t : Bool) → Distinct (numbers (filter (λ e. g e.number) es)) → Distinct (numbers (cond t (e ∷ filter (λ e. g e.number) es) (filter (λ e. g e.number) es)))
    go true ih = (has_numbers g e.number es ∙ rw h.0, ih)
    go false ih = ih

pub tidy_fit : (lot : ℕ) (b : Book) → Fit lot b → Fit lot (tidy b)
unfolding tidy
tidy_fit lot b f =
    let g : ℕ → Bool = λ n. ltb 0 (resting n b) in
    let same : (n : ℕ) → resting n (tidy b) ≡ resting n b = λ n. tidy_rest n b in
    record {
      pos = f.pos;
      sides = record { is = f.sides.is; buys = all_kept_by holds (SoundLevel lot) b.buys f.sides.buys; sells = all_kept_by holds (SoundLevel lot) b.sells f.sides.sells };
      displays = all_kept_by (λ e. g e.number) Displays b.orders f.displays;
      covered = λ n h. has_numbers g n b.orders ∙ (let r = same n in let c = f.covered n (omega arith) in grind (arith, nat_tests));
      once = once_numbers g b.orders f.once;
      fresh = λ n h. same n ∙ f.fresh n h;
      unlisted = λ n h. has_numbers g n b.orders ∙ rw (f.unlisted n h);
    }

-- ## What a call did

pub record Did (lot : ℕ) (b : Book) (entry : ℕ → ℕ) (rows : List Row) (c : Book) : Type 0 where
  pub fit : Fit lot c
  pub balance : (n : ℕ) → resting n b + entry n ≡ sum_of (traded_in n) rows + sum_of (given_back_in n) rows + resting n c

-- ## An enter

abbrev pub brings : Order → ℕ → ℕ
brings e n = cond (eqb e.number n) e.quantity 0

pub place_same : (rank : Ranking) (k : Kind) (e : Order) (n : ℕ) (b : Book) → Same b (place rank k e n b)
unfolding place
place_same rank Kind.Limit e n b = record { orders = refl; last = refl; steps = refl }
place_same rank Kind.Hidden e n b = record { orders = refl; last = refl; steps = refl }
place_same rank Kind.Reserve e n b = record { orders = refl; last = refl; steps = refl }
place_same rank Kind.Immediate e n b = record { orders = refl; last = refl; steps = refl }
place_same rank Kind.Market e n b = record { orders = refl; last = refl; steps = refl }

pub placed_rests : (rank : Ranking) (b : Book) (e : Order) → not_placed rank b e ≡ false → rests e.kind ≡ true
unfolding not_placed
placed_rests rank b e h = not-false (rests e.kind) (or_parts (not (rests e.kind)) _ h).0

module _ (rank : Ranking) (lot : ℕ) (e : Order) (b : Book) (f : Fit lot b) (d : Displays e) (new : b.last < e.number) (r : Traded Book) (T : AfterTrade lot e b r) where
  none_resting : sum_of (as_resting e.number) r.rows ≡ 0
  none_resting = omega (arith, (T.even e.number).rest, f.fresh e.number new)

  counts : (n : ℕ) → sum_of (traded_in n) r.rows ≡ sum_of (as_resting n) r.rows + sum_of (as_arriving n) r.rows
  counts n = named_once n e.number r.rows (T.even n).arrives none_resting

  traded_fit : Fit lot r.rest
  traded_fit = shrunk lot b r.rest f T.sides T.same.orders (let l = T.same.last in omega arith) (λ n. omega (arith, (T.even n).rest))

  pub finished_did : (t u : Bool) → eqb r.left 0 ≡ t → (u ≡ false → rests e.kind ≡ true) → (let x : Outcome = finished t u rank e r.left r.rows r.rest in Did lot b (brings e) x.rows x.book)
  finished_did true u z p =
      record {
        fit = traded_fit;
        balance = λ n. (let a = counts n in let v = T.even n in let v0 = v.rest in let v1 = v.came in let v2 = v.back in let y = eqb-true r.left 0 z in grind arith);
      }
  finished_did false true z p =
      record {
        fit = traded_fit;
        balance = λ n. (let a = counts n in let v = T.even n in let v0 = v.rest in let v1 = v.came in let v2 = v.back in
            let s = sum_of_append (traded_in n) r.rows (GivenBack e.number r.left ∷ []) in
            let t = sum_of_append (given_back_in n) r.rows (GivenBack e.number r.left ∷ []) in grind arith);
      }
  finished_did false false z p =
      let c : Book = place rank e.kind e r.left r.rest in
      let some : 0 < r.left = omega (arith, eqb-false r.left 0 z) in
      let sides : Sides lot c = place_fit rank lot e.kind e r.left r.rest f.pos some d T.sides in
      let q : Same r.rest c = place_same rank e.kind e r.left r.rest in
      let more : (n : ℕ) → resting n c ≡ resting n r.rest + cond (eqb e.number n) r.left 0 = λ n. place_rest rank e.kind e r.left n r.rest (p refl) in
      record {
        fit = grown lot e b (with_order e c) f d new (record { is = sides.is; buys = sides.buys; sells = sides.sells })
            (ap (λ es. es ++ (e ∷ [])) (q.orders ∙ T.same.orders)) (q.last ∙ T.same.last)
            (λ n. (let a = more n in let v = (T.even n).rest in grind (arith, nat_tests)));
        balance = λ n. (let a = counts n in let v = T.even n in let v0 = v.rest in let v1 = v.came in let v2 = v.back in let m = more n in grind arith);
      }

-- ## Halt: marks are lost

pub unmark_claims : (ps : List Part) → claims (map (λ p. part p.order p.participant p.quantity false) ps) ≡ claims ps
unmark_claims [] = refl
unmark_claims (p ∷ ps) = ap (λ cs. claim p.participant p.quantity ∷ cs) (unmark_claims ps)

pub unmark_positive : (ps : List Part) → AllByRecursion (λ p. 0 < p.quantity) ps → AllByRecursion (λ p. 0 < p.quantity) (map (λ p. part p.order p.participant p.quantity false) ps)
unmark_positive [] h = tt
unmark_positive (p ∷ ps) h = (h.0, unmark_positive ps h.1)

pub unmark_of : (n : ℕ) (ps : List Part) → of_order n (map (λ p. part p.order p.participant p.quantity false) ps) ≡ of_order n ps
unmark_of n [] = refl
unmark_of n (p ∷ ps) = omega (arith, unmark_of n ps)

pub unmarked_good : (lot : ℕ) (ls : List Level) → AllByRecursion (SoundLevel lot) ls → AllByRecursion (SoundLevel lot) (unmarked ls)
unmarked_good lot [] h = tt
unmarked_good lot (l ∷ ls) h =
    ((record { positive = unmark_positive l.shown.parts h.0.0.positive; seated = subst (λ cs. Seated lot l.shown.wheel (λ p. interest p cs)) (sym (unmark_claims l.shown.parts)) h.0.0.seated }, h.0.1), unmarked_good lot ls h.1)

pub unmarked_of : (n : ℕ) (ls : List Level) → of_side n (unmarked ls) ≡ of_side n ls
unmarked_of n [] = refl
unmarked_of n (l ∷ ls) = omega (arith, unmark_of n l.shown.parts, unmarked_of n ls)

-- ## Close: every order is given back

pub back_traded : (n : ℕ) (b : Book) (es : List Order) → sum_of (traded_in n) (all_back b es) ≡ 0
back_traded n b [] = refl
back_traded n b (e ∷ es) = omega (arith, back_traded n b es)

pub back_unlisted : (n : ℕ) (b : Book) (es : List Order) → has n (numbers es) ≡ false → sum_of (given_back_in n) (all_back b es) ≡ 0
back_unlisted n b [] h = refl
back_unlisted n b (e ∷ es) h = let ih = back_unlisted n b es (or_parts (eqb e.number n) (has n (numbers es)) h).1 in let z = (or_parts (eqb e.number n) (has n (numbers es)) h).0 in grind arith

pub back_listed : (n : ℕ) (b : Book) (es : List Order) → has n (numbers es) ≡ true → Distinct (numbers es) → sum_of (given_back_in n) (all_back b es) ≡ resting n b
back_listed n b [] h o = absurd (false≢true h)
back_listed n b (e ∷ es) h o = go (eqb e.number n) refl h (back_unlisted n b es) (λ i. back_listed n b es i o.1)
  where
    go : (t : Bool) → eqb e.number n ≡ t → (t || has n (numbers es)) ≡ true → (has n (numbers es) ≡ false → sum_of (given_back_in n) (all_back b es) ≡ 0)
        → (has n (numbers es) ≡ true → sum_of (given_back_in n) (all_back b es) ≡ resting n b) → cond t (resting e.number b) 0 + sum_of (given_back_in n) (all_back b es) ≡ resting n b
    go true z i none more =
        let same : e.number ≡ n = eqb-true e.number n z in
        let gone : has n (numbers es) ≡ false = subst (λ k. has k (numbers es) ≡ false) same o.0 in
        let here : resting e.number b ≡ resting n b = ap (λ k. resting k b) same in
        omega (arith, none gone)
    go false z i none more = omega (arith, more i)

pub all_given : (lot n : ℕ) (b : Book) → Fit lot b → sum_of (given_back_in n) (all_back b b.orders) ≡ resting n b
all_given lot n b f = go (has n (numbers b.orders)) refl
  where
    go : (t : Bool) → has n (numbers b.orders) ≡ t → sum_of (given_back_in n) (all_back b b.orders) ≡ resting n b
    go true h = back_listed n b b.orders h f.once
    go false h = back_unlisted n b b.orders h ∙ sym (zero (resting n b) (λ p. false≢true (sym h ∙ f.covered n p)))
      where
        zero : (k : ℕ) → (0 < k → ⊥) → k ≡ 0
        zero k never = grind arith

-- ## Taking off

pub take_off_rest : (k n m : ℕ) (b : Book) → resting k b ≡ resting k (take_off n m b) + cond (eqb n k) (min m (resting n b)) 0
unfolding take_off
take_off_rest k n m b = let x = take_off_side_of k n m b.buys in let y = take_off_side_of k n (m - of_side n b.buys) b.sells in grind (arith, nat_tests)

pub take_off_did : (lot n m : ℕ) (b : Book) → Fit lot b → m ≤ resting n b → Did lot b (λ _. 0) (GivenBack n m ∷ []) (take_off n m b)
unfolding take_off
take_off_did lot n m b f le =
    record {
      fit = shrunk lot b (take_off n m b) f
          (record { is = f.sides.is; buys = take_off_side_good lot n m b.buys f.sides.buys; sells = take_off_side_good lot n (m - of_side n b.buys) b.sells f.sides.sells })
          refl (omega arith) (λ k. omega (arith, take_off_rest k n m b));
      balance = λ k. (let r = take_off_rest k n m b in grind (arith, nat_tests));
    }
