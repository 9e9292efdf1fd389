-- Loops over amounts. Assumes nothing.
use Rattle.std.proofs.Common.{◌≡◌, ℕ, zero, suc, fold, replicate, ◌+◌, ◌-◌, ◌<◌, ◌≤◌, min, false, eqb, leb, List, [], ◌∷◌, ◌++◌, map, reverse, length, get_or, take, drop, set, sym, refl, ap, subst, ◌∙◌, append_assoc, append-nil, arith}
use Rattle.std.proofs.lemmas.List.{at_drop_more, at_drop_all, take_more_set, take_all, drop_all, drop-set, length_push, reverse-append}
use Rattle.std.proofs.lemmas.Bool.{eq-eqb, ne_eqb}
use Rattle.std.proofs.lemmas.Bool.Decides.{nat_tests}
use Rattle.allocation.specs.ByTime.{shares_in_order}
use Rattle.allocation.specs.Dealings.{sum}
use Rattle.rules.specs.Lists.{sum_of, last_alone}
use Rattle.rules.specs.Books.{part}
use Rattle.rules.specs.Reserve.{raised}
use Rattle.rules.specs.declared.orders.Part.{Part}
use Rattle.allocation.proofs.InOrder.{in_order_cons, in_order_append}
use Rattle.rules.proofs.Queues.{sum_reverse}

-- ## A quantity less one amount after the other

pub fold_less : {X : Type 0} (f : X → ℕ) (xs : List X) (q : ℕ) → fold (λ left x. left - f x) q xs ≡ q - sum_of f xs
fold_less f [] q = omega arith
fold_less f (x ∷ xs) q = let rest = fold_less f xs (q - f x) in omega (arith, rest)

pub sum_is : (xs : List ℕ) → sum xs ≡ sum_of (λ x. x) xs
sum_is [] = refl
sum_is (x ∷ xs) = ap (λ n. x + n) (sum_is xs)

pub none_left : (lot n left : ℕ) → left ≡ lot - n → eqb left 0 ≡ leb lot n
none_left lot n left e = grind (arith, nat_tests)

-- ## Shares in order

-- one more takes x of what is left, of which n counts
pub in_order_more : {X : Type 0} (f : X → ℕ) (ps : List X) (ys all : List ℕ) (i left : ℕ) (d : X) (n x after : ℕ) → i < length ps → i < length ys
    → n ≡ f (get_or ps i d) → x ≡ min left n → after ≡ left - n
    → take i ys ++ shares_in_order left (map f (drop i ps)) ≡ all
    → take (i + 1) (set ys i x) ++ shares_in_order after (map f (drop (i + 1) ps)) ≡ all
in_order_more f ps ys all i left d n x after lt within counted is rest so =
    let later : List ℕ = map f (drop (i + 1) ps) in
    ap (λ l. l ++ shares_in_order after later) (take_more_set ys i x within)
    ∙ append_assoc (take i ys) (x ∷ []) (shares_in_order after later)
    ∙ ap (λ k. take i ys ++ (k ∷ shares_in_order after later)) is
    ∙ ap (λ k. take i ys ++ (min left n ∷ shares_in_order k later)) rest
    ∙ ap (λ k. take i ys ++ (min left k ∷ shares_in_order (left - k) later)) counted
    ∙ ap (λ l. take i ys ++ l) (sym (at_drop_more (λ l. shares_in_order left (map f l)) ps i d lt ∙ in_order_cons left (f (get_or ps i d)) later)) ∙ so

pub in_order_all : {X : Type 0} (f : X → ℕ) (ps : List X) (ys all : List ℕ) (i left : ℕ) → length ps ≤ i → length ys ≤ i → take i ys ++ shares_in_order left (map f (drop i ps)) ≡ all → ys ≡ all
in_order_all f ps ys all i left le short so =
    sym (take_all i ys short) ∙ sym (append-nil (take i ys)) ∙ ap (λ l. take i ys ++ l) (sym (at_drop_all (λ l. shares_in_order left (map f l)) ps i le)) ∙ so

-- ## Latest first

-- each takes what those after it leave
abbrev pub late : ℕ → List ℕ → List ℕ
late q [] = []
late q (x ∷ xs) = min (q - sum xs) x ∷ late q xs

pub late_is : (q : ℕ) (xs : List ℕ) → late q xs ≡ reverse (shares_in_order q (reverse xs))
late_is q [] = refl
late_is q (x ∷ xs) =
    let back : List ℕ = reverse xs in
    let one : shares_in_order (q - sum back) (x ∷ []) ≡ min (q - sum xs) x ∷ [] = ap (λ n. min (q - n) x ∷ []) (sum_reverse xs) in
    ap (λ l. min (q - sum xs) x ∷ l) (late_is q xs)
    ∙ ap (λ l. reverse l ++ reverse (shares_in_order q back)) (sym one)
    ∙ sym (reverse-append (shares_in_order q back) (shares_in_order (q - sum back) (x ∷ [])))
    ∙ ap reverse (sym (in_order_append q back (x ∷ [])))
    ∙ ap (λ l. reverse (shares_in_order q l)) (sym (reverse-append (x ∷ []) xs))

module _ {X : Type 0} (f : X → ℕ) (ps : List X) (j : ℕ) (d : X) (lt : j < length ps) where
  mapped : map f (drop j ps) ≡ f (get_or ps j d) ∷ map f (drop (j + 1) ps)
  mapped = at_drop_more (map f) ps j d lt

  pub late_more : (q left : ℕ) (ys : List ℕ) → j < length ys → left ≡ q - sum (map f (drop (j + 1) ps)) → drop (j + 1) ys ≡ late q (map f (drop (j + 1) ps)) → drop j (set ys j (min left (f (get_or ps j d)))) ≡ late q (map f (drop j ps))
  late_more q left ys within was so =
      drop-set ys j (min left (f (get_or ps j d))) within
      ∙ ap (λ l. min left (f (get_or ps j d)) ∷ l) so
      ∙ ap (λ n. min n (f (get_or ps j d)) ∷ late q (map f (drop (j + 1) ps))) was
      ∙ ap (late q) (sym mapped)

  pub left_more : (q left : ℕ) → left ≡ q - sum (map f (drop (j + 1) ps)) → left - f (get_or ps j d) ≡ q - sum (map f (drop j ps))
  left_more q left was = omega (arith, was, ap sum mapped)

front_is : {X : Type 0} (ps new : List X) (x d : X) → take (length (new ++ (x ∷ []))) ps ≡ new ++ (x ∷ []) → length (new ++ (x ∷ [])) ≤ length ps → (new ≡ take (length new) ps) × (x ≡ get_or ps (length new) d)
front_is [] new x d e short = let no_way : ⊥ = omega (arith, short, length_push new x) in absurd no_way
front_is (p ∷ ps) [] x d e short = (refl, sym (ap (λ l. get_or l 0 x) e))
front_is (p ∷ ps) (y ∷ new) x d e short =
    let tail = front_is ps new x d (ap (drop 1) e) (omega (arith, short)) in
    (ap (λ k. k ∷ new) (sym (ap (λ l. get_or l 0 y) e)) ∙ ap (λ l. p ∷ l) tail.0, tail.1)

module _ {X : Type 0} (f : X → ℕ) (ps : List X) (q : ℕ) where
  -- the parts of `rest` are still to come, and those behind them have their shares
  pub record FromBack (rest : List X) (left : ℕ) (ys : List ℕ) : Type 0 where
    pub front : rest ≡ take (length rest) ps
    pub short : length rest ≤ length ps
    pub given : drop (length rest) ys ≡ late q (map f (drop (length rest) ps))
    pub taken : left ≡ q - sum (map f (drop (length rest) ps))

  pub from_back : (rest : List X) (ys : List ℕ) → rest ≡ ps → length ys ≡ length ps → FromBack rest q ys
  from_back rest ys all same =
      let none : map f (drop (length ps) ps) ≡ [] = at_drop_all (map f) ps (length ps) (omega arith) in
      subst (λ l. FromBack l q ys) (sym all) (record {
        front = sym (take_all (length ps) ps (omega arith));
        short = omega arith;
        given = drop_all (length ps) ys (omega (arith, same)) ∙ sym (ap (late q) none);
        taken = omega (arith, ap sum none);
      })

  -- the part before takes y of what is left, of which n counts
  pub from_back_more : (rest new : List X) (x d : X) (left n y after i : ℕ) (ys : List ℕ) → FromBack rest left ys → length ys ≡ length ps → rest ≡ new ++ (x ∷ []) → i ≡ length new → n ≡ f x → y ≡ min left n → after ≡ left - n → FromBack new after (set ys i y)
  from_back_more rest new x d left n y after i ys h same cut at counts is less =
      let j : ℕ = length new in
      let up : length rest ≡ j + 1 = ap length cut ∙ length_push new x in
      let here = front_is ps new x d (sym (ap (λ l. take (length l) ps) cut) ∙ sym h.front ∙ cut) (omega (arith, h.short, ap length cut)) in
      let lt : j < length ps = omega (arith, h.short, up) in
      let was : left ≡ q - sum (map f (drop (j + 1) ps)) = h.taken ∙ ap (λ k. q - sum (map f (drop k ps))) up in
      let so : drop (j + 1) ys ≡ late q (map f (drop (j + 1) ps)) = ap (λ k. drop k ys) (sym up) ∙ h.given ∙ ap (λ k. late q (map f (drop k ps))) up in
      let counted : n ≡ f (get_or ps j d) = counts ∙ ap f here.1 in
      record {
        front = here.0;
        short = omega (arith, lt);
        given = ap (λ k. drop j (set ys k y)) at ∙ ap (λ k. drop j (set ys j k)) (is ∙ ap (min left) counted) ∙ late_more f ps j d lt q left ys (omega (arith, lt, same)) was so;
        taken = less ∙ ap (λ k. left - k) counted ∙ left_more f ps j d lt q left was;
      }

  pub from_back_all : (rest : List X) (left : ℕ) (ys : List ℕ) → FromBack rest left ys → length rest ≡ 0 → ys ≡ reverse (shares_in_order q (reverse (map f ps)))
  from_back_all rest left ys h none = ap (λ k. drop k ys) (sym none) ∙ h.given ∙ ap (λ k. late q (map f (drop k ps))) none ∙ late_is q (map f ps)

-- ## The latest that counts

pub sum_none : (n : ℕ) → sum (replicate n 0) ≡ 0
sum_none zero = refl
sum_none (suc n) = let rest = sum_none n in omega (arith, rest)

module _ {X : Type 0} (f : X → ℕ) (d : X) where
  all_none : (ps : List X) → ((j : ℕ) → j < length ps → f (get_or ps j d) ≡ 0) → replicate (length ps) 0 ≡ map f ps
  all_none [] none = refl
  all_none (p ∷ ps) none = rw (none 0 (omega arith)) (ap (λ l. 0 ∷ l) (all_none ps (λ j lt. none (suc j) (omega (arith, lt)))))

  counts_some : (ps : List X) (k : ℕ) → k < length ps → f (get_or ps k d) ≤ sum (map f ps)
  counts_some [] k lt = absurd (omega (arith, lt))
  counts_some (p ∷ ps) zero lt = omega arith
  counts_some (p ∷ ps) (suc k) lt = let rest = counts_some ps k (omega (arith, lt)) in omega (arith, rest)

  pub alone_none : (ps : List X) → ((j : ℕ) → j < length ps → f (get_or ps j d) ≡ 0) → replicate (length ps) 0 ≡ last_alone (map f ps)
  alone_none [] none = refl
  alone_none (p ∷ ps) none =
      let rest = all_none ps (λ j lt. none (suc j) (omega (arith, lt))) in
      rw (eq-eqb (sum (map f ps)) 0 (ap sum (sym rest) ∙ sum_none (length ps)), none 0 (omega arith)) (ap (λ l. 0 ∷ l) rest)

  pub alone_at : (ps : List X) (k : ℕ) → k < length ps → 0 < f (get_or ps k d) → ((j : ℕ) → k < j → j < length ps → f (get_or ps j d) ≡ 0) → set (replicate (length ps) 0) k (f (get_or ps k d)) ≡ last_alone (map f ps)
  alone_at [] k lt some none = absurd (omega (arith, lt))
  alone_at (p ∷ ps) zero lt some none =
      let rest = all_none ps (λ j le. none (suc j) (omega arith) (omega (arith, le))) in
      rw (eq-eqb (sum (map f ps)) 0 (ap sum (sym rest) ∙ sum_none (length ps))) (ap (λ l. f p ∷ l) rest)
  alone_at (p ∷ ps) (suc k) lt some none =
      let rest = counts_some ps k (omega (arith, lt)) in
      rw (ne_eqb (sum (map f ps)) 0 (λ e. absurd (omega (arith, some, rest, e)))) (ap (λ l. 0 ∷ l) (alone_at ps k (omega (arith, lt)) some (λ j below within. none (suc j) (omega (arith, below)) (omega (arith, within)))))

pub sum_alone : (n k x : ℕ) → k < n → sum (set (replicate n 0) k x) ≡ x
sum_alone zero k x lt = absurd (omega (arith, lt))
sum_alone (suc n) zero x lt = let rest = sum_none n in omega (arith, rest)
sum_alone (suc n) (suc k) x lt = let rest = sum_alone n k x (omega (arith, lt)) in omega (arith, rest)

-- ## The first part of an order

module _ (n m : ℕ) where
  pub raised_at : (ps : List Part) (k : ℕ) (d : Part) → k < length ps → (get_or ps k d).order ≡ n → ((j : ℕ) → j < k → eqb (get_or ps j d).order n ≡ false) → raised n m ps ≡ set ps k (part (get_or ps k d).order (get_or ps k d).participant ((get_or ps k d).quantity + m) (get_or ps k d).marked)
  raised_at [] k d lt e none = absurd (omega (arith, lt))
  raised_at (p ∷ ps) zero d lt e none = rw (eq-eqb p.order n e)
  raised_at (p ∷ ps) (suc k) d lt e none = rw (none 0 (omega arith)) (ap (λ l. p ∷ l) (raised_at ps k d (omega (arith, lt)) e (λ j le. none (suc j) (omega (arith, le)))))

  pub raised_none : (ps : List Part) (d : Part) → ((j : ℕ) → j < length ps → eqb (get_or ps j d).order n ≡ false) → raised n m ps ≡ ps
  raised_none [] d none = refl
  raised_none (p ∷ ps) d none = rw (none 0 (omega arith)) (ap (λ l. p ∷ l) (raised_none ps d (λ j le. none (suc j) (omega (arith, le)))))
