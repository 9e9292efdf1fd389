-- Stages in a row, and the order of trades that they give. Assumes nothing.
use Rattle.std.proofs.Common.{◌≡◌, ℕ, zero, suc, ◌+◌, ◌<◌, ◌≤◌, Bool, true, false, cond, ◌||◌, eqb, ◌⊎◌, List, [], ◌∷◌, ◌++◌, map, sym, refl, ap, ◌∙◌, subst, inl, inr, arith}
use mathlib.Core.Bool.{false≢true}
use Rattle.std.specs.List.{AllByRecursion}
use Rattle.std.proofs.ByRecursion.{All-append, All-weaker}
use Rattle.allocation.specs.Rankings.{TotalOrder}
use Rattle.allocation.specs.Dealings.{sum}
use Rattle.rules.specs.declared.orders.Side.{Side}
use Rattle.rules.specs.declared.orders.Part.{Part}
use Rattle.rules.specs.declared.phases.Step.{Step}
use Rattle.rules.specs.declared.answers.Row.TheVariants.{Trade}
use Rattle.rules.specs.Lists.{sum_of}
use Rattle.rules.specs.Books.{Ranking, good, same_side, better}
use Rattle.rules.specs.Trading.{rows_of}
use Rattle.rules.specs.Tables.{place_of}
use Rattle.rules.specs.OrderLaw.{Reached, reached_part, forget, untraded, rows_for, Better}
use Rattle.rules.proofs.Amounts.{AtMost}
use Rattle.rules.proofs.Members.{sum_of_append, all_both, always_by}
use Rattle.rules.proofs.Stages.{amount, Stage, at_most_amount}

abbrev pub meet : ℕ → Step → List Part → List ℕ → List Reached
meet v s [] xs = []
meet v s (p ∷ ps) [] = reached_part v s p.order p.quantity 0 ∷ meet v s ps []
meet v s (p ∷ ps) (x ∷ xs) = reached_part v s p.order p.quantity x ∷ meet v s ps xs

pub record Group : Type 0 where
  pub price : ℕ
  pub step : Step
  pub parts : List Part
  pub xs : List ℕ

abbrev pub reached : List Group → List Reached
reached [] = []
reached (g ∷ gs) = meet g.price g.step g.parts g.xs ++ reached gs

abbrev pub Chain : ℕ → List Group → ℕ → Type 0
Chain q [] left = q ≡ left
Chain q (g ∷ gs) left = (m : ℕ) × Stage q g.parts g.xs m × Chain m gs left

-- ## One group

meet_within : (v : ℕ) (s : Step) (ps : List Part) (xs : List ℕ) → AtMost xs ps → AllByRecursion (λ x. x.share ≤ x.size) (meet v s ps xs)
meet_within v s [] xs h = tt
meet_within v s (p ∷ ps) [] h = (omega arith, meet_within v s ps [] tt)
meet_within v s (p ∷ ps) (x ∷ xs) h = (h.0, meet_within v s ps xs h.1)

meet_full : (v : ℕ) (s : Step) (ps : List Part) (xs : List ℕ) → AtMost xs ps → sum xs ≡ amount ps → AllByRecursion (λ x. x.share ≡ x.size) (meet v s ps xs)
meet_full v s [] xs h e = tt
meet_full v s (p ∷ ps) [] h e = (omega arith, meet_full v s ps [] tt (omega arith))
meet_full v s (p ∷ ps) (x ∷ xs) h e = let l = at_most_amount ps xs h.1 in let k = h.0 in (omega arith, meet_full v s ps xs h.1 (omega arith))

meet_sum : (v : ℕ) (s : Step) (ps : List Part) (xs : List ℕ) → AtMost xs ps → sum_of (λ x. x.share) (meet v s ps xs) ≡ sum xs
meet_sum v s [] [] h = refl
meet_sum v s [] (x ∷ xs) h = absurd h
meet_sum v s (p ∷ ps) [] h = omega (arith, meet_sum v s ps [] tt)
meet_sum v s (p ∷ ps) (x ∷ xs) h = omega (arith, meet_sum v s ps xs h.1)

meet_small : (v : ℕ) (s : Step) (ps : List Part) (xs : List ℕ) → AllByRecursion (λ x. x.share ≤ sum xs) (meet v s ps xs)
meet_small v s [] xs = tt
meet_small v s (p ∷ ps) [] = (omega arith, meet_small v s ps [])
meet_small v s (p ∷ ps) (x ∷ xs) = (omega arith, All-weaker (λ y. y.share ≤ sum xs) (λ y. y.share ≤ x + sum xs) (λ y h. omega arith) (meet v s ps xs) (meet_small v s ps xs))

meet_label : (v : ℕ) (s : Step) (ps : List Part) (xs : List ℕ) → AllByRecursion (λ x. (x.price ≡ v) × (x.step ≡ s)) (meet v s ps xs)
meet_label v s [] xs = tt
meet_label v s (p ∷ ps) [] = ((refl, refl), meet_label v s ps [])
meet_label v s (p ∷ ps) (x ∷ xs) = ((refl, refl), meet_label v s ps xs)

pub meet_forget : (v : ℕ) (s : Step) (ps : List Part) (xs : List ℕ) → map forget (meet v s ps xs) ≡ untraded v s ps
meet_forget v s [] xs = refl
meet_forget v s (p ∷ ps) [] = ap (λ l. reached_part v s p.order p.quantity 0 ∷ l) (meet_forget v s ps [])
meet_forget v s (p ∷ ps) (x ∷ xs) = ap (λ l. reached_part v s p.order p.quantity 0 ∷ l) (meet_forget v s ps xs)

pub meet_rows : (a v : ℕ) (s : Step) (ps : List Part) (xs : List ℕ) → rows_for a (meet v s ps xs) ≡ rows_of s a v ps xs
meet_rows a v s [] xs = refl
meet_rows a v s (p ∷ ps) [] = meet_rows a v s ps [] ∙ none ps
  where
    none : (ps : List Part) → rows_of s a v ps [] ≡ []
    none [] = refl
    none (p ∷ ps) = refl
meet_rows a v s (p ∷ ps) (x ∷ xs) = rw (meet_rows a v s ps xs)

pub rows_for_append : (a : ℕ) (xs ys : List Reached) → rows_for a (xs ++ ys) ≡ rows_for a xs ++ rows_for a ys
rows_for_append a [] ys = refl
rows_for_append a (x ∷ xs) ys = go (eqb x.share 0) (rows_for_append a xs ys)
  where
    go : (t : Bool) → rows_for a (xs ++ ys) ≡ rows_for a xs ++ rows_for a ys
        → cond t (rows_for a (xs ++ ys)) (Trade x.step x.order a x.price x.share ∷ rows_for a (xs ++ ys)) ≡ cond t (rows_for a xs) (Trade x.step x.order a x.price x.share ∷ rows_for a xs) ++ rows_for a ys
    go true ih = ih
    go false ih = rw ih

-- ## A chain

chain_less : (q : ℕ) (gs : List Group) (left : ℕ) → Chain q gs left → left ≤ q
chain_less q [] left h = omega arith
chain_less q (g ∷ gs) left h = omega (arith, h.1.spent, chain_less h.0 gs left h.2)

pub chain_append : (q m left : ℕ) (gs hs : List Group) → Chain q gs m → Chain m hs left → Chain q (gs ++ hs) left
chain_append q m left [] hs h k = subst (λ n. Chain n hs left) (sym h) k
chain_append q m left (g ∷ gs) hs h k = (h.0, h.1, chain_append h.0 m left gs hs h.2 k)

chain_small : (q : ℕ) (gs : List Group) (left : ℕ) → Chain q gs left → AllByRecursion (λ x. x.share ≤ q) (reached gs)
chain_small q [] left h = tt
chain_small q (g ∷ gs) left h =
    let e = h.1.spent in
    All-append (λ x. x.share ≤ q) (meet g.price g.step g.parts g.xs) (reached gs)
    (All-weaker (λ y. y.share ≤ sum g.xs) (λ y. y.share ≤ q) (λ y k. omega arith) (meet g.price g.step g.parts g.xs) (meet_small g.price g.step g.parts g.xs))
    (All-weaker (λ y. y.share ≤ h.0) (λ y. y.share ≤ q) (λ y k. omega arith) (reached gs) (chain_small h.0 gs left h.2))

pub chain_within : (q : ℕ) (gs : List Group) (left : ℕ) → Chain q gs left → AllByRecursion (λ x. x.share ≤ x.size) (reached gs)
chain_within q [] left h = tt
chain_within q (g ∷ gs) left h =
    All-append (λ x. x.share ≤ x.size) (meet g.price g.step g.parts g.xs) (reached gs)
    (meet_within g.price g.step g.parts g.xs h.1.at_most) (chain_within h.0 gs left h.2)

pub chain_full : (q : ℕ) (gs : List Group) (left : ℕ) → Chain q gs left → 0 < left → AllByRecursion (λ x. x.share ≡ x.size) (reached gs)
chain_full q [] left h some = tt
chain_full q (g ∷ gs) left h some =
    let l = chain_less h.0 gs left h.2 in
    All-append (λ x. x.share ≡ x.size) (meet g.price g.step g.parts g.xs) (reached gs)
    (meet_full g.price g.step g.parts g.xs h.1.at_most (h.1.full (omega arith))) (chain_full h.0 gs left h.2 some)

pub chain_sum : (q : ℕ) (gs : List Group) (left : ℕ) → Chain q gs left → sum_of (λ x. x.share) (reached gs) + left ≡ q
chain_sum q [] left h = omega arith
chain_sum q (g ∷ gs) left h =
    omega (
      arith,
      sum_of_append (λ x. x.share) (meet g.price g.step g.parts g.xs) (reached gs),
      meet_sum g.price g.step g.parts g.xs h.1.at_most,
      h.1.spent,
      chain_sum h.0 gs left h.2,
    )

-- ## Rankings, for either side

or_either : (x y : Bool) → (x ≡ true) ⊎ (y ≡ true) → (x || y) ≡ true
or_either true y h = refl
or_either false y (inl h) = absurd (false≢true h)
or_either false y (inr h) = h

module _ (rank : Ranking) (O : TotalOrder rank.good) where
  pub good_total : (s : Side) (a b : ℕ) → (good rank s a b || good rank s b a) ≡ true
  good_total s a b = go (same_side s rank.letter)
    where
      go : (t : Bool) → (cond t (rank.good a b) (rank.good b a) || cond t (rank.good b a) (rank.good a b)) ≡ true
      go true = or_either (rank.good a b) (rank.good b a) (O.either a b)
      go false = or_either (rank.good b a) (rank.good a b) (O.either b a)

  pub good_chain : (s : Side) (a b c : ℕ) → good rank s a b ≡ true → good rank s b c ≡ true → good rank s a c ≡ true
  good_chain s a b c = go (same_side s rank.letter)
    where
      go : (t : Bool) → cond t (rank.good a b) (rank.good b a) ≡ true → cond t (rank.good b c) (rank.good c b) ≡ true → cond t (rank.good a c) (rank.good c a) ≡ true
      go true h k = O.along a b c h k
      go false h k = O.along c b a k h

  pub good_same : (s : Side) (a b : ℕ) → good rank s a b ≡ true → good rank s b a ≡ true → a ≡ b
  good_same s a b = go (same_side s rank.letter)
    where
      go : (t : Bool) → cond t (rank.good a b) (rank.good b a) ≡ true → cond t (rank.good b a) (rank.good a b) ≡ true → a ≡ b
      go true h k = O.same a b h k
      go false h k = O.same a b k h

  -- a strictly better price is not the same, nor worse
  pub not_itself : (s : Side) (a b : ℕ) → a ≡ b → better rank s a b ≡ true → ⊥
  not_itself s a b e h = let t = good_total s b b in let k : better rank s b b ≡ true = subst (λ c. better rank s c b ≡ true) e h in let z : ◌≡◌ {A = ℕ} 0 1 = grind arith in omega arith

  pub not_both : (s : Side) (a b : ℕ) → better rank s a b ≡ true → better rank s b a ≡ true → ⊥
  not_both s a b h k = let t = good_total s a b in let z : ◌≡◌ {A = ℕ} 0 1 = grind arith in omega arith

  -- ## The order of trades

  abbrev pub Ahead : Side → List Step → Group → Group → Type 0
  Ahead s table g h = (better rank s g.price h.price ≡ true) ⊎ ((g.price ≡ h.price) × (place_of table g.step < place_of table h.step))

  abbrev pub Ordered : Side → List Step → List Group → Type 0
  Ordered s table [] = Unit {0}
  Ordered s table (g ∷ gs) = AllByRecursion (Ahead s table g) gs × Ordered s table gs

  label_never : (s : Side) (a b i j : ℕ) → (better rank s a b ≡ true) ⊎ ((a ≡ b) × (i < j)) → (better rank s b a ≡ true) ⊎ ((b ≡ a) × (j < i)) → ⊥
  label_never s a b i j (inl h) (inl k) = not_both s a b h k
  label_never s a b i j (inl h) (inr k) = not_itself s a b (sym k.0) h
  label_never s a b i j (inr h) (inl k) = not_itself s b a (sym h.0) k
  label_never s a b i j (inr h) (inr k) = omega (arith, h.1, k.1)

  abbrev Label : Group → Reached → Type 0
  Label g x = (x.price ≡ g.price) × (x.step ≡ g.step)

  -- what comes in a later group is not better
  never_before : (s : Side) (table : List Step) (g h : Group) (x y : Reached) → Ahead s table g h → Label g y → Label h x → Better rank s table x y → ⊥
  never_before s table g h x y ahead ly lx b = label_never s y.price x.price (place_of table y.step) (place_of table x.step) (conv ahead) b
    where
      conv : Ahead s table g h → (better rank s y.price x.price ≡ true) ⊎ ((y.price ≡ x.price) × (place_of table y.step < place_of table x.step))
      conv (inl k) = inl (rw (ly.0, lx.0) k)
      conv (inr k) = inr (ly.0 ∙ k.0 ∙ sym lx.0, rw (ly.1, lx.1) k.1)

  never_within : (s : Side) (table : List Step) (g : Group) (x y : Reached) → Label g y → Label g x → Better rank s table x y → ⊥
  never_within s table g x y ly lx (inl k) = not_itself s x.price y.price (lx.0 ∙ sym ly.0) k
  never_within s table g x y ly lx (inr k) = let e : x.step ≡ y.step = lx.1 ∙ sym ly.1 in let z = rw e at k.1 in omega arith

  abbrev Right : Side → List Step → Reached → Reached → Type 0
  Right s table y x = Better rank s table x y → 0 < y.share → x.share ≡ x.size

  -- all that stands in later groups, behind y of the group g
  behind : (s : Side) (table : List Step) (g : Group) (y : Reached) → Label g y → (hs : List Group) → AllByRecursion (Ahead s table g) hs → AllByRecursion (Right s table y) (reached hs)
  behind s table g y ly [] a = tt
  behind s table g y ly (h ∷ hs) a =
      All-append (Right s table y) (meet h.price h.step h.parts h.xs) (reached hs)
      (All-weaker (Label h) (Right s table y) (λ x lx b some. absurd (never_before s table g h x y a.0 ly lx b)) (meet h.price h.step h.parts h.xs) (meet_label h.price h.step h.parts h.xs))
      (behind s table g y ly hs a.1)

  pub chain_order : (s : Side) (table : List Step) (q : ℕ) (gs : List Group) (left : ℕ) → Chain q gs left → Ordered s table gs → AllByRecursion (λ y. AllByRecursion (Right s table y) (reached gs)) (reached gs)
  chain_order s table q [] left c o = tt
  chain_order s table q (g ∷ gs) left c o =
      let here : List Reached = meet g.price g.step g.parts g.xs in
      let label : AllByRecursion (Label g) here = meet_label g.price g.step g.parts g.xs in
      let small : AllByRecursion (λ y. y.share ≤ c.0) (reached gs) = chain_small c.0 gs left c.2 in
      let full : 0 < c.0 → AllByRecursion (λ x. x.share ≡ x.size) here = λ some. meet_full g.price g.step g.parts g.xs c.1.at_most (c.1.full some) in
      let ih : AllByRecursion (λ y. AllByRecursion (Right s table y) (reached gs)) (reached gs) = chain_order s table c.0 gs left c.2 o.1 in
      let first : (y : Reached) → Label g y → AllByRecursion (Right s table y) (here ++ reached gs) = λ y ly.
      All-append (Right s table y) here (reached gs) (All-weaker (Label g) (Right s table y) (λ x lx b some. absurd (never_within s table g x y ly lx b)) here label) (behind s table g y ly gs o.0) in
      let later : (y : Reached) → (y.share ≤ c.0) × AllByRecursion (Right s table y) (reached gs) → AllByRecursion (Right s table y) (here ++ reached gs) = λ y h.
      All-append (Right s table y) here (reached gs) (front s table y c.0 here h.0 full) h.1 in
      All-append (λ y. AllByRecursion (Right s table y) (here ++ reached gs)) here (reached gs)
      (All-weaker (Label g) (λ y. AllByRecursion (Right s table y) (here ++ reached gs)) first here label)
      (All-weaker (λ y. (y.share ≤ c.0) × AllByRecursion (Right s table y) (reached gs)) (λ y. AllByRecursion (Right s table y) (here ++ reached gs)) later (reached gs) (all_both (λ y. y.share ≤ c.0) (λ y. AllByRecursion (Right s table y) (reached gs)) (reached gs) small ih))
    where
      front : (s : Side) (table : List Step) (y : Reached) (m : ℕ) (here : List Reached) → y.share ≤ m → (0 < m → AllByRecursion (λ x. x.share ≡ x.size) here) → AllByRecursion (Right s table y) here
      front s table y zero here h full = always_by (Right s table y) (λ x b some. (let no_way : ⊥ = omega arith in absurd no_way)) here
      front s table y (suc m) here h full = All-weaker (λ x. x.share ≡ x.size) (Right s table y) (λ x e b some. e) here (full (omega arith))
