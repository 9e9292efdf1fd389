-- How many parts there can be on a side, and how many rows. Assumes nothing.
use Rattle.std.proofs.Common.{◌≡◌, ℕ, zero, suc, ◌+◌, ◌*◌, ◌<◌, ◌≤◌, min, Bool, true, false, cond, not, ◌&&◌, ◌||◌, eqb, List, [], ◌∷◌, length, filter, sym, refl, ◌∙◌, subst, mul-zero, mul-one, mul-add, arith}
use mathlib.Core.Bool.{false≢true}
use Rattle.std.specs.List.{AllByRecursion}
use Rattle.std.proofs.lemmas.List.{length-append}
use Rattle.std.proofs.lemmas.Bool.{eqb-true, eqb-false, eq-eqb, ne_eqb, and_parts}
use Rattle.std.proofs.ByRecursion.{All-weaker}
use Rattle.allocation.specs.Rankings.{TotalOrder}
use Rattle.rules.specs.declared.orders.Side.{Side}
use Rattle.rules.specs.declared.orders.Side.TheVariants.{Buy, Sell}
use Rattle.rules.specs.declared.orders.Order.{Order}
use Rattle.rules.specs.declared.orders.Part.{Part}
use Rattle.rules.specs.declared.phases.Step.{Step}
use Rattle.rules.specs.declared.answers.Row.TheVariants.{Trade}
use Rattle.rules.specs.Lists.{Distinct, sum_of, has}
use Rattle.rules.specs.Books.{Level, same_side, Ranking}
use Rattle.rules.specs.Trading.{taken}
use Rattle.rules.specs.Rules.{holds, empty, row_traded}
use Rattle.rules.specs.Tables.{has_step}
use Rattle.rules.specs.OrderLaw.{of_step, untraded, at_level, at_levels, Reached, rows_for}
use Rattle.rules.specs.Invariants.{parts_of, listed, Orderly, prices, numbers, BestFirst}
use Rattle.rules.specs.Sizes.{parts_on, parts_at}
use Rattle.rules.proofs.Crossing.{Fine}
use Rattle.rules.proofs.Spots.{sorted_once}
use Rattle.rules.proofs.Listing.{Unique, unique_each, listed_number}

-- ## An order's parts on a side

abbrev pub order_at : ℕ → Level → ℕ
order_at n l = parts_of n l.shown.parts + parts_of n l.hidden.parts

none_there : (es : List Order) (s : Side) (v : ℕ) (e : Order) (ps : List Part) → Unique es e → (same_side e.side s && eqb e.price v) ≡ false → AllByRecursion (λ p. listed es s v p ≡ true) ps → parts_of e.number ps ≡ 0
none_there es s v e [] u ne h = refl
none_there es s v e (p ∷ ps) u ne h =
    let apart : eqb p.order e.number ≡ false = ne_eqb p.order e.number (λ same.
    (let b = u s v p h.0 same in
    false≢true (sym ne ∙ (and_parts (eqb p.participant e.participant) _ (and_parts (eqb e.number p.order) _ b).1).1))) in
    rw apart (omega (arith, none_there es s v e ps u ne h.1))

elsewhere_none : (es : List Order) (s : Side) (e : Order) (l : Level) → Unique es e → (same_side e.side s && eqb e.price l.price) ≡ false → Orderly es s l → order_at e.number l ≡ 0
elsewhere_none es s e l u ne o = omega (arith, none_there es s l.price e l.shown.parts u ne o.0.listed, none_there es s l.price e l.hidden.parts u ne o.1.listed)

-- what is counted at one price alone is counted once
one_price : (g : Level → ℕ) (k v : ℕ) (ls : List Level) → Distinct (prices ls) → AllByRecursion (λ l. (g l ≤ k) × (eqb v l.price ≡ false → g l ≡ 0)) ls → (sum_of g ls ≤ k) × (has v (prices ls) ≡ false → sum_of g ls ≡ 0)
one_price g k v [] d h = (omega arith, λ _. refl)
one_price g k v (l ∷ ls) d h = go (eqb l.price v) refl (one_price g k v ls d.1 h.1)
  where
    go : (t : Bool) → eqb l.price v ≡ t → (sum_of g ls ≤ k) × (has v (prices ls) ≡ false → sum_of g ls ≡ 0) → (g l + sum_of g ls ≤ k) × ((t || has v (prices ls)) ≡ false → g l + sum_of g ls ≡ 0)
    go true z ih =
        let rest = ih.1 (subst (λ v. has v (prices ls) ≡ false) (eqb-true l.price v z) d.0) in
        (omega (arith, h.0.0), λ w. absurd (false≢true (sym w)))
    go false z ih =
        let none_here = h.0.1 (ne_eqb v l.price (λ e. eqb-false l.price v z (sym e))) in
        (omega (arith, ih.0), λ w. (let i = ih.1 w in omega arith))

-- an order's count g on its own side, and none on the other
order_on : (es : List Order) (s : Side) (e : Order) (g : Level → ℕ) (k : ℕ) (ls : List Level) → Unique es e → Distinct (prices ls) → AllByRecursion (Orderly es s) ls
    → ((l : Level) → Orderly es s l → (g l ≤ k) × (order_at e.number l ≡ 0 → g l ≡ 0)) → sum_of g ls ≤ cond (same_side e.side s) k 0
order_on es s e g k ls u d h step = go (same_side e.side s) refl
  where
    go : (t : Bool) → same_side e.side s ≡ t → sum_of g ls ≤ cond t k 0
    go true z = (one_price g k e.price ls d (All-weaker (Orderly es s) (λ l. (g l ≤ k) × (eqb e.price l.price ≡ false → g l ≡ 0)) (λ l o. ((step l o).0, λ ne. (step l o).1 (elsewhere_none es s e l u (rw (z, ne)) o))) ls h)).0
    go false z = nothing ls (All-weaker (Orderly es s) (λ l. g l ≡ 0) (λ l o. (step l o).1 (elsewhere_none es s e l u (rw z) o)) ls h)
      where
        nothing : (ls : List Level) → AllByRecursion (λ l. g l ≡ 0) ls → sum_of g ls ≤ 0
        nothing [] a = omega arith
        nothing (l ∷ ls) a = omega (arith, a.0, nothing ls a.1)

-- ## All orders' parts

sum_both : {A : Type 0} (f g : A → ℕ) (xs : List A) → sum_of (λ x. f x + g x) xs ≡ sum_of f xs + sum_of g xs
sum_both f g [] = refl
sum_both f g (x ∷ xs) = omega (arith, sum_both f g xs)

named : (n : ℕ) (es : List Order) → has n (numbers es) ≡ true → 1 ≤ sum_of (λ e. cond (eqb n e.number) 1 0) es
named n [] h = absurd (false≢true h)
named n (e ∷ es) h = go (eqb e.number n) refl h (named n es)
  where
    go : (t : Bool) → eqb e.number n ≡ t → (t || has n (numbers es)) ≡ true → (has n (numbers es) ≡ true → 1 ≤ sum_of (λ e. cond (eqb n e.number) 1 0) es) → 1 ≤ cond (eqb n e.number) 1 0 + sum_of (λ e. cond (eqb n e.number) 1 0) es
    go true z h ih = rw (eq-eqb n e.number (sym (eqb-true e.number n z))) (omega arith)
    go false z h ih = omega (arith, ih h)

no_sum : (es : List Order) → sum_of (λ (_ : Order). 0) es ≡ 0
no_sum [] = refl
no_sum (e ∷ es) = omega (arith, no_sum es)

parts_counted : (es : List Order) (s : Side) (v : ℕ) (ps : List Part) → AllByRecursion (λ p. listed es s v p ≡ true) ps → length ps ≤ sum_of (λ e. parts_of e.number ps) es
parts_counted es s v [] h = omega (arith, no_sum es)
parts_counted es s v (p ∷ ps) h =
    omega (
      arith,
      named p.order es (listed_number es s v p h.0),
      parts_counted es s v ps h.1,
      sum_both (λ e. cond (eqb p.order e.number) 1 0) (λ e. parts_of e.number ps) es,
    )

levels_counted : (es : List Order) (s : Side) (ls : List Level) → AllByRecursion (Orderly es s) ls → parts_on ls ≤ sum_of (λ e. sum_of (order_at e.number) ls) es
levels_counted es s [] h = omega (arith, no_sum es)
levels_counted es s (l ∷ ls) h =
    omega (
      arith,
      parts_counted es s l.price l.shown.parts h.0.0.listed,
      parts_counted es s l.price l.hidden.parts h.0.1.listed,
      sum_both (λ e. parts_of e.number l.shown.parts) (λ e. parts_of e.number l.hidden.parts) es,
      levels_counted es s ls h.1,
      sum_both (λ e. order_at e.number l) (λ e. sum_of (order_at e.number) ls) es,
    )

each_few : (f : Order → ℕ) (k : ℕ) (es : List Order) → AllByRecursion (λ e. f e ≤ k) es → sum_of f es ≤ k * length es
each_few f k [] h = omega (arith, mul-zero k)
each_few f k (e ∷ es) h = omega (arith, h.0, each_few f k es h.1, mul-add k 1 (length es), mul-one k)

pub order_few : (es : List Order) (s : Side) (e : Order) (ls : List Level) → Unique es e → Distinct (prices ls) → AllByRecursion (Orderly es s) ls → sum_of (order_at e.number) ls ≤ cond (same_side e.side s) 3 0
order_few es s e ls u d h = order_on es s e (order_at e.number) 3 ls u d h (λ l o. (omega (arith, o.0.few e.number, o.1.few e.number), λ z. z))

one_side : (t : Side) (k : ℕ) → cond (same_side t Buy) k 0 + cond (same_side t Sell) k 0 ≡ k
one_side Buy k = omega arith
one_side Sell k = omega arith

side_le : (t s : Side) (k : ℕ) → cond (same_side t s) k 0 ≤ k
side_le Buy Buy k = omega arith
side_le Buy Sell k = omega arith
side_le Sell Buy k = omega arith
side_le Sell Sell k = omega arith

-- a side holds three parts an order at most
pub few_parts : (rank : Ranking) (O : TotalOrder rank.good) (es : List Order) (s : Side) (ls : List Level) → Distinct (numbers es) → BestFirst rank s (prices ls) → AllByRecursion (Orderly es s) ls → parts_on ls ≤ 3 * length es
few_parts rank O es s ls d o h =
    let each : AllByRecursion (λ e. sum_of (order_at e.number) ls ≤ 3) es = All-weaker (Unique es) (λ e. sum_of (order_at e.number) ls ≤ 3) (λ e u. omega (arith, order_few es s e ls u (sorted_once rank O s (prices ls) o) h, side_le e.side s 3)) es (unique_each es d) in
    omega (arith, levels_counted es s ls h, each_few (λ e. sum_of (order_at e.number) ls) 3 es each)

-- and so do both sides together
pub few_in_all : (rank : Ranking) (O : TotalOrder rank.good) (es : List Order) (bs ss : List Level) → Distinct (numbers es) → BestFirst rank Buy (prices bs) → BestFirst rank Sell (prices ss) → AllByRecursion (Orderly es Buy) bs → AllByRecursion (Orderly es Sell) ss
    → parts_on bs + parts_on ss ≤ 3 * length es
few_in_all rank O es bs ss d ob os hb hs =
    let f : Order → ℕ = λ e. sum_of (order_at e.number) bs in
    let g : Order → ℕ = λ e. sum_of (order_at e.number) ss in
    let each : AllByRecursion (λ e. f e + g e ≤ 3) es = All-weaker (Unique es) (λ e. f e + g e ≤ 3)
    (λ e u. omega (arith, order_few es Buy e bs u (sorted_once rank O Buy (prices bs) ob) hb, order_few es Sell e ss u (sorted_once rank O Sell (prices ss) os) hs, one_side e.side 3)) es (unique_each es d) in
    omega (arith, levels_counted es Buy bs hb, levels_counted es Sell ss hs, sum_both f g es, each_few (λ e. f e + g e) 3 es each)

-- ## Levels

-- whether an order has a part at a price
abbrev there : ℕ → Level → ℕ
there n l = min 1 (order_at n l)

someone : (es : List Order) (s : Side) (l : Level) → holds l ≡ true → Orderly es s l → 1 ≤ sum_of (λ e. there e.number l) es
someone es s l h o = at_least (λ e. order_at e.number l) es
    (let a = parts_counted es s l.price l.shown.parts o.0.listed in
    let b = parts_counted es s l.price l.hidden.parts o.1.listed in
    omega (arith, sum_both (λ e. parts_of e.number l.shown.parts) (λ e. parts_of e.number l.hidden.parts) es, some l.shown.parts l.hidden.parts h))
  where
    at_least : (f : Order → ℕ) (es : List Order) → 1 ≤ sum_of f es → 1 ≤ sum_of (λ e. min 1 (f e)) es
    at_least f [] h = h
    at_least f (e ∷ es) h = go (f e) h (at_least f es)
      where
        go : (n : ℕ) → 1 ≤ n + sum_of f es → (1 ≤ sum_of f es → 1 ≤ sum_of (λ e. min 1 (f e)) es) → 1 ≤ min 1 n + sum_of (λ e. min 1 (f e)) es
        go zero h ih = omega (arith, ih (omega arith))
        go (suc n) h ih = omega arith

    some : (ps qs : List Part) → not (empty ps && empty qs) ≡ true → 1 ≤ length ps + length qs
    some [] [] h = absurd (false≢true h)
    some [] (q ∷ qs) h = omega arith
    some (p ∷ ps) qs h = omega arith

levels_named : (es : List Order) (s : Side) (ls : List Level) → AllByRecursion (λ l. holds l ≡ true) ls → AllByRecursion (Orderly es s) ls → length ls ≤ sum_of (λ e. sum_of (there e.number) ls) es
levels_named es s [] h o = omega (arith, no_sum es)
levels_named es s (l ∷ ls) h o =
    omega (arith, someone es s l h.0 o.0, levels_named es s ls h.1 o.1, sum_both (λ e. there e.number l) (λ e. sum_of (there e.number) ls) es)

-- a price an order at most
pub few_levels : (rank : Ranking) (O : TotalOrder rank.good) (es : List Order) (bs ss : List Level) → Distinct (numbers es) → BestFirst rank Buy (prices bs) → BestFirst rank Sell (prices ss) → AllByRecursion (λ l. holds l ≡ true) bs → AllByRecursion (λ l. holds l ≡ true) ss → AllByRecursion (Orderly es Buy) bs → AllByRecursion (Orderly es Sell) ss
    → length bs + length ss ≤ length es
few_levels rank O es bs ss d ob os fb fs hb hs =
    let f : Order → ℕ = λ e. sum_of (there e.number) bs in
    let g : Order → ℕ = λ e. sum_of (there e.number) ss in
    let one : (n : ℕ) (l : Level) → (there n l ≤ 1) × (order_at n l ≡ 0 → there n l ≡ 0) = λ n l. (omega arith, λ z. omega arith) in
    let each : AllByRecursion (λ e. f e + g e ≤ 1) es = All-weaker (Unique es) (λ e. f e + g e ≤ 1)
    (λ e u. omega (arith, order_on es Buy e (there e.number) 1 bs u (sorted_once rank O Buy (prices bs) ob) hb (λ l o. one e.number l), order_on es Sell e (there e.number) 1 ss u (sorted_once rank O Sell (prices ss) os) hs (λ l o. one e.number l), one_side e.side 1)) es (unique_each es d) in
    omega (arith, levels_named es Buy bs fb hb, levels_named es Sell ss fs hs, sum_both f g es, each_few (λ e. f e + g e) 1 es each)

-- ## Parts in reach

pub split_length : {X : Type 0} (t : X → Bool) (xs : List X) → length (filter t xs) + length (filter (λ x. not (t x)) xs) ≡ length xs
split_length t [] = refl
split_length t (x ∷ xs) = go (t x) (split_length t xs)
  where
    go : (u : Bool) → length (filter t xs) + length (filter (λ x. not (t x)) xs) ≡ length xs
        → length (cond u (x ∷ filter t xs) (filter t xs)) + length (cond (not u) (x ∷ filter (λ x. not (t x)) xs) (filter (λ x. not (t x)) xs)) ≡ length (x ∷ xs)
    go true ih = omega arith
    go false ih = omega arith

-- how many parts a step has, where it is in the table
abbrev share_in : Bool → ℕ → List Step → Level → Step → ℕ
share_in t lot ss l s = cond (has_step s ss) (length (of_step t lot s l)) 0

met_length : (v : ℕ) (s : Step) (ps : List Part) → length (untraded v s ps) ≡ length ps
met_length v s [] = refl
met_length v s (p ∷ ps) = omega (arith, met_length v s ps)

level_mets : (t : Bool) (lot : ℕ) (ss : List Step) (l : Level) → Fine ss → length (at_level t lot ss l) ≤ share_in t lot ss l Step.Setter + (share_in t lot ss l Step.Displayed + share_in t lot ss l Step.Hidden)
level_mets t lot [] l f = omega arith
level_mets t lot (Step.Setter ∷ ss) l f =
    let a = length-append (untraded l.price Step.Setter (of_step t lot Step.Setter l)) (at_level t lot ss l) in
    let m = met_length l.price Step.Setter (of_step t lot Step.Setter l) in
    let ih = rw f.0 at (level_mets t lot ss l f.1) in
    omega arith
level_mets t lot (Step.Displayed ∷ ss) l f =
    let a = length-append (untraded l.price Step.Displayed (of_step t lot Step.Displayed l)) (at_level t lot ss l) in
    let m = met_length l.price Step.Displayed (of_step t lot Step.Displayed l) in
    let ih = rw f.0 at (level_mets t lot ss l f.2) in
    omega arith
level_mets t lot (Step.Hidden ∷ ss) l f =
    let a = length-append (untraded l.price Step.Hidden (of_step t lot Step.Hidden l)) (at_level t lot ss l) in
    let m = met_length l.price Step.Hidden (of_step t lot Step.Hidden l) in
    let ih = rw f.0 at (level_mets t lot ss l f.1) in
    omega arith

share_le : (u : Bool) (n : ℕ) → cond u n 0 ≤ n
share_le true n = omega arith
share_le false n = omega arith

level_few : (t : Bool) (lot : ℕ) (ss : List Step) (l : Level) → Fine ss → length (at_level t lot ss l) ≤ parts_at l
level_few t lot ss l f =
    omega (
      arith,
      level_mets t lot ss l f,
      share_le (has_step Step.Setter ss) (length (of_step t lot Step.Setter l)),
      share_le (has_step Step.Displayed ss) (length (of_step t lot Step.Displayed l)),
      share_le (has_step Step.Hidden ss) (length l.hidden.parts),
      shown (t && taken lot l),
    )
  where
    shown : (u : Bool) → length (cond u (filter (λ p. p.marked) l.shown.parts) []) + length (cond u (filter (λ p. not p.marked) l.shown.parts) l.shown.parts) ≡ length l.shown.parts
    shown true = split_length (λ p. p.marked) l.shown.parts
    shown false = omega arith

pub reach_few : (lot : ℕ) (ss : List Step) (g : Level → Bool) (ls : List Level) → Fine ss → length (at_levels lot ss (filter g ls)) ≤ parts_on ls
reach_few lot ss g [] f = omega arith
reach_few lot ss g (l ∷ ls) f = go (g l) (reach_few lot ss g ls f)
  where
    go : (t : Bool) → length (at_levels lot ss (filter g ls)) ≤ parts_on ls → length (at_levels lot ss (cond t (l ∷ filter g ls) (filter g ls))) ≤ parts_at l + parts_on ls
    go true ih = omega (arith, length-append (at_level (has_step Step.Setter ss) lot ss l) (at_levels lot ss (filter g ls)), level_few (has_step Step.Setter ss) lot ss l f)
    go false ih = omega arith

pub rows_few : (a : ℕ) (ms : List Reached) → length (rows_for a ms) ≤ length ms
rows_few a [] = omega arith
rows_few a (m ∷ ms) = go (eqb m.share 0) (rows_few a ms)
  where
    go : (t : Bool) → length (rows_for a ms) ≤ length ms → length (cond t (rows_for a ms) (Trade m.step m.order a m.price m.share ∷ rows_for a ms)) ≤ length (m ∷ ms)
    go true ih = omega arith
    go false ih = omega arith

pub rows_some : (a : ℕ) (ms : List Reached) → AllByRecursion (λ r. 0 < row_traded r) (rows_for a ms)
rows_some a [] = tt
rows_some a (m ∷ ms) = go (eqb m.share 0) refl (rows_some a ms)
  where
    go : (t : Bool) → eqb m.share 0 ≡ t → AllByRecursion (λ r. 0 < row_traded r) (rows_for a ms) → AllByRecursion (λ r. 0 < row_traded r) (cond t (rows_for a ms) (Trade m.step m.order a m.price m.share ∷ rows_for a ms))
    go true e ih = ih
    go false e ih = (omega (arith, eqb-false m.share 0 e), ih)
