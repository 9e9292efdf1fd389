-- Orders by rising number, and what a sound book gives of its orders. Assumes nothing.
use Rattle.std.proofs.Common.{◌≡◌, ℕ, zero, suc, ◌+◌, ◌%◌, ◌<◌, ◌≤◌, Bool, true, false, cond, not, ◌&&◌, eqb, leb, List, [], ◌∷◌, ◌++◌, filter, sym, refl, ◌∙◌, subst, mod-eq_of_lt, arith}
use mathlib.Core.Bool.{false≢true}
use Rattle.std.specs.List.{AllByRecursion}
use Rattle.std.proofs.lemmas.Bool.{eqb-true, ne_eqb, and_parts, or_from, not-false, leb-true, leb-false}
use Rattle.std.proofs.ByRecursion.{All-weaker, All-push}
use Rattle.allocation.specs.Rankings.{TotalOrder}
use Rattle.rules.specs.declared.orders.Side.{Side}
use Rattle.rules.specs.declared.orders.Side.TheVariants.{Buy, Sell}
use Rattle.rules.specs.declared.orders.Order.{Order}
use Rattle.rules.specs.declared.orders.Part.{Part}
use Rattle.rules.specs.Lists.{has, Distinct}
use Rattle.rules.specs.Books.{Level, Book, Ranking}
use Rattle.rules.specs.Quantities.{of_order, of_side, of_level, resting}
use Rattle.rules.specs.Reserve.{is_reserve}
use Rattle.rules.specs.Refusals.{within}
use Rattle.rules.specs.Invariants.{Rising, numbers, listed, Orderly, Admitted, SoundBook}
use Rattle.rules.proofs.Members.{mapped_kept}
use Rattle.rules.proofs.Fits.{Displays, Fit}
use Rattle.rules.proofs.Rulings.{display_ok}
use Rattle.rules.proofs.Listing.{listed_number}
use Rattle.rules.proofs.Crossing.{fine_good}
use Rattle.rules.proofs.Ranked.{Ranked}

-- ## Rising numbers

pub rising_later : (i j : ℕ) (ns : List ℕ) → i ≤ j → Rising i ns → Rising j ns
rising_later i j [] le r = tt
rising_later i j (n ∷ ns) le r = (omega (arith, r.0), r.1, rising_later i j ns le r.2)

pub rising_push : (last k : ℕ) (ns : List ℕ) → last < k → Rising last ns → Rising k (ns ++ (k ∷ []))
rising_push last k [] lt r = (omega arith, tt, tt)
rising_push last k (n ∷ ns) lt r = (omega (arith, r.0), All-push (λ m. n < m) ns k r.1 (omega (arith, r.0)), rising_push last k ns lt r.2)

pub rising_kept : (last : ℕ) (g : Order → Bool) (es : List Order) → Rising last (numbers es) → Rising last (numbers (filter g es))
rising_kept last g [] r = tt
rising_kept last g (e ∷ es) r = go (g e) (rising_kept last g es r.2)
  where
    go : (t : Bool) → Rising last (numbers (filter g es)) → Rising last (numbers (cond t (e ∷ filter g es) (filter g es)))
    go true ih = (r.0, mapped_kept (λ e. e.number) (λ m. e.number < m) g es r.1, ih)
    go false ih = ih

above_unlisted : (n : ℕ) (ns : List ℕ) → AllByRecursion (λ m. n < m) ns → has n ns ≡ false
above_unlisted n [] h = refl
above_unlisted n (m ∷ ns) h = or_from (eqb m n) (has n ns) (ne_eqb m n (λ e. omega (arith, h.0))) (above_unlisted n ns h.1)

pub rising_distinct : (last : ℕ) (ns : List ℕ) → Rising last ns → Distinct ns
rising_distinct last [] r = tt
rising_distinct last (n ∷ ns) r = (above_unlisted n ns r.1, rising_distinct last ns r.2)

pub rising_unlisted : (last k : ℕ) (ns : List ℕ) → Rising last ns → last < k → has k ns ≡ false
rising_unlisted last k [] r lt = refl
rising_unlisted last k (n ∷ ns) r lt = or_from (eqb n k) (has k ns) (ne_eqb n k (λ e. omega (arith, r.0))) (rising_unlisted last k ns r.2 lt)

pub rising_below : (last k : ℕ) (es : List Order) → Rising last (numbers es) → last < k → AllByRecursion (λ e. eqb k e.number ≡ false) es
rising_below last k [] r lt = tt
rising_below last k (e ∷ es) r lt = (ne_eqb k e.number (λ z. omega (arith, r.0)), rising_below last k es r.2 lt)

-- ## What rests is listed

part_listed : (es : List Order) (s : Side) (v n : ℕ) (ps : List Part) → AllByRecursion (λ p. listed es s v p ≡ true) ps → 0 < of_order n ps → has n (numbers es) ≡ true
part_listed es s v n [] h some = let no_way : ⊥ = omega arith in absurd no_way
part_listed es s v n (p ∷ ps) h some = go (eqb p.order n) refl some (part_listed es s v n ps h.1)
  where
    go : (t : Bool) → eqb p.order n ≡ t → 0 < cond t p.quantity 0 + of_order n ps → (0 < of_order n ps → has n (numbers es) ≡ true) → has n (numbers es) ≡ true
    go true e some ih = subst (λ k. has k (numbers es) ≡ true) (eqb-true p.order n e) (listed_number es s v p h.0)
    go false e some ih = ih (omega arith)

pub some_of_two : (a b : ℕ) (X : Type 0) → 0 < a + b → (0 < a → X) → (0 < b → X) → X
some_of_two zero b X h f g = g (omega arith)
some_of_two (suc a) b X h f g = f (omega arith)

side_listed : (es : List Order) (s : Side) (n : ℕ) (ls : List Level) → AllByRecursion (Orderly es s) ls → 0 < of_side n ls → has n (numbers es) ≡ true
side_listed es s n [] h some = let no_way : ⊥ = omega arith in absurd no_way
side_listed es s n (l ∷ ls) h some =
    some_of_two (of_level n l) (of_side n ls) (has n (numbers es) ≡ true) some
    (λ here. some_of_two (of_order n l.shown.parts) (of_order n l.hidden.parts) (has n (numbers es) ≡ true) here
    (part_listed es s l.price n l.shown.parts h.0.0.listed) (part_listed es s l.price n l.hidden.parts h.0.1.listed))
    (side_listed es s n ls h.1)

pub resting_listed : (es : List Order) (n : ℕ) (b : Book) → AllByRecursion (Orderly es Buy) b.buys × AllByRecursion (Orderly es Sell) b.sells → 0 < resting n b → has n (numbers es) ≡ true
resting_listed es n b h some = some_of_two (of_side n b.buys) (of_side n b.sells) (has n (numbers es) ≡ true) some (side_listed es Buy n b.buys h.0) (side_listed es Sell n b.sells h.1)

-- ## What came with an order

pub admitted_displays : (lot : ℕ) (e : Order) → Admitted lot e → Displays e
admitted_displays lot e a = display_ok lot e.kind e.quantity e.display a.display

-- a reserve order displays a round lot at least
pub display_enough : (lot : ℕ) (e : Order) → 0 < lot → Admitted lot e → is_reserve e.kind ≡ true → lot ≤ e.display
display_enough lot e pos a r = go (leb lot e.display) refl
  where
    some : 0 < e.display
    some = admitted_displays lot e a r

    even : e.display % lot ≡ 0
    even =
        let b : not (within 1 e.quantity e.display && eqb (e.display % lot) 0) ≡ false = rw r at a.display in
        eqb-true (e.display % lot) 0 (and_parts (within 1 e.quantity e.display) (eqb (e.display % lot) 0) (not-false _ b)).1

    go : (t : Bool) → leb lot e.display ≡ t → lot ≤ e.display
    go true h = leb-true lot e.display h
    go false h = let small = leb-false lot e.display h in let no_way : ⊥ = omega (arith, mod-eq_of_lt small, even, some) in absurd no_way

-- ## A sound book is fit, and its levels are sorted

pub sound_ranked : (rank : Ranking) (O : TotalOrder rank.good) (b : Book) → SoundBook rank b → Ranked rank O b
sound_ranked rank O b s = record { steps = fine_good b.steps s.table; buys = s.buys.sorted; sells = s.sells.sorted }

pub sound_fit : (rank : Ranking) (b : Book) → SoundBook rank b → Fit b.lot b
sound_fit rank b s =
    record {
      pos = s.lot;
      sides = record { is = refl; buys = s.buys.sound; sells = s.sells.sound };
      displays = All-weaker (Admitted b.lot) Displays (λ e a. admitted_displays b.lot e a) b.orders s.admitted;
      covered = covered;
      once = rising_distinct b.last (numbers b.orders) s.rising;
      fresh = λ n h. zero_if (resting n b) (λ some. false≢true (sym (rising_unlisted b.last n (numbers b.orders) s.rising h) ∙ covered n some));
      unlisted = λ n h. rising_unlisted b.last n (numbers b.orders) s.rising h;
    }
  where
    covered : (n : ℕ) → 0 < resting n b → has n (numbers b.orders) ≡ true
    covered n h = resting_listed b.orders n b (s.buys.orderly, s.sells.orderly) h

    zero_if : (k : ℕ) → (0 < k → ⊥) → k ≡ 0
    zero_if k never = grind arith
