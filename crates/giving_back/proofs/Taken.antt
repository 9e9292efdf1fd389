-- Shares taken off an order that rests at one level of its side. Assumes nothing.
use Rattle.std.proofs.Common.{◌≡◌, ℕ, zero, suc, ◌+◌, ◌-◌, ◌<◌, true, List, [], ◌∷◌, map, length, get_or, drop, set, filter, refl, ap, ◌∙◌, subst, arith}
use Rattle.std.specs.List.{AllByRecursion}
use Rattle.rules.specs.declared.orders.Side.{Side}
use Rattle.rules.specs.declared.orders.Side.TheVariants.{Buy, Sell}
use Rattle.rules.specs.Books.{Level, Book, side, other, pick, with_sides, with_side}
use Rattle.rules.specs.Quantities.{of_level, of_side}
use Rattle.rules.specs.TakingOff.{take_off_side, take_off}
use Rattle.rules.specs.Rules.{holds}
use Rattle.resting.specs.Alone.{Without, Alone}
use Rattle.resting.proofs.Elsewhere.{off_others}
use Rattle.giving_back.proofs.Keeping.{kept_all}
use Rattle.giving_back.proofs.Found.{none_on}

-- ## Both sides

-- an order that rests on one side loses shares there, and the other side stays
pub off_on : (lot n m : ℕ) (s : Side) (b : Book) → AllByRecursion (Without lot n) (side (other s) b) → take_off n m b ≡ with_side s (take_off_side n m (side s b)) b
unfolding take_off
off_on lot n m Buy b a = ap (λ l. with_sides (take_off_side n m b.buys) l b) (off_others lot n (m - of_side n b.buys) b.sells a)
off_on lot n m Sell b a =
    let all : m - of_side n b.buys ≡ m = omega (arith, none_on lot n b.buys a) in
    ap (λ l. with_sides l (take_off_side n (m - of_side n b.buys) b.sells) b) (off_others lot n m b.buys a) ∙ ap (λ k. with_sides b.buys (take_off_side n k b.sells) b) all

pub side_of : (s : Side) (ls : List Level) (b : Book) → side s (with_side s ls b) ≡ ls
side_of Buy ls b = refl
side_of Sell ls b = refl

pub other_of : (s : Side) (ls : List Level) (b : Book) → side (other s) (with_side s ls b) ≡ side (other s) b
other_of Buy ls b = refl
other_of Sell ls b = refl

pub off_orders : (n m : ℕ) (b : Book) → (take_off n m b).orders ≡ b.orders
unfolding take_off
off_orders n m b = refl

pub side_alone : (lot n i : ℕ) (ls : List Level) (x : Level) → i < length ls → Alone lot n i ls → of_side n (set ls i x) ≡ of_level n x
side_alone lot n i [] x lt a = absurd (omega arith)
side_alone lot n zero (l ∷ ls) x lt a = omega (arith, none_on lot n ls a.after)
side_alone lot n (suc i) (l ∷ ls) x lt a =
    let on : suc i + 1 ≡ suc (i + 1) = omega arith in
    omega (arith, a.before.0.none, side_alone lot n i ls x (omega arith) (record { before = a.before.1; after = subst (λ k. AllByRecursion (Without lot n) (drop k (l ∷ ls))) on a.after }))

pub kept_sides : (s : Side) (b : Book) (ls : List Level) → filter holds (side s b) ≡ ls → AllByRecursion (λ l. holds l ≡ true) (side (other s) b) → (filter holds b.buys ≡ pick s ls b.buys) × (filter holds b.sells ≡ pick s b.sells ls)
kept_sides Buy b ls e a = (e, kept_all holds b.sells a)
kept_sides Sell b ls e a = (kept_all holds b.buys a, e)

pub both_sides : (s : Side) (b : Book) (P : Level → Type 0) → AllByRecursion P (side s b) → AllByRecursion P (side (other s) b) → AllByRecursion P b.buys × AllByRecursion P b.sells
both_sides Buy b P x y = (x, y)
both_sides Sell b P x y = (y, x)

pub map_same_set : {X Y : Type 0} (f : X → Y) (xs : List X) (k : ℕ) (y d : X) → f y ≡ f (get_or xs k d) → map f (set xs k y) ≡ map f xs
map_same_set f [] k y d e = refl
map_same_set f (x ∷ xs) zero y d e = ap (λ z. z ∷ map f xs) e
map_same_set f (x ∷ xs) (suc k) y d e = ap (λ l. f x ∷ l) (map_same_set f xs k y d e)
