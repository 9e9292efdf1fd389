-- What stands, stands in one way: a fact that a type keeps truncated can be taken out of it again.
use Rattle.std.proofs.Common.{ℕ, ◌<◌, List, [], ◌∷◌, refl}
use mathlib.Core.Bool.{Bool-set}
use mathlib.Core.Logic.{∥∥₁_elim}
use native.Mathlib.Bridge.{le_prop}
use native.Mathlib.Nat.{ℕ_set}
use Rattle.std.specs.List.{AllByRecursion}
use Rattle.allocation.specs.Dealings.{Seated}
use Rattle.allocation.specs.Wheels.{Wheel}
use Rattle.rules.specs.declared.orders.Side.{Side}
use Rattle.rules.specs.declared.orders.Order.{Order}
use Rattle.rules.specs.declared.orders.Part.{Part}
use Rattle.rules.specs.declared.phases.Step.{Step}
use Rattle.rules.specs.Books.{Queue, Level, Ranking, Book}
use Rattle.rules.specs.Tables.{GoodTable}
use Rattle.rules.specs.Invariants.{SoundQueue, SoundLevel, OrderlyParts, Orderly, BestFirst, SoundSide, Rising, Admitted, SoundBook}
use Rattle.memory.specs.States.{Stands}
use Rattle.memory.specs.declared.states.State.{State}

all_prop : {X : Type 0} (P : X → Type 0) → ((x : X) → IsProp (P x)) → (xs : List X) → IsProp (AllByRecursion P xs)
all_prop P f [] p q = refl
all_prop P f (x ∷ xs) p q = λ i. (f x p.0 q.0 i, all_prop P f xs p.1 q.1 i)

seated_prop : (R : ℕ) (w : Wheel) (f : ℕ → ℕ) → IsProp (Seated R w f)
seated_prop R w f p q = λ i. record { once = λ n. ℕ_set _ _ (p.once n) (q.once n) i; below = le_prop p.below q.below i; empty = λ e. ℕ_set _ _ (p.empty e) (q.empty e) i }

queue_prop : (lot : ℕ) (k : Queue) → IsProp (SoundQueue lot k)
queue_prop lot k p q = λ i. record { positive = all_prop (λ (x : Part). 0 < x.quantity) (λ x. le_prop) k.parts p.positive q.positive i; seated = seated_prop _ _ _ p.seated q.seated i }

level_prop : (lot : ℕ) (l : Level) → IsProp (SoundLevel lot l)
level_prop lot l p q = λ i. (queue_prop lot l.shown p.0 q.0 i, queue_prop lot l.hidden p.1 q.1 i)

parts_prop : (es : List Order) (s : Side) (v m n : ℕ) (ps : List Part) → IsProp (OrderlyParts es s v m n ps)
parts_prop es s v m n ps p q = λ i. record { listed = all_prop _ (λ x. Bool-set _ _) ps p.listed q.listed i; marked = le_prop p.marked q.marked i; few = λ k. le_prop (p.few k) (q.few k) i }

orderly_prop : (es : List Order) (s : Side) (l : Level) → IsProp (Orderly es s l)
orderly_prop es s l p q = λ i. (parts_prop _ _ _ _ _ _ p.0 q.0 i, parts_prop _ _ _ _ _ _ p.1 q.1 i)

sorted_prop : (rank : Ranking) (s : Side) (vs : List ℕ) → IsProp (BestFirst rank s vs)
sorted_prop rank s [] p q = refl
sorted_prop rank s (v ∷ vs) p q = λ i. (all_prop _ (λ w. Bool-set _ _) vs p.0 q.0 i, sorted_prop rank s vs p.1 q.1 i)

side_prop : (rank : Ranking) (lot : ℕ) (es : List Order) (s : Side) (ls : List Level) → IsProp (SoundSide rank lot es s ls)
side_prop rank lot es s ls p q = λ i.
    record {
      sound = all_prop (SoundLevel lot) (level_prop lot) ls p.sound q.sound i;
      orderly = all_prop (Orderly es s) (orderly_prop es s) ls p.orderly q.orderly i;
      sorted = sorted_prop rank s _ p.sorted q.sorted i;
      occupied = all_prop _ (λ l. Bool-set _ _) ls p.occupied q.occupied i;
    }

rising_prop : (last : ℕ) (ns : List ℕ) → IsProp (Rising last ns)
rising_prop last [] p q = refl
rising_prop last (n ∷ ns) p q = λ i. (le_prop p.0 q.0 i, all_prop (λ m. n < m) (λ m. le_prop) ns p.1 q.1 i, rising_prop last ns p.2 q.2 i)

table_prop : (ss : List Step) → IsProp (GoodTable ss)
table_prop ss p q = λ i. record { one_displayed = ℕ_set _ _ p.one_displayed q.one_displayed i; one_hidden = ℕ_set _ _ p.one_hidden q.one_hidden i; one_setter = le_prop p.one_setter q.one_setter i; setter_first = λ e. le_prop (p.setter_first e) (q.setter_first e) i }

admitted_prop : (lot : ℕ) (e : Order) → IsProp (Admitted lot e)
admitted_prop lot e p q = λ i.
    record {
      number = Bool-set _ _ p.number q.number i;
      participant = Bool-set _ _ p.participant q.participant i;
      quantity = Bool-set _ _ p.quantity q.quantity i;
      price = Bool-set _ _ p.price q.price i;
      display = Bool-set _ _ p.display q.display i;
      rests = Bool-set _ _ p.rests q.rests i;
    }

sound_prop : (rank : Ranking) (b : Book) → IsProp (SoundBook rank b)
sound_prop rank b p q = λ i.
    record {
      lot = le_prop p.lot q.lot i;
      table = table_prop _ p.table q.table i;
      buys = side_prop _ _ _ _ _ p.buys q.buys i;
      sells = side_prop _ _ _ _ _ p.sells q.sells i;
      uncrossed = all_prop _ (λ l. all_prop _ (λ m. Bool-set _ _) b.sells) b.buys p.uncrossed q.uncrossed i;
      rising = rising_prop _ _ p.rising q.rising i;
      few = le_prop p.few q.few i;
      admitted = all_prop _ (λ e. admitted_prop b.lot e) b.orders p.admitted q.admitted i;
      resting = all_prop _ (λ e. λ x y j. (le_prop x.0 y.0 j, le_prop x.1 y.1 j)) b.orders p.resting q.resting i;
      replenished = all_prop _ (λ e. λ x y j t. (all_prop _ (λ l. Bool-set _ _) b.buys (x t).0 (y t).0 j, all_prop _ (λ l. Bool-set _ _) b.sells (x t).1 (y t).1 j)) b.orders p.replenished q.replenished i;
    }

pub stands_prop : (rank : Ranking) (s : State) → IsProp (Stands rank s)
stands_prop rank s p q = λ i. record { sound = sound_prop rank _ p.sound q.sound i; tallied = all_prop _ (λ r. ℕ_set _ _) _ p.tallied q.tallied i }

pub standing : (rank : Ranking) (s : State) → ∥ Stands rank s ∥₁ → Stands rank s
standing rank s h = ∥∥₁_elim h (stands_prop rank s) (λ x. x)
