-- What is so of every book between calls. Assumes nothing.
use Rattle.std.specs.Prelude.{◌≡◌, ℕ, ◌<◌, ◌≤◌, Bool, true, false, cond, ◌&&◌, List, [], ◌∷◌, map, length, ◌==◌}
use Rattle.std.specs.List.{AllByRecursion}
use Rattle.allocation.specs.Dealings.{Deal, Seated, interest}
use Rattle.rules.specs.declared.orders.Side.{Side}
use Rattle.rules.specs.declared.orders.Side.TheVariants.{Buy, Sell}
use Rattle.rules.specs.declared.orders.Order.{Order}
use Rattle.rules.specs.declared.orders.Part.{Part}
use Rattle.rules.specs.declared.phases.Step.{Step}
use Rattle.rules.specs.declared.calls.Call.{Call}
use Rattle.rules.specs.Lists.{sum_of, any}
use Rattle.rules.specs.Books.{Queue, Level, Ranking, Book, same_side, good, better}
use Rattle.rules.specs.Quantities.{claims, resting}
use Rattle.rules.specs.Reserve.{is_reserve, runs_low}
use Rattle.rules.specs.Refusals.{bad_number, bad_participant, bad_quantity, bad_price, bad_display, rests}
use Rattle.rules.specs.Rules.{holds, rule, new_with}
use Rattle.rules.specs.Tables.{GoodTable}
use Rattle.rules.specs.Codes.{most_orders}

-- ## A queue and a level

-- no part is empty, and the wheel seats exactly those with interest, each once, with used below the round lot and 0 where nobody sits
pub record SoundQueue (lot : ℕ) (k : Queue) : Type 0 where
  pub positive : AllByRecursion (λ p. 0 < p.quantity) k.parts
  pub seated : Seated lot k.wheel (λ p. interest p (claims k.parts))

-- both queues of a price
abbrev pub SoundLevel : ℕ → Level → Type 0
SoundLevel lot l = SoundQueue lot l.shown × SoundQueue lot l.hidden

-- how many parts the order n has
abbrev pub parts_of : ℕ → List Part → ℕ
parts_of n = sum_of (λ p. cond (p.order == n) 1 0)

-- how many parts are marked
abbrev pub marked_parts : List Part → ℕ
marked_parts = sum_of (λ p. cond p.marked 1 0)

-- a part at the price v of the side s belongs to the order e: it names its number, participant, side and price
abbrev pub belongs : Order → Side → ℕ → Part → Bool
belongs e s v p = e.number == p.order && (p.participant == e.participant && (same_side e.side s && e.price == v))

-- it belongs to some order of the table
abbrev pub listed : List Order → Side → ℕ → Part → Bool
listed es s v p = any (λ e. belongs e s v p) es

-- every part belongs to an order of the table, at most `marks` of them are marked, and at most `each` are of one order
pub record OrderlyParts (es : List Order) (s : Side) (v marks each : ℕ) (ps : List Part) : Type 0 where
  pub listed : AllByRecursion (λ p. listed es s v p ≡ true) ps
  pub marked : marked_parts ps ≤ marks
  pub few : (n : ℕ) → parts_of n ps ≤ each

-- at a price at most one part is marked, and none that is hidden; an order shows at most two parts there, and hides at most one
abbrev pub Orderly : List Order → Side → Level → Type 0
Orderly es s l = OrderlyParts es s l.price 1 2 l.shown.parts × OrderlyParts es s l.price 0 1 l.hidden.parts

-- ## A side

-- the prices of levels
abbrev pub prices : List Level → List ℕ
prices = map (λ l. l.price)

-- strictly best price first
abbrev pub BestFirst : Ranking → Side → List ℕ → Type 0
BestFirst rank s [] = Unit {0}
BestFirst rank s (v ∷ vs) = AllByRecursion (λ w. better rank s v w ≡ true) vs × BestFirst rank s vs

-- one side of a book: sound and orderly levels, best price first, none of them empty
pub record SoundSide (rank : Ranking) (lot : ℕ) (es : List Order) (s : Side) (ls : List Level) : Type 0 where
  pub sound : AllByRecursion (SoundLevel lot) ls
  pub orderly : AllByRecursion (Orderly es s) ls
  pub sorted : BestFirst rank s (prices ls)
  pub occupied : AllByRecursion (λ l. holds l ≡ true) ls

-- ## The orders

-- the numbers of orders
abbrev pub numbers : List Order → List ℕ
numbers = map (λ e. e.number)

-- by rising number, up to the last
abbrev pub Rising : ℕ → List ℕ → Type 0
Rising last [] = Unit {0}
Rising last (n ∷ ns) = (n ≤ last) × AllByRecursion (λ m. n < m) ns × Rising last ns

-- what an order that rests came with
pub record Admitted (lot : ℕ) (e : Order) : Type 0 where
  pub number : bad_number e.number ≡ false
  pub participant : bad_participant e.participant ≡ false
  pub quantity : bad_quantity e.quantity ≡ false
  pub price : bad_price e.kind e.price ≡ false
  pub display : bad_display lot e.kind e.quantity e.display ≡ false
  pub rests : rests e.kind ≡ true

-- ## The book

-- no sell price is within reach of a buy at its own price
abbrev pub Uncrossed : Ranking → List Level → List Level → Type 0
Uncrossed rank buys sells = AllByRecursion (λ l. AllByRecursion (λ m. good rank Sell m.price l.price ≡ false) sells) buys

-- what is so of a book between calls
pub record SoundBook (rank : Ranking) (b : Book) : Type 0 where
  pub lot : 0 < b.lot
  pub table : GoodTable b.steps
  pub buys : SoundSide rank b.lot b.orders Buy b.buys
  pub sells : SoundSide rank b.lot b.orders Sell b.sells
  pub uncrossed : Uncrossed rank b.buys b.sells
  pub rising : Rising b.last (numbers b.orders)
  pub few : length b.orders ≤ most_orders
  pub admitted : AllByRecursion (Admitted b.lot) b.orders
  -- each order rests, and no more of it than it came with
  pub resting : AllByRecursion (λ e. (0 < resting e.number b) × (resting e.number b ≤ e.quantity)) b.orders
  -- a reserve order shows at least the round lot or hides nothing
  pub replenished : AllByRecursion (λ e. is_reserve e.kind ≡ true → AllByRecursion (λ l. runs_low b.lot e.number l ≡ false) b.buys × AllByRecursion (λ l. runs_low b.lot e.number l ≡ false) b.sells) b.orders

-- a new book is sound, and every call leaves a sound book sound
pub record StaysSound (rank : Ranking) (deal : Deal) : Type 0 where
  pub new : (lot : ℕ) → 0 < lot → (table : List Step) → GoodTable table → SoundBook rank (new_with lot table)
  pub call : (b : Book) (room : ℕ) (c : Call) → SoundBook rank b → SoundBook rank (rule rank deal b room c).book
