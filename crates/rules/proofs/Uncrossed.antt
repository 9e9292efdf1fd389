-- A book that is not crossed against itself stays so. Assumes nothing.
use Rattle.std.proofs.Common.{◌≡◌, ℕ, Bool, true, false, not, ◌&&◌, List, [], ◌∷◌, fold}
use mathlib.Core.Bool.{false≢true}
use Rattle.std.specs.List.{AllByRecursion}
use Rattle.std.proofs.ByRecursion.{All-weaker}
use Rattle.rules.specs.declared.orders.Side.{Side}
use Rattle.rules.specs.declared.orders.Side.TheVariants.{Sell, Buy}
use Rattle.rules.specs.declared.orders.Order.{Order}
use Rattle.rules.specs.declared.orders.Part.{Part}
use Rattle.rules.specs.Books.{Level, Ranking, good, Book, side, with_side}
use Rattle.rules.specs.Changes.{on_price}
use Rattle.rules.specs.Reserve.{show_anew, join_hidden, replenish_order}
use Rattle.rules.specs.Rules.{holds, empty}
use Rattle.rules.specs.Invariants.{Uncrossed}
use Rattle.rules.proofs.Renewed.{renewed_by}
use Rattle.rules.proofs.Members.{all_both, always}
use Rattle.rules.proofs.AtPrice.{on_price_each}
use Rattle.rules.proofs.Walks.{Held, held_joined, held_shown_anew}

pub held_weaker : (P R : ℕ → Type 0) → ((v : ℕ) → P v → R v) → (ls : List Level) → AllByRecursion (Held P) ls → AllByRecursion (Held R) ls
held_weaker P R f ls h =
    All-weaker (Held P) (Held R)
    (λ l k. (All-weaker (λ (_ : Part). P l.price) (λ _. R l.price) (λ _ x. f l.price x) l.shown.parts k.0, All-weaker (λ (_ : Part). P l.price) (λ _. R l.price) (λ _ x. f l.price x) l.hidden.parts k.1)) ls h

pub held_and : (P R : ℕ → Type 0) (ls : List Level) → AllByRecursion (Held P) ls → AllByRecursion (Held R) ls → AllByRecursion (Held (λ v. P v × R v)) ls
held_and P R [] h k = tt
held_and P R (l ∷ ls) h k = (
  (all_both (λ (_ : Part). P l.price) (λ _. R l.price) l.shown.parts h.0.0 k.0.0, all_both (λ (_ : Part). P l.price) (λ _. R l.price) l.hidden.parts h.0.1 k.0.1),
  held_and P R ls h.1 k.1,
)

-- no part of the one side is in reach of a part of the other
abbrev pub Apart : Ranking → List Level → List Level → Type 0
Apart rank buys sells = AllByRecursion (Held (λ v. AllByRecursion (Held (λ w. good rank Sell w v ≡ false)) sells)) buys

-- sides change, and no price comes to hold parts that held none
pub apart_changed : (rank : Ranking) (bs bs' ss ss' : List Level) → ((P : ℕ → Type 0) → AllByRecursion (Held P) bs → AllByRecursion (Held P) bs') → ((P : ℕ → Type 0) → AllByRecursion (Held P) ss → AllByRecursion (Held P) ss') → Apart rank bs ss → Apart rank bs' ss'
apart_changed rank bs bs' ss ss' f g h =
    held_weaker (λ v. AllByRecursion (Held (λ w. good rank Sell w v ≡ false)) ss) (λ v. AllByRecursion (Held (λ w. good rank Sell w v ≡ false)) ss') (λ v k. g (λ w. good rank Sell w v ≡ false) k) bs'
    (f (λ v. AllByRecursion (Held (λ w. good rank Sell w v ≡ false)) ss) h)

-- ## All prices, and those with parts

pub price_held : (P : ℕ → Type 0) (ls : List Level) → AllByRecursion (λ l. P l.price) ls → AllByRecursion (Held P) ls
price_held P ls h = All-weaker (λ l. P l.price) (Held P) (λ l x. (always (P l.price) l.shown.parts x, always (P l.price) l.hidden.parts x)) ls h

pub nothing_held : (ls : List Level) → AllByRecursion (Held (λ _. Unit {0})) ls
nothing_held ls = price_held (λ _. Unit {0}) ls (always (Unit {0}) ls tt)

held_price : (P : ℕ → Type 0) (l : Level) → holds l ≡ true → Held P l → P l.price
held_price P l = go l.shown.parts l.hidden.parts
  where
    go : (ps qs : List Part) → not (empty ps && empty qs) ≡ true → AllByRecursion (λ (_ : Part). P l.price) ps × AllByRecursion (λ (_ : Part). P l.price) qs → P l.price
    go [] [] h a = absurd (false≢true h)
    go [] (q ∷ qs) h a = a.1.0
    go (p ∷ ps) qs h a = a.0.0

pub held_prices : (P : ℕ → Type 0) (ls : List Level) → AllByRecursion (λ l. holds l ≡ true) ls → AllByRecursion (Held P) ls → AllByRecursion (λ l. P l.price) ls
held_prices P [] h a = tt
held_prices P (l ∷ ls) h a = (held_price P l h.0 a.0, held_prices P ls h.1 a.1)

pub uncrossed_apart : (rank : Ranking) (bs ss : List Level) → Uncrossed rank bs ss → Apart rank bs ss
uncrossed_apart rank bs ss h =
    price_held (λ v. AllByRecursion (Held (λ w. good rank Sell w v ≡ false)) ss) bs
    (All-weaker (λ l. AllByRecursion (λ m. good rank Sell m.price l.price ≡ false) ss) (λ l. AllByRecursion (Held (λ w. good rank Sell w l.price ≡ false)) ss) (λ l k. price_held (λ w. good rank Sell w l.price ≡ false) ss k) bs h)

pub apart_uncrossed : (rank : Ranking) (bs ss : List Level) → AllByRecursion (λ l. holds l ≡ true) bs → AllByRecursion (λ l. holds l ≡ true) ss → Apart rank bs ss → Uncrossed rank bs ss
apart_uncrossed rank bs ss hb hs h =
    All-weaker (λ l. AllByRecursion (Held (λ w. good rank Sell w l.price ≡ false)) ss) (λ l. AllByRecursion (λ m. good rank Sell m.price l.price ≡ false) ss) (λ l k. held_prices (λ w. good rank Sell w l.price ≡ false) ss hs k) bs
    (held_prices (λ v. AllByRecursion (Held (λ w. good rank Sell w v ≡ false)) ss) bs hb h)

-- ## Reserve

pub renewed_held : (P : ℕ → Type 0) (rank : Ranking) (s : Side) (k : ℕ) (e : Order) (mark : Bool) (ls : List Level) → AllByRecursion (Held P) ls → AllByRecursion (Held P) (on_price rank s e.price (show_anew k e mark) (on_price rank s e.price (join_hidden k e.number) ls))
renewed_held P rank s k e mark ls h =
    on_price_each (Held P) rank s e.price (show_anew k e mark) (on_price rank s e.price (join_hidden k e.number) ls) (tt, tt) (λ l i. held_shown_anew P k e mark l i)
    (on_price_each (Held P) rank s e.price (join_hidden k e.number) ls (tt, tt) (λ l i. held_joined P k e.number l i) h)

-- each side holds P, which can differ
abbrev pub HeldBoth : (ℕ → Type 0) → (ℕ → Type 0) → Book → Type 0
HeldBoth P R b = AllByRecursion (Held P) b.buys × AllByRecursion (Held R) b.sells

renewed_held_both : (P R : ℕ → Type 0) (rank : Ranking) (b : Book) (e : Order) → HeldBoth P R b → HeldBoth P R (replenish_order rank b e)
renewed_held_both P R rank b e h = renewed_by (HeldBoth P R) rank b e h (λ mark _. at e.side mark)
  where
    at : (s : Side) (mark : Bool) → (let c : Book = with_side s (on_price rank s e.price (join_hidden b.lot e.number) (side s b)) b in HeldBoth P R (with_side s (on_price rank s e.price (show_anew b.lot e mark) (side s c)) c))
    at Buy mark = (renewed_held P rank Buy b.lot e mark b.buys h.0, h.1)
    at Sell mark = (h.0, renewed_held R rank Sell b.lot e mark b.sells h.1)

pub all_held : (P R : ℕ → Type 0) (rank : Ranking) (b : Book) (xs : List Order) → HeldBoth P R b → HeldBoth P R (fold (replenish_order rank) b xs)
all_held P R rank b [] h = h
all_held P R rank b (x ∷ xs) h = all_held P R rank (replenish_order rank b x) xs (renewed_held_both P R rank b x h)

pub all_apart : (rank : Ranking) (b : Book) (xs : List Order) → Apart rank b.buys b.sells → (let c : Book = fold (replenish_order rank) b xs in Apart rank c.buys c.sells)
all_apart rank b xs h =
    let c : Book = fold (replenish_order rank) b xs in
    apart_changed rank b.buys c.buys b.sells c.sells
    (λ P k. (all_held P (λ _. Unit {0}) rank b xs (k, nothing_held b.sells)).0)
    (λ P k. (all_held (λ _. Unit {0}) P rank b xs (nothing_held b.buys, k)).1) h
