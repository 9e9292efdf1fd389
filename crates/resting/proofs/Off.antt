-- Shares taken off at one price. Assumes nothing.
use Rattle.std.proofs.Common.{◌≡◌, ℕ, ◌-◌, ◌<◌, List, ◌++◌, reverse, length, get_or, take, drop, set, sym, ap, ◌∙◌, arith}
use Rattle.std.proofs.lemmas.List.{take_at, drop_at, get_or-set_same, set-set}
use Rattle.allocation.specs.ByTime.{shares_in_order}
use Rattle.allocation.specs.Dealings.{sum}
use Rattle.rules.specs.Books.{Level, level}
use Rattle.rules.specs.Changes.{lose}
use Rattle.rules.specs.Quantities.{pieces}
use Rattle.rules.specs.TakingOff.{take_off_level}
use Rattle.allocation.proofs.InOrder.{in_order_append, length_in_order, sum_in_order}

-- first the hidden part, then the shown ones
abbrev pub without_hidden : ℕ → ℕ → Level → Level
without_hidden n m l = level l.price l.shown (lose (shares_in_order m (pieces n l.hidden.parts)) l.hidden)

abbrev pub without_shown : ℕ → ℕ → Level → Level
without_shown n m l = level l.price (lose (reverse (shares_in_order m (reverse (pieces n l.shown.parts)))) l.shown) l.hidden

pub off_both : (n m : ℕ) (l : Level) → without_shown n (m - sum (shares_in_order m (pieces n l.hidden.parts))) (without_hidden n m l) ≡ take_off_level n m l
unfolding take_off_level
off_both n m l =
    let h : List ℕ = pieces n l.hidden.parts in
    let s : List ℕ = pieces n l.shown.parts in
    let xs : List ℕ = shares_in_order m (h ++ reverse s) in
    let left : m - sum (shares_in_order m h) ≡ m - sum h = omega (arith, sum_in_order m h) in
    let split : xs ≡ shares_in_order m h ++ shares_in_order (m - sum h) (reverse s) = in_order_append m h (reverse s) in
    let front : take (length h) xs ≡ shares_in_order m h = ap (take (length h)) split ∙ take_at (shares_in_order m h) (shares_in_order (m - sum h) (reverse s)) (length h) (length_in_order m h) in
    let back : drop (length h) xs ≡ shares_in_order (m - sum h) (reverse s) = ap (drop (length h)) split ∙ drop_at (shares_in_order m h) (shares_in_order (m - sum h) (reverse s)) (length h) (length_in_order m h) in
    ap (λ k. level l.price (lose (reverse (shares_in_order k (reverse s))) l.shown) (lose (shares_in_order m h) l.hidden)) left
    ∙ ap (λ ys. level l.price (lose (reverse ys) l.shown) (lose (shares_in_order m h) l.hidden)) (sym back)
    ∙ ap (λ ys. level l.price (lose (reverse (drop (length h) xs)) l.shown) (lose ys l.hidden)) (sym front)

-- one level is changed twice
pub twice : (f g : Level → Level) (ls ms ns : List Level) (i : ℕ) (d : Level) → i < length ls → ms ≡ set ls i (f (get_or ls i d)) → ns ≡ set ms i (g (get_or ms i d)) → ns ≡ set ls i (g (f (get_or ls i d)))
twice f g ls ms ns i d lt one two =
    let l : Level = get_or ls i d in
    let now : get_or ms i d ≡ f l = ap (λ x. get_or x i d) one ∙ get_or-set_same ls i (f l) d lt in
    two ∙ ap (λ x. set ms i (g x)) now ∙ ap (λ x. set x i (g (f l))) one ∙ set-set ls i (f l) (g (f l))
