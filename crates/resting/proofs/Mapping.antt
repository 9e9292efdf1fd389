-- A list mapped in place, from its front. Assumes nothing.
use Rattle.std.proofs.Common.{◌≡◌, ℕ, zero, suc, ◌+◌, ◌<◌, List, [], ◌∷◌, ◌++◌, map, length, get_or, take, drop, set, sym, refl, ap, ◌∙◌, arith}
use Rattle.std.proofs.lemmas.List.{get_or-set_same, set-set}
use Rattle.rules.specs.Books.{Level, level, queue}
use Rattle.rules.specs.declared.orders.Part.{Part}
use Rattle.resting.specs.Unmarked.{plain}

-- the first k are mapped
abbrev pub mapped : {X : Type 0} → (X → X) → ℕ → List X → List X
mapped f k xs = map f (take k xs) ++ drop k xs

pub mapped_more : {X : Type 0} (f : X → X) (xs : List X) (k : ℕ) (d : X) → k < length xs → set (mapped f k xs) k (f (get_or (mapped f k xs) k d)) ≡ mapped f (k + 1) xs
mapped_more f [] k d lt = absurd (omega arith)
mapped_more f (x ∷ xs) zero d lt = refl
mapped_more f (x ∷ xs) (suc k) d lt =
    let up : suc k + 1 ≡ suc (k + 1) = omega arith in
    ap (λ l. f x ∷ l) (mapped_more f xs k d (omega arith)) ∙ ap (λ n. mapped f n (x ∷ xs)) (sym up)

pub length_mapped : {X : Type 0} (f : X → X) (xs : List X) (k : ℕ) → length (mapped f k xs) ≡ length xs
length_mapped f [] zero = refl
length_mapped f [] (suc k) = refl
length_mapped f (x ∷ xs) zero = refl
length_mapped f (x ∷ xs) (suc k) = ap suc (length_mapped f xs k)

-- a level whose first k shown parts are plain
abbrev pub plain_to : ℕ → Level → Level
plain_to k l = level l.price (queue (mapped plain k l.shown.parts) l.shown.wheel) l.hidden

pub plain_more : (ls ms ns : List Level) (i k : ℕ) (d : Level) (e : Part) → i < length ls → k < length (get_or ls i d).shown.parts → ms ≡ set ls i (plain_to k (get_or ls i d))
    → ns ≡ set ms i (level (get_or ms i d).price (queue (set (get_or ms i d).shown.parts k (plain (get_or (get_or ms i d).shown.parts k e))) (get_or ms i d).shown.wheel) (get_or ms i d).hidden)
    → ns ≡ set ls i (plain_to (k + 1) (get_or ls i d))
plain_more ls ms ns i k d e lt within so next =
    let l : Level = get_or ls i d in
    let now : get_or ms i d ≡ plain_to k l = ap (λ x. get_or x i d) so ∙ get_or-set_same ls i (plain_to k l) d lt in
    next
    ∙ ap (λ (m : Level). set ms i (level m.price (queue (set m.shown.parts k (plain (get_or m.shown.parts k e))) m.shown.wheel) m.hidden)) now
    ∙ ap (λ ps. set ms i (level l.price (queue ps l.shown.wheel) l.hidden)) (mapped_more plain l.shown.parts k e within)
    ∙ ap (λ x. set x i (plain_to (k + 1) l)) so
    ∙ set-set ls i (plain_to k l) (plain_to (k + 1) l)
