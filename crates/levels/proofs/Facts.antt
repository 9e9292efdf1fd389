-- What holds of the memory of every side. Assumes nothing.
use Rattle.std.proofs.Common.{◌≡◌, ℕ, zero, suc, ◌+◌, ◌<◌, ◌≤◌, List, [], ◌∷◌, length, get_or, take, drop, sym, ap, ◌∙◌, arith}
use Rattle.std.proofs.lemmas.List.{get_or_default, get_or-take, length-take}
use Rattle.arrays.specs.Items.{items}
use Rattle.arrays.proofs.Bounds.{length_items}
use Rattle.rules.specs.Books.{Level}
use Rattle.levels.specs.Heads.{size, span, level_of, count}
use Rattle.levels.specs.Sides.{levels_of}
use Rattle.levels.specs.declared.heads.LevelHead.{LevelHead}
use Rattle.levels.specs.declared.sides.Levels.{Levels}
use Rattle.levels.proofs.Flat.{length_levels, span_at, count_levels, level_at}

-- a head that is there
pub head_at : (hs : List LevelHead) (i : ℕ) → i < length hs → LevelHead
head_at [] i lt = absurd (omega arith)
head_at (h ∷ hs) zero lt = h
head_at (h ∷ hs) (suc i) lt = head_at hs i (omega arith)

module _ (s : Levels) where
  pub prices : length (levels_of s) ≡ length (items s.heads)
  prices = length_levels (items s.heads) (items s.parts)

  pub bound : length (items s.parts) ≤ 384
  bound = length_items s.parts

  pub parts_are : count (levels_of s) ≡ length (items s.parts)
  parts_are = count_levels (items s.heads) (items s.parts) (omega (arith, s.whole)) ∙ s.whole

  pub parts_of : (i : ℕ) (q : LevelHead) → i < length (items s.heads) → q ≡ get_or (items s.heads) i q → span (take i (items s.heads)) + size q ≤ length (items s.parts)
  parts_of i q lt read = omega (arith, span_at (items s.heads) i q lt, ap size read, s.whole)

  -- what stands at a place, from its head
  pub level_is : (i : ℕ) (q : LevelHead) (d : Level) → i < length (items s.heads) → q ≡ get_or (items s.heads) i q → get_or (levels_of s) i d ≡ level_of q (drop (span (take i (items s.heads))) (items s.parts))
  level_is i q d lt read =
      level_at (items s.heads) (items s.parts) i q d lt ∙ ap (λ r. level_of r (drop (span (take i (items s.heads))) (items s.parts))) (sym read)

  -- a head that was read, whatever stands past the last
  pub head_is : (i : ℕ) (q d : LevelHead) → i < length (levels_of s) → q ≡ get_or (items s.heads) i q → q ≡ get_or (items s.heads) i d
  head_is i q d lt read = read ∙ get_or_default (items s.heads) i q d (omega (arith, prices))

-- what is read in the front of the heads
pub in_front : {X : Type 0} (xs ys : List X) (i k : ℕ) (q : X) → xs ≡ ys → i ≤ length ys → k < length (take i xs) → q ≡ get_or (take i xs) k q → (k < i) × (q ≡ get_or ys k q)
in_front xs ys i k q same le lt read =
    let below : k < i = omega (arith, lt, length-take i xs) in
    (below, read ∙ get_or-take i xs k q below ∙ ap (λ l. get_or l k q) same)
