-- The first level of a kind, by its head. Assumes nothing.
use Rattle.std.proofs.Common.{◌≡◌, ℕ, ◌+◌, Bool, not, cond, List, [], ◌∷◌, length, drop, refl, ap, arith, length}
use Rattle.std.specs.List.{position, position_or_len}
use Rattle.std.specs.Option.{unwrap_or}
use Rattle.std.proofs.lemmas.List.Sums.{prefix_len-le-length}
use Rattle.rules.specs.declared.orders.Part.{Part}
use Rattle.levels.specs.Heads.{size, levels}
use Rattle.levels.specs.declared.heads.LevelHead.{LevelHead}
use Rattle.levels.proofs.Flat.{length_levels}

module _ (p : ℕ → Bool) where
  pub first_level : (hs : List LevelHead) (ps : List Part) → position_or_len (λ l. p l.price) (levels hs ps) ≡ position_or_len (λ h. p h.price) hs
  first_level [] ps = refl
  first_level (h ∷ hs) ps = ap (λ n. cond (not (p h.price)) (1 + n) 0) (first_level hs (drop (size h) ps))

  pub position_level : (hs : List LevelHead) (ps : List Part) → position (λ l. p l.price) (levels hs ps) ≡ position (λ h. p h.price) hs
  position_level hs ps = rw (first_level hs ps, length_levels hs ps) refl

-- the first place, or past the last
pub or_past : {X : Type 0} (p : X → Bool) (xs : List X) → unwrap_or (position p xs) (length xs) ≡ position_or_len p xs
or_past p xs = grind (arith, prefix_len-le-length (λ x. not (p x)) xs)
