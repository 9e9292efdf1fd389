-- Parts within their limits. Assumes nothing.
use Rattle.std.proofs.Common.{◌≡◌, ℕ, ◌-◌, ◌*◌, ◌^◌, ◌<◌, ◌≤◌, Bool, true, false, cond, ◌&&◌, ltb, leb, List, [], ◌∷◌, ◌++◌, length, take, drop, refl, arith}
use Rattle.std.specs.List.{AllByRecursion}
use Rattle.std.proofs.lemmas.Bool.{and_parts, and_from, ltb-true, leb-true, lt-ltb, le-leb}
use Rattle.std.proofs.ByRecursion.{All-append, All-take, All-drop}
use Rattle.allocation.specs.Dealings.{total}
use Rattle.rules.specs.Books.{part}
use Rattle.rules.specs.Quantities.{claims}
use Rattle.rules.specs.Changes.{lowered}
use Rattle.rules.specs.declared.orders.Part.{Part}
use Rattle.levels.specs.Limits.{WithinLimits, within_limits}
use Rattle.levels.specs.Splices.{spliced}

pub limits_all : (ps : List Part) → within_limits ps ≡ true → AllByRecursion WithinLimits ps
limits_all [] h = tt
limits_all (p ∷ ps) h =
    let both = and_parts (ltb p.participant 25 && leb p.quantity 500000) (within_limits ps) h in
    let here = and_parts (ltb p.participant 25) (leb p.quantity 500000) both.0 in
    ((ltb-true p.participant 25 here.0, leb-true p.quantity 500000 here.1), limits_all ps both.1)

pub all_limits : (ps : List Part) → AllByRecursion WithinLimits ps → within_limits ps ≡ true
all_limits [] a = refl
all_limits (p ∷ ps) a =
    and_from (ltb p.participant 25 && leb p.quantity 500000) (within_limits ps)
    (and_from (ltb p.participant 25) (leb p.quantity 500000) (lt-ltb p.participant 25 a.0.0) (le-leb p.quantity 500000 a.0.1))
    (all_limits ps a.1)

pub all_spliced : {X : Type 0} (P : X → Type 0) (xs : List X) (a b : ℕ) (ys : List X) → AllByRecursion P xs → AllByRecursion P ys → AllByRecursion P (spliced xs a b ys)
all_spliced P xs a b ys h g = All-append P (take a xs) (ys ++ drop b xs) (All-take P a xs h) (All-append P ys (drop b xs) g (All-drop P b xs h))

pub limits_lowered : (ps : List Part) (xs : List ℕ) → AllByRecursion WithinLimits ps → AllByRecursion WithinLimits (lowered ps xs)
limits_lowered [] xs a = tt
limits_lowered (p ∷ ps) [] a = a
limits_lowered (p ∷ ps) (x ∷ xs) a = go (leb p.quantity x) (limits_lowered ps xs a.1)
  where
    go : (t : Bool) → AllByRecursion WithinLimits (lowered ps xs) → AllByRecursion WithinLimits (cond t (lowered ps xs) (part p.order p.participant (p.quantity - x) p.marked ∷ lowered ps xs))
    go true h = h
    go false h = ((a.0.0, omega (arith, a.0.1)), h)

-- what a dealing asks of claims
pub known_claims : (ps : List Part) → AllByRecursion WithinLimits ps → AllByRecursion (λ c. c.participant < 25) (claims ps)
known_claims [] a = tt
known_claims (p ∷ ps) a = (a.0.0, known_claims ps a.1)

total_limits : (ps : List Part) → AllByRecursion WithinLimits ps → total (claims ps) ≤ 500000 * length ps
total_limits [] a = omega arith
total_limits (p ∷ ps) a = omega (arith, a.0.1, total_limits ps a.1)

pub fits_limits : (ps : List Part) → AllByRecursion WithinLimits ps → length ps ≤ 384 → total (claims ps) < 2 ^ 32
fits_limits ps a short = omega (arith, total_limits ps a)

-- ## A stretch of parts is replaced

pub limits_spliced : (ps : List Part) (a b : ℕ) (mid : List Part) → within_limits ps ≡ true → AllByRecursion WithinLimits mid → within_limits (spliced ps a b mid) ≡ true
limits_spliced ps a b mid h g = all_limits (spliced ps a b mid) (all_spliced WithinLimits ps a b mid (limits_all ps h) g)

pub limits_part : (ps : List Part) (n a : ℕ) → within_limits ps ≡ true → AllByRecursion WithinLimits (take n (drop a ps))
limits_part ps n a h = All-take WithinLimits n (drop a ps) (All-drop WithinLimits a ps (limits_all ps h))
