-- Rows written one after the other. Assumes nothing.
use Rattle.std.proofs.Common.{◌≡◌, ℕ, suc, ◌+◌, ◌<◌, ◌≤◌, List, [], ◌∷◌, ◌++◌, length, get_or, take, drop, set, sym, ap, ◌∙◌, append_assoc, arith}
use Rattle.std.proofs.lemmas.List.{take_more_set, drop-set-lt, drop-drop, drop_more, take-append-drop, take_at, drop_at, length-take-le, length-append, length-drop}
use Rattle.std.proofs.lemmas.Bool.{eq-eqb, ne_eqb}
use Rattle.rules.specs.Trading.{rows_of}
use Rattle.rules.specs.declared.orders.Part.{Part}
use Rattle.rules.specs.declared.phases.Step.{Step}
use Rattle.rules.specs.declared.answers.Row.{Row}
use Rattle.rules.specs.declared.answers.Row.TheVariants.{Trade}
use Rattle.trading.specs.Written.{written}

pub written_none : (rs : List Row) (a : ℕ) → written rs a [] ≡ rs
written_none rs a = let none : a + 0 ≡ a = omega arith in ap (λ n. take a rs ++ drop n rs) none ∙ take-append-drop a rs

pub written_more : (rs : List Row) (a : ℕ) (x : Row) (ys : List Row) → a < length rs → written (set rs a x) (a + 1) ys ≡ written rs a (x ∷ ys)
written_more rs a x ys lt =
    let on : a + 1 + length ys ≡ a + suc (length ys) = omega arith in
    ap (λ l. l ++ (ys ++ drop (a + 1 + length ys) (set rs a x))) (take_more_set rs a x lt)
    ∙ append_assoc (take a rs) (x ∷ []) (ys ++ drop (a + 1 + length ys) (set rs a x))
    ∙ ap (λ l. take a rs ++ (x ∷ (ys ++ l))) (drop-set-lt (a + 1 + length ys) rs a x (omega arith) ∙ ap (λ n. drop n rs) on)

pub length_written : (rs : List Row) (a : ℕ) (xs : List Row) → a + length xs ≤ length rs → length (written rs a xs) ≡ length rs
length_written rs a xs le =
    omega (arith, length-append (take a rs) (xs ++ drop (a + length xs) rs), length-append xs (drop (a + length xs) rs), length-take-le a rs (omega arith), length-drop (a + length xs) rs)

pub written_then : (rs : List Row) (a : ℕ) (xs ys : List Row) → a + length xs ≤ length rs → written (written rs a xs) (a + length xs) ys ≡ written rs a (xs ++ ys)
written_then rs a xs ys le =
    let b : ℕ = a + length xs in
    let front : List Row = take a rs ++ xs in
    let long : length front ≡ b = omega (arith, length-append (take a rs) xs, length-take-le a rs (omega arith)) in
    let is : written rs a xs ≡ front ++ drop b rs = sym (append_assoc (take a rs) xs (drop b rs)) in
    let on : b + length ys ≡ a + length (xs ++ ys) = omega (arith, length-append xs ys) in
    ap (λ w. take b w ++ (ys ++ drop (b + length ys) w)) is
    ∙ ap (λ l. l ++ (ys ++ drop (b + length ys) (front ++ drop b rs))) (take_at front (drop b rs) b long)
    ∙ ap (λ l. front ++ (ys ++ l)) (sym (drop-drop (length ys) b (front ++ drop b rs)) ∙ ap (drop (length ys)) (drop_at front (drop b rs) b long) ∙ drop-drop (length ys) b rs ∙ ap (λ n. drop n rs) on)
    ∙ append_assoc (take a rs) xs (ys ++ drop (a + length (xs ++ ys)) rs)
    ∙ ap (λ l. take a rs ++ l) (sym (append_assoc xs ys (drop (a + length (xs ++ ys)) rs)))

-- ## One part on: it trades, or it does not

pub row_here : (t : Step) (a v : ℕ) (ps : List Part) (xs : List ℕ) (i : ℕ) (d : Part) → i < length ps → length xs ≡ length ps → 0 < get_or xs i 0
    → rows_of t a v (drop i ps) (drop i xs) ≡ Trade t (get_or ps i d).order a v (get_or xs i 0) ∷ rows_of t a v (drop (i + 1) ps) (drop (i + 1) xs)
row_here t a v ps xs i d lt each pos =
    ap (λ l. rows_of t a v l (drop i xs)) (drop_more ps i d lt) ∙ ap (rows_of t a v (get_or ps i d ∷ drop (i + 1) ps)) (drop_more xs i 0 (omega arith)) ∙ rw (ne_eqb (get_or xs i 0) 0 (λ e. omega arith))

pub row_none : (t : Step) (a v : ℕ) (ps : List Part) (xs : List ℕ) (i : ℕ) (d : Part) → i < length ps → length xs ≡ length ps → get_or xs i 0 ≤ 0
    → rows_of t a v (drop i ps) (drop i xs) ≡ rows_of t a v (drop (i + 1) ps) (drop (i + 1) xs)
row_none t a v ps xs i d lt each none =
    ap (λ l. rows_of t a v l (drop i xs)) (drop_more ps i d lt) ∙ ap (rows_of t a v (get_or ps i d ∷ drop (i + 1) ps)) (drop_more xs i 0 (omega arith)) ∙ rw (eq-eqb (get_or xs i 0) 0 (omega arith))
