-- Levels whose parts stand one after the other. Assumes nothing.
use Rattle.std.proofs.Common.{◌≡◌, ℕ, zero, suc, ◌+◌, ◌<◌, ◌≤◌, Bool, true, false, cond, not, ◌&&◌, eqb, ltb, List, [], ◌∷◌, ◌++◌, length, get_or, take, drop, set, filter, sym, refl, ap, ◌∙◌, arith}
use Rattle.std.proofs.lemmas.Bool.{ne_eqb, ltb-false}
use Rattle.std.proofs.lemmas.Bool.Decides.{nat_tests}
use Rattle.std.specs.List.{insert}
use Rattle.std.proofs.lemmas.List.{length-take, length-drop, take-take, drop-drop, drop-take, take_at, drop_at}
use Rattle.rules.specs.Books.{Level, level, queue}
use Rattle.rules.specs.Rules.{empty, holds}
use Rattle.rules.specs.declared.orders.Part.{Part}
use Rattle.levels.specs.Splices.{spliced}
use Rattle.allocation.specs.Memory.{wheel_of}
use Rattle.levels.specs.Heads.{size, span, level_of, levels, count}
use Rattle.levels.specs.declared.heads.QueueHead.{QueueHead}
use Rattle.levels.specs.declared.heads.LevelHead.{LevelHead}
use Rattle.allocation.specs.declared.wheels.Wheel.{Wheel}
use Rattle.levels.proofs.Stretches.{take_spliced, drop_spliced, past_spliced}

-- ## Lengths

pub length_levels : (hs : List LevelHead) (ps : List Part) → length (levels hs ps) ≡ length hs
length_levels [] ps = refl
length_levels (r ∷ hs) ps = ap suc (length_levels hs (drop (size r) ps))

pub span_at : (hs : List LevelHead) (i : ℕ) (d : LevelHead) → i < length hs → span (take i hs) + size (get_or hs i d) ≤ span hs
span_at [] i d lt = absurd (omega arith)
span_at (r ∷ hs) zero d lt = omega arith
span_at (r ∷ hs) (suc i) d lt = omega (arith, span_at hs i d (omega arith))

pub span_set : (hs : List LevelHead) (i : ℕ) (r d : LevelHead) → i < length hs → span (set hs i r) + size (get_or hs i d) ≡ span hs + size r
span_set [] i r d lt = absurd (omega arith)
span_set (q ∷ hs) zero r d lt = omega arith
span_set (q ∷ hs) (suc i) r d lt = omega (arith, span_set hs i r d (omega arith))

pub count_levels : (hs : List LevelHead) (ps : List Part) → span hs ≤ length ps → count (levels hs ps) ≡ span hs
count_levels [] ps h = refl
count_levels (r ∷ hs) ps h =
    omega (arith, count_levels hs (drop (size r) ps) (omega (arith, length-drop (size r) ps)), length-drop (size r) ps, length-take r.shown.count ps, length-take r.hidden.count (drop r.shown.count ps), length-drop r.shown.count ps)

-- ## One level, and those before and after it

pub level_at : (hs : List LevelHead) (ps : List Part) (i : ℕ) (r : LevelHead) (d : Level) → i < length hs → get_or (levels hs ps) i d ≡ level_of (get_or hs i r) (drop (span (take i hs)) ps)
level_at [] ps i r d lt = absurd (omega arith)
level_at (q ∷ hs) ps zero r d lt = refl
level_at (q ∷ hs) ps (suc i) r d lt =
    level_at hs (drop (size q) ps) i r d (omega arith) ∙ ap (level_of (get_or hs i r)) (drop-drop (span (take i hs)) (size q) ps)

pub take_levels : (hs : List LevelHead) (ps : List Part) (i : ℕ) → take i (levels hs ps) ≡ levels (take i hs) ps
take_levels hs ps zero = refl
take_levels [] ps (suc i) = refl
take_levels (r ∷ hs) ps (suc i) = ap (λ l. level_of r ps ∷ l) (take_levels hs (drop (size r) ps) i)

pub drop_levels : (hs : List LevelHead) (ps : List Part) (i : ℕ) → drop i (levels hs ps) ≡ levels (drop i hs) (drop (span (take i hs)) ps)
drop_levels hs ps zero = refl
drop_levels [] ps (suc i) = refl
drop_levels (r ∷ hs) ps (suc i) =
    drop_levels hs (drop (size r) ps) i ∙ ap (levels (drop i hs)) (drop-drop (span (take i hs)) (size r) ps)

pub levels_append : (hs gs : List LevelHead) (ps : List Part) → levels (hs ++ gs) ps ≡ levels hs ps ++ levels gs (drop (span hs) ps)
levels_append [] gs ps = refl
levels_append (r ∷ hs) gs ps =
    ap (λ l. level_of r ps ∷ l) (levels_append hs gs (drop (size r) ps) ∙ ap (λ l. levels hs (drop (size r) ps) ++ levels gs l) (drop-drop (span hs) (size r) ps))

-- a level without parts, made at a place
pub insert_level : (hs : List LevelHead) (ps : List Part) (i : ℕ) (r : LevelHead) → size r ≡ 0 → levels (insert hs i r) ps ≡ insert (levels hs ps) i (level_of r (drop (span (take i hs)) ps))
insert_level hs ps i r none =
    let at : ℕ = span (take i hs) in
    levels_append (take i hs) (r ∷ drop i hs) ps
    ∙ ap (λ l. l ++ (level_of r (drop at ps) ∷ levels (drop i hs) (drop (size r) (drop at ps)))) (sym (take_levels hs ps i))
    ∙ ap (λ l. take i (levels hs ps) ++ (level_of r (drop at ps) ∷ l)) (ap (λ n. levels (drop i hs) (drop n (drop at ps))) none ∙ sym (drop_levels hs ps i))

-- ## A level changes

same_level : (r : LevelHead) (ps qs : List Part) (n : ℕ) → size r ≤ n → take n qs ≡ take n ps → level_of r qs ≡ level_of r ps
same_level r ps qs n le e =
    let s : ℕ = r.shown.count in
    let h : ℕ = r.hidden.count in
    let whole : take (s + h) qs ≡ take (s + h) ps = sym (take-take (s + h) n qs le) ∙ ap (take (s + h)) e ∙ take-take (s + h) n ps le in
    let front : take s qs ≡ take s ps = sym (take-take s (s + h) qs (omega arith)) ∙ ap (take s) whole ∙ take-take s (s + h) ps (omega arith) in
    let back : take h (drop s qs) ≡ take h (drop s ps) = sym (drop-take s h qs) ∙ ap (drop s) whole ∙ drop-take s h ps in
    ap (λ l. level r.price (queue l (wheel_of r.shown.wheel)) (queue (take h (drop s qs)) (wheel_of r.hidden.wheel))) front
    ∙ ap (λ l. level r.price (queue (take s ps) (wheel_of r.shown.wheel)) (queue l (wheel_of r.hidden.wheel))) back

-- one level changes, and its parts; those before and after do not
pub set_level : (hs : List LevelHead) (ps qs : List Part) (i : ℕ) (r d : LevelHead) → i < length hs
    → take (span (take i hs)) qs ≡ take (span (take i hs)) ps
    → drop (span (take i hs) + size r) qs ≡ drop (span (take i hs) + size (get_or hs i d)) ps
    → levels (set hs i r) qs ≡ set (levels hs ps) i (level_of r (drop (span (take i hs)) qs))
set_level [] ps qs i r d lt before after = absurd (omega arith)
set_level (q ∷ hs) ps qs zero r d lt before after =
    ap (λ l. level_of r qs ∷ levels hs l) (ap (λ n. drop n qs) (omega arith) ∙ after ∙ ap (λ n. drop n ps) (omega arith))
set_level (q ∷ hs) ps qs (suc i) r d lt before after =
    let a : ℕ = span (take i hs) in
    let head : level_of q qs ≡ level_of q ps = same_level q ps qs (size q + a) (omega arith) before in
    let before' : take a (drop (size q) qs) ≡ take a (drop (size q) ps) = sym (drop-take (size q) a qs) ∙ ap (drop (size q)) before ∙ drop-take (size q) a ps in
    let after' : drop (a + size r) (drop (size q) qs) ≡ drop (a + size (get_or hs i d)) (drop (size q) ps) =
    drop-drop (a + size r) (size q) qs ∙ ap (λ n. drop n qs) (omega arith) ∙ after ∙ ap (λ n. drop n ps) (omega arith) ∙ sym (drop-drop (a + size (get_or hs i d)) (size q) ps) in
    ap (λ l. l ∷ levels (set hs i r) (drop (size q) qs)) head
    ∙ ap (λ l. level_of q ps ∷ l) (set_level hs (drop (size q) ps) (drop (size q) qs) i r d (omega arith) before' after' ∙ ap (λ l. set (levels hs (drop (size q) ps)) i (level_of r l)) (drop-drop a (size q) qs))

abbrev pub queue_head : Wheel → ℕ → QueueHead
queue_head w n = record { count = n; wheel = w }

abbrev pub level_head : ℕ → QueueHead → QueueHead → LevelHead
level_head v s h = record { price = v; shown = s; hidden = h }

-- the shown parts of a level are replaced
pub edit_shown : (hs : List LevelHead) (ps mid : List Part) (i : ℕ) (w : Wheel) (d : LevelHead) (e : Level) → i < length hs → span hs ≤ length ps
    → levels (set hs i (level_head (get_or hs i d).price (queue_head w (length mid)) (get_or hs i d).hidden)) (spliced ps (span (take i hs)) (span (take i hs) + (get_or hs i d).shown.count) mid)
    ≡ set (levels hs ps) i (level (get_or (levels hs ps) i e).price (queue mid (wheel_of w)) (get_or (levels hs ps) i e).hidden)
edit_shown hs ps mid i w d e lt whole =
    let at : ℕ = span (take i hs) in
    let q : LevelHead = get_or hs i d in
    let s : ℕ = q.shown.count in
    let h : ℕ = q.hidden.count in
    let r : LevelHead = level_head q.price (queue_head w (length mid)) q.hidden in
    let qs : List Part = spliced ps at (at + s) mid in
    let fits : at + size q ≤ span hs = span_at hs i d lt in
    let le : at ≤ length ps = omega arith in
    let after : drop (at + size r) qs ≡ drop (at + size q) ps =
    ap (λ n. drop n qs) (omega arith) ∙ sym (drop-drop h (at + length mid) qs) ∙ ap (drop h) (past_spliced ps at (at + s) mid le) ∙ drop-drop h (at + s) ps ∙ ap (λ n. drop n ps) (omega arith) in
    let here : drop at qs ≡ mid ++ drop (at + s) ps = drop_spliced ps at (at + s) mid le in
    let shown : take (length mid) (drop at qs) ≡ mid = ap (take (length mid)) here ∙ take_at mid (drop (at + s) ps) (length mid) refl in
    let hidden : take h (drop (length mid) (drop at qs)) ≡ take h (drop s (drop at ps)) =
    ap (take h) (ap (drop (length mid)) here ∙ drop_at mid (drop (at + s) ps) (length mid) refl ∙ sym (drop-drop s at ps)) in
    set_level hs ps qs i r d lt (take_spliced ps at (at + s) mid le) after
    ∙ ap (set (levels hs ps) i)
    (ap (λ l. level q.price (queue l (wheel_of w)) (queue (take h (drop (length mid) (drop at qs))) (wheel_of q.hidden.wheel))) shown
    ∙ ap (λ l. level q.price (queue mid (wheel_of w)) (queue l (wheel_of q.hidden.wheel))) hidden
    ∙ ap (λ l. level l.price (queue mid (wheel_of w)) l.hidden) (sym (level_at hs ps i d e lt)))

-- the hidden parts of a level are replaced
pub edit_hidden : (hs : List LevelHead) (ps mid : List Part) (i : ℕ) (w : Wheel) (d : LevelHead) (e : Level) → i < length hs → span hs ≤ length ps
    → levels (set hs i (level_head (get_or hs i d).price (get_or hs i d).shown (queue_head w (length mid)))) (spliced ps (span (take i hs) + (get_or hs i d).shown.count) (span (take i hs) + (get_or hs i d).shown.count + (get_or hs i d).hidden.count) mid)
    ≡ set (levels hs ps) i (level (get_or (levels hs ps) i e).price (get_or (levels hs ps) i e).shown (queue mid (wheel_of w)))
edit_hidden hs ps mid i w d e lt whole =
    let at : ℕ = span (take i hs) in
    let q : LevelHead = get_or hs i d in
    let s : ℕ = q.shown.count in
    let h : ℕ = q.hidden.count in
    let r : LevelHead = level_head q.price q.shown (queue_head w (length mid)) in
    let qs : List Part = spliced ps (at + s) (at + s + h) mid in
    let fits : at + size q ≤ span hs = span_at hs i d lt in
    let le : at + s ≤ length ps = omega arith in
    let front : take (at + s) qs ≡ take (at + s) ps = take_spliced ps (at + s) (at + s + h) mid le in
    let before : take at qs ≡ take at ps = sym (take-take at (at + s) qs (omega arith)) ∙ ap (take at) front ∙ take-take at (at + s) ps (omega arith) in
    let after : drop (at + size r) qs ≡ drop (at + size q) ps =
    ap (λ n. drop n qs) (omega arith) ∙ past_spliced ps (at + s) (at + s + h) mid le ∙ ap (λ n. drop n ps) (omega arith) in
    let shown : take s (drop at qs) ≡ take s (drop at ps) = sym (drop-take at s qs) ∙ ap (drop at) front ∙ drop-take at s ps in
    let hidden : take (length mid) (drop s (drop at qs)) ≡ mid =
    ap (take (length mid)) (drop-drop s at qs ∙ drop_spliced ps (at + s) (at + s + h) mid le) ∙ take_at mid (drop (at + s + h) ps) (length mid) refl in
    set_level hs ps qs i r d lt before after
    ∙ ap (set (levels hs ps) i)
    (ap (λ l. level q.price (queue l (wheel_of q.shown.wheel)) (queue (take (length mid) (drop s (drop at qs))) (wheel_of w))) shown
    ∙ ap (λ l. level q.price (queue (take s (drop at ps)) (wheel_of q.shown.wheel)) (queue l (wheel_of w))) hidden
    ∙ ap (λ l. level l.price l.shown (queue mid (wheel_of w))) (sym (level_at hs ps i d e lt)))

-- ## Parts counted

pub span_more : (hs : List LevelHead) (k : ℕ) (d : LevelHead) → k < length hs → span (take (k + 1) hs) ≡ span (take k hs) + size (get_or hs k d)
span_more [] k d lt = absurd (omega arith)
span_more (r ∷ hs) zero d lt = omega arith
span_more (r ∷ hs) (suc k) d lt =
    let up : suc k + 1 ≡ suc (k + 1) = omega arith in
    let on : span (take (suc k + 1) (r ∷ hs)) ≡ size r + span (take (k + 1) hs) = ap (λ n. span (take n (r ∷ hs))) up in
    omega (arith, on, span_more hs k d (omega arith))

pub span_inserted : (hs : List LevelHead) (i : ℕ) (r : LevelHead) → span (insert hs i r) ≡ span hs + size r
span_inserted hs zero r = omega arith
span_inserted [] (suc i) r = omega arith
span_inserted (q ∷ hs) (suc i) r = omega (arith, span_inserted hs i r)

-- ## Levels without a part go

some : (n : ℕ) (ps : List Part) → n ≤ length ps → empty (take n ps) ≡ eqb n 0
some zero ps h = refl
some (suc n) [] h = absurd (omega arith)
some (suc n) (p ∷ ps) h = sym (ne_eqb (suc n) 0 (λ e. omega arith))

pub full_holds : (r : LevelHead) (ps : List Part) → size r ≤ length ps → holds (level_of r ps) ≡ ltb 0 (size r)
full_holds r ps le =
    let s : ℕ = r.shown.count in
    let h : ℕ = r.hidden.count in
    rw (some s ps (omega arith), some h (drop s ps) (omega (arith, length-drop s ps))) (tests s h)
  where
    tests : (s h : ℕ) → not (eqb s 0 && eqb h 0) ≡ ltb 0 (s + h)
    tests s h = grind (arith, nat_tests)

pub tidy_levels : (hs : List LevelHead) (ps : List Part) → span hs ≤ length ps → levels (filter (λ r. ltb 0 (size r)) hs) ps ≡ filter holds (levels hs ps)
tidy_levels [] ps le = refl
tidy_levels (r ∷ hs) ps le =
    go (ltb 0 (size r)) refl (tidy_levels hs (drop (size r) ps) (omega (arith, length-drop (size r) ps)))
    ∙ ap (λ t. cond t (level_of r ps ∷ filter holds (levels hs (drop (size r) ps))) (filter holds (levels hs (drop (size r) ps)))) (sym (full_holds r ps (omega arith)))
  where
    go : (t : Bool) → ltb 0 (size r) ≡ t → levels (filter (λ r. ltb 0 (size r)) hs) (drop (size r) ps) ≡ filter holds (levels hs (drop (size r) ps)) → levels (cond t (r ∷ filter (λ r. ltb 0 (size r)) hs) (filter (λ r. ltb 0 (size r)) hs)) ps ≡ cond t (level_of r ps ∷ filter holds (levels hs (drop (size r) ps))) (filter holds (levels hs (drop (size r) ps)))
    go true e more = ap (λ l. level_of r ps ∷ l) more
    go false e more =
        let none : 0 ≡ size r = omega (arith, ltb-false 0 (size r) e) in
        ap (λ n. levels (filter (λ r. ltb 0 (size r)) hs) (drop n ps)) none ∙ more

-- a level without parts goes
pub remove_level : (hs : List LevelHead) (ps : List Part) (i : ℕ) (d : LevelHead) → i < length hs → size (get_or hs i d) ≡ 0 → levels (take i hs ++ drop (i + 1) hs) ps ≡ take i (levels hs ps) ++ drop (i + 1) (levels hs ps)
remove_level hs ps i d lt none =
    let same : span (take i hs) ≡ span (take (i + 1) hs) = omega (arith, span_more hs i d lt) in
    levels_append (take i hs) (drop (i + 1) hs) ps
    ∙ ap (λ l. l ++ levels (drop (i + 1) hs) (drop (span (take i hs)) ps)) (sym (take_levels hs ps i))
    ∙ ap (λ n. take i (levels hs ps) ++ levels (drop (i + 1) hs) (drop n ps)) same
    ∙ ap (λ l. take i (levels hs ps) ++ l) (sym (drop_levels hs ps (i + 1)))

pub span_removed : (hs : List LevelHead) (i : ℕ) (d : LevelHead) → i < length hs → span (take i hs ++ drop (i + 1) hs) + size (get_or hs i d) ≡ span hs
span_removed [] i d lt = absurd (omega arith)
span_removed (r ∷ hs) zero d lt = omega arith
span_removed (r ∷ hs) (suc i) d lt =
    let up : suc i + 1 ≡ suc (i + 1) = omega arith in
    let on : span (take (suc i) (r ∷ hs) ++ drop (suc i + 1) (r ∷ hs)) ≡ size r + span (take i hs ++ drop (i + 1) hs) = ap (λ n. span (take (suc i) (r ∷ hs) ++ drop n (r ∷ hs))) up in
    omega (arith, on, span_removed hs i d (omega arith))

pub span_kept : (hs : List LevelHead) → span (filter (λ r. ltb 0 (size r)) hs) ≡ span hs
span_kept [] = refl
span_kept (r ∷ hs) = go (ltb 0 (size r)) refl (span_kept hs)
  where
    go : (t : Bool) → ltb 0 (size r) ≡ t → span (filter (λ r. ltb 0 (size r)) hs) ≡ span hs → span (cond t (r ∷ filter (λ r. ltb 0 (size r)) hs) (filter (λ r. ltb 0 (size r)) hs)) ≡ size r + span hs
    go true e more = omega arith
    go false e more = omega (arith, ltb-false 0 (size r) e)
