-- The queue of a step, from memory and back. Assumes nothing.
use Rattle.std.proofs.Common.{◌≡◌, ℕ, ◌+◌, ◌<◌, ◌≤◌, Bool, ltb, List, [], ◌∷◌, ◌++◌, length, get_or, take, drop, set, filter, sym, refl, ap, ◌∙◌, add-zero, arith}
use Rattle.std.proofs.lemmas.List.{drop-drop, length_push, length-take, length-drop, length-set, set-get_or}
use Rattle.allocation.specs.Wheels as Wheels
use Rattle.allocation.specs.Dealings.{interest, claims_left}
use Rattle.allocation.specs.Memory.{wheel_of}
use Rattle.allocation.specs.declared.wheels.Wheel.{Wheel}
use Rattle.rules.specs.Books.{Level, Queue, queue}
use Rattle.rules.specs.Quantities.{claims}
use Rattle.rules.specs.Changes.{lowered, settle, put}
use Rattle.rules.specs.Trading.{queue_of, with_queue}
use Rattle.rules.specs.declared.orders.Part.{Part}
use Rattle.rules.specs.declared.phases.Step.{Step}
use Rattle.rules.specs.declared.phases.Step.TheVariants.{Setter, Displayed, Hidden}
use Rattle.rules.proofs.Amounts.{interest_lowered}
use Rattle.levels.specs.Splices.{spliced}
use Rattle.levels.specs.Heads.{size, span, queue_of_head, level_of, levels}
use Rattle.levels.specs.Queues.{head_of, with_head, ahead}
use Rattle.levels.specs.declared.heads.LevelHead.{LevelHead}
use Rattle.levels.proofs.Flat.{queue_head, level_at, edit_shown, edit_hidden, span_at, span_set}
use Rattle.levels.proofs.Stretches.{length_spliced, set_spliced}

pub head_fits : (t : Step) (h : LevelHead) → ahead t h + (head_of t h).count ≤ size h
head_fits Setter h = omega arith
head_fits Displayed h = omega arith
head_fits Hidden h = omega arith

head_size : (t : Step) (h : LevelHead) (w : Wheel) (n : ℕ) → size (with_head t (queue_head w n) h) + (head_of t h).count ≡ size h + n
head_size Setter h w n = omega arith
head_size Displayed h w n = omega arith
head_size Hidden h w n = omega arith

same_head : (t : Step) (h : LevelHead) → with_head t (queue_head (head_of t h).wheel (head_of t h).count) h ≡ h
same_head Setter h = refl
same_head Displayed h = refl
same_head Hidden h = refl

-- a step's queue in a level
queue_at : (t : Step) (h : LevelHead) (ps : List Part) (a : ℕ) → queue_of t (level_of h (drop a ps)) ≡ queue_of_head (head_of t h) (drop (a + ahead t h) ps)
queue_at Setter h ps a = ap (λ n. queue_of_head h.shown (drop n ps)) (sym (add-zero a))
queue_at Displayed h ps a = ap (λ n. queue_of_head h.shown (drop n ps)) (sym (add-zero a))
queue_at Hidden h ps a = ap (queue_of_head h.hidden) (drop-drop h.shown.count a ps)

-- a step's queue is replaced
edit_queue : (t : Step) (hs : List LevelHead) (ps mid : List Part) (i : ℕ) (w : Wheel) (d : LevelHead) (e : Level) → i < length hs → span hs ≤ length ps
    → levels (set hs i (with_head t (queue_head w (length mid)) (get_or hs i d))) (spliced ps (span (take i hs) + ahead t (get_or hs i d)) (span (take i hs) + ahead t (get_or hs i d) + (head_of t (get_or hs i d)).count) mid)
    ≡ set (levels hs ps) i (with_queue t (queue mid (wheel_of w)) (get_or (levels hs ps) i e))
edit_queue Setter hs ps mid i w d e lt whole = rw (add-zero (span (take i hs))) (edit_shown hs ps mid i w d e lt whole)
edit_queue Displayed hs ps mid i w d e lt whole = rw (add-zero (span (take i hs))) (edit_shown hs ps mid i w d e lt whole)
edit_queue Hidden hs ps mid i w d e lt whole = edit_hidden hs ps mid i w d e lt whole

-- The queue of the step t at i: c parts from k on.
module _ (t : Step) (hs : List LevelHead) (ps : List Part) (i k c : ℕ) (d : LevelHead) (lt : i < length hs) (start : k ≡ span (take i hs) + ahead t (get_or hs i d)) (many : c ≡ (head_of t (get_or hs i d)).count) where
  pub queue_here : (e : Level) → queue_of t (get_or (levels hs ps) i e) ≡ queue (take c (drop k ps)) (wheel_of (head_of t (get_or hs i d)).wheel)
  queue_here e =
      ap (queue_of t) (level_at hs ps i d e lt)
      ∙ queue_at t (get_or hs i d) ps (span (take i hs))
      ∙ ap (λ m. queue_of_head (head_of t (get_or hs i d)) (drop m ps)) (sym start)
      ∙ ap (λ m. queue (take m (drop k ps)) (wheel_of (head_of t (get_or hs i d)).wheel)) (sym many)

  pub parts_here : (e : Level) → take c (drop k ps) ≡ (queue_of t (get_or (levels hs ps) i e)).parts
  parts_here e = sym (ap (λ x. x.parts) (queue_here e))

  pub within_parts : span hs ≤ length ps → k + c ≤ length ps
  within_parts whole = omega (arith, span_at hs i d lt, head_fits t (get_or hs i d))

  pub length_here : span hs ≤ length ps → length (take c (drop k ps)) ≡ c
  length_here whole = omega (arith, within_parts whole, length-take c (drop k ps), length-drop k ps)

  -- other parts and another wheel
  pub edit_law : (mid : List Part) (n : ℕ) (w : Wheel) (e : Level) → span hs ≤ length ps → n ≡ length mid
      → levels (set hs i (with_head t (queue_head w n) (get_or hs i d))) (spliced ps k (k + c) mid) ≡ set (levels hs ps) i (with_queue t (queue mid (wheel_of w)) (get_or (levels hs ps) i e))
  edit_law mid n w e whole long =
      ap (λ m. levels (set hs i (with_head t (queue_head w m) (get_or hs i d))) (spliced ps k (k + c) mid)) long
      ∙ ap (λ m. levels (set hs i (with_head t (queue_head w (length mid)) (get_or hs i d))) (spliced ps k (k + m) mid)) many
      ∙ ap (λ m. levels (set hs i (with_head t (queue_head w (length mid)) (get_or hs i d))) (spliced ps m (m + (head_of t (get_or hs i d)).count) mid)) start
      ∙ edit_queue t hs ps mid i w d e lt whole

  -- the parts are then as many as the heads say
  pub whole_law : (mid : List Part) (n : ℕ) (w : Wheel) → span hs ≡ length ps → n ≡ length mid → span (set hs i (with_head t (queue_head w n) (get_or hs i d))) ≡ length (spliced ps k (k + c) mid)
  whole_law mid n w whole long =
      let within : k + c ≤ length ps = within_parts (omega (arith, whole)) in
      omega (arith, span_set hs i (with_head t (queue_head w n) (get_or hs i d)) d lt, head_size t (get_or hs i d) w n, length_spliced ps k (k + c) mid (omega arith) within)

  -- parts lose shares
  pub lower_law : (xs : List ℕ) (n : ℕ) (w : Wheel) (e : Level) → span hs ≤ length ps → n ≡ length (lowered (take c (drop k ps)) xs)
      → levels (set hs i (with_head t (queue_head w n) (get_or hs i d))) (spliced ps k (k + c) (lowered (take c (drop k ps)) xs))
      ≡ set (levels hs ps) i (with_queue t (queue (lowered (queue_of t (get_or (levels hs ps) i e)).parts xs) (wheel_of w)) (get_or (levels hs ps) i e))
  lower_law xs n w e whole long =
      edit_law (lowered (take c (drop k ps)) xs) n w e whole long
      ∙ ap (λ l. set (levels hs ps) i (with_queue t (queue (lowered l xs) (wheel_of w)) (get_or (levels hs ps) i e))) (parts_here e)

  -- a part comes last
  pub put_law : (p : Part) (w : Wheel) (e : Level) → span hs ≤ length ps → wheel_of w ≡ Wheels.ensure_seat (wheel_of (head_of t (get_or hs i d)).wheel) p.participant
      → levels (set hs i (with_head t (queue_head w (c + 1)) (get_or hs i d))) (spliced ps k (k + c) (take c (drop k ps) ++ (p ∷ [])))
      ≡ set (levels hs ps) i (with_queue t (put p (queue_of t (get_or (levels hs ps) i e))) (get_or (levels hs ps) i e))
  unfolding put
  put_law p w e whole seated =
      edit_law (take c (drop k ps) ++ (p ∷ [])) (c + 1) w e whole (omega (arith, length_push (take c (drop k ps)) p, length_here whole))
      ∙ ap (λ x. set (levels hs ps) i (with_queue t (queue (take c (drop k ps) ++ (p ∷ [])) x) (get_or (levels hs ps) i e))) seated
      ∙ ap (λ (x : Queue). set (levels hs ps) i (with_queue t (queue (x.parts ++ (p ∷ [])) (Wheels.ensure_seat x.wheel p.participant)) (get_or (levels hs ps) i e))) (sym (queue_here e))

  -- one part is another
  pub set_law : (j : ℕ) (p : Part) (e : Level) → span hs ≤ length ps → j < c
      → levels hs (set ps (k + j) p) ≡ set (levels hs ps) i (with_queue t (queue (set (queue_of t (get_or (levels hs ps) i e)).parts j p) (queue_of t (get_or (levels hs ps) i e)).wheel) (get_or (levels hs ps) i e))
  set_law j p e whole lt' =
      let q = head_of t (get_or hs i d) in
      let old : List Part = take c (drop k ps) in
      let long : c ≡ length (set old j p) = omega (arith, length_here whole, length-set old j p) in
      ap (λ l. levels l (set ps (k + j) p)) (sym (set-get_or hs i d) ∙ ap (set hs i) (sym (same_head t (get_or hs i d))) ∙ ap (λ n. set hs i (with_head t (queue_head q.wheel n) (get_or hs i d))) (sym many))
      ∙ ap (levels (set hs i (with_head t (queue_head q.wheel c) (get_or hs i d)))) (set_spliced ps k c j p (within_parts whole) lt')
      ∙ edit_law (set old j p) c q.wheel e whole long
      ∙ ap (λ (x : Queue). set (levels hs ps) i (with_queue t (queue (set x.parts j p) x.wheel) (get_or (levels hs ps) i e))) (sym (queue_here e))

-- ## Seats lost with the shares

kept_same : (f g : ℕ → Bool) (xs : List ℕ) → ((x : ℕ) → f x ≡ g x) → filter f xs ≡ filter g xs
kept_same f g [] h = refl
kept_same f g (x ∷ xs) h = rw (h x, kept_same f g xs h)

first_same : (f g : ℕ → Bool) (xs : List ℕ) → ((x : ℕ) → f x ≡ g x) → Wheels.first_stays f xs ≡ Wheels.first_stays g xs
first_same f g [] h = refl
first_same f g (x ∷ xs) h = h x

retain_same : (f g : ℕ → Bool) (w : Wheels.Wheel) → ((x : ℕ) → f x ≡ g x) → Wheels.retain f w ≡ Wheels.retain g w
retain_same f g w h = rw (kept_same f g w.seats h, first_same f g w.seats h)

pub settle_lowered : (w : Wheels.Wheel) (ps : List Part) (xs : List ℕ) → Wheels.retain (λ p. ltb 0 (interest p (claims_left (claims ps) xs))) w ≡ settle w (lowered ps xs)
settle_lowered w ps xs = retain_same (λ p. ltb 0 (interest p (claims_left (claims ps) xs))) (λ p. ltb 0 (interest p (claims (lowered ps xs)))) w (λ p. ap (ltb 0) (sym (interest_lowered p ps xs)))
