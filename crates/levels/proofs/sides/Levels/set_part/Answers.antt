use Rattle.std.proofs.Common.{◌≡◌, ℕ, ◌+◌, ◌<◌, length, get_or, take, set, sym, refl, ap, ◌∙◌, arith, lit<}
use Rattle.std.proofs.ByRecursion.{All-set}
use Rattle.std.proofs.lemmas.List.{length-set}
use Rattle.arrays.specs.Items.{items}
use Rattle.rules.specs.Books.{nothing_at}
use Rattle.levels.specs.Limits.{WithinLimits, within_limits}
use Rattle.rules.specs.Trading.{queue_of}
use Rattle.rules.specs.declared.phases.Step.{Step}
use Rattle.levels.specs.Heads.{span, levels}
use Rattle.levels.specs.Sides.{levels_of}
use Rattle.levels.specs.Queues.{head_of, ahead}
use Rattle.levels.specs.declared.heads.LevelHead.{LevelHead}
use Rattle.levels.specs.declared.sides.Levels.{Levels}
use Rattle.levels.proofs.Bounded.{limits_all, all_limits}
use Rattle.levels.proofs.Laws.{set_law, parts_here, length_here}
use Rattle.levels.proofs.Facts.{prices, bound, head_at}
use Rattle.levels.proofs.sides.Levels.set_part.Goals as goal

-- the place is one of the queue's
within : (s : Levels) (t : Step) (i k j : ℕ) (d : LevelHead) → i < length (levels_of s) → ((d : LevelHead) → k ≡ span (take i (items s.heads)) + ahead t (get_or (items s.heads) i d)) → j < length (queue_of t (get_or (levels_of s) i (nothing_at 0))).parts → j < (head_of t (get_or (items s.heads) i d)).count
within s t i k j d lt start lt' =
    let hs = items s.heads in
    let ps = items s.parts in
    let lt_heads : i < length hs = omega (arith, prices s) in
    omega (arith, ap length (parts_here t hs ps i k (head_of t (get_or hs i d)).count d lt_heads (start d) refl (nothing_at 0)), length_here t hs ps i k (head_of t (get_or hs i d)).count d lt_heads (start d) refl (omega (arith, s.whole)))

pub overflow_add-start : goal.overflow_add-start
overflow_add-start c =
    let s = c.args.self.now in
    let d = head_at (items s.heads) c.args.i (omega (arith, c.requires.place, prices s)) in
    record { fits = omega (arith, bound s, c.queue_start-start.ensures.within d, within s c.args.step c.args.i c.queue_start-start.result c.args.k d c.requires.place c.queue_start-start.ensures.start c.requires.within) }

pub set-requires : goal.set-requires
set-requires c =
    let s = c.args.self.now in
    let d = head_at (items s.heads) c.args.i (omega (arith, c.requires.place, prices s)) in
    (lit< tt, omega (arith, c.queue_start-start.ensures.within d, within s c.args.step c.args.i c.queue_start-start.result c.args.k d c.requires.place c.queue_start-start.ensures.start c.requires.within))

pub invariant_of-self : goal.invariant_of-self
invariant_of-self c =
    let s = c.args.self.now in
    let ps = items s.parts in
    let at = c.queue_start-start.result + c.args.k in record {
      whole = s.whole ∙ sym (ap length c.set.ensures ∙ length-set ps at c.args.part);
      limits = ap within_limits c.set.ensures ∙ all_limits (set ps at c.args.part) (All-set WithinLimits ps at c.args.part (c.requires.known, c.requires.small) (limits_all ps s.limits));
    }

pub returns : goal.returns
returns c = λ e.
    let s = c.args.self.now in
    let hs = items s.heads in
    let lt : c.args.i < length hs = omega (arith, c.requires.place, prices s) in
    let d = head_at hs c.args.i lt in
    ap (levels hs) c.set.ensures
    ∙ set_law c.args.step hs (items s.parts) c.args.i c.queue_start-start.result (head_of c.args.step (get_or hs c.args.i d)).count d lt (c.queue_start-start.ensures.start d) refl c.args.k c.args.part e (omega (arith, s.whole))
    (within s c.args.step c.args.i c.queue_start-start.result c.args.k d c.requires.place c.queue_start-start.ensures.start c.requires.within)
