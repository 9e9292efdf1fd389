use Rattle.std.proofs.Common.{◌≡◌, ◌+◌, ◌<◌, List, [], ◌∷◌, ◌++◌, length, get_or, take, drop, set, sym, ap, ◌∙◌, arith, rules, lit<}
use Rattle.std.proofs.ByRecursion.{All-push}
use Rattle.std.proofs.lemmas.List.{length_push}
use Rattle.allocation.specs.Wheels.{ensure_seat}
use Rattle.allocation.specs.Memory.{wheel_of}
use Rattle.arrays.specs.Items.{items}
use Rattle.rules.specs.declared.orders.Part.{Part}
use Rattle.levels.specs.Limits.{WithinLimits, within_limits}
use Rattle.levels.specs.Splices.{spliced}
use Rattle.levels.specs.Heads.{span, levels}
use Rattle.levels.specs.Queues.{head_of, with_head}
use Rattle.levels.proofs.Bounded.{limits_part, limits_spliced}
use Rattle.levels.proofs.Flat.{queue_head}
use Rattle.levels.proofs.Laws.{put_law, whole_law, length_here}
use Rattle.levels.proofs.Stretches.{inserted_spliced}
use Rattle.levels.proofs.Facts.{prices, parts_are}
use Rattle.levels.proofs.sides.Levels.put.Goals as goal

pub at-requires : goal.at-requires
at-requires c = (lit< tt, omega (arith, c.requires.place, prices c.args.self.now))

pub insert-requires : goal.insert-requires
insert-requires c =
    let s = c.args.self.now in
    let q = c.at.result.now in
    let many = ap (λ x. x.count) (c.queue.ensures ∙ ap (head_of c.args.step) c.at.ensures) in
    (lit< tt, (omega (arith, c.requires.room, parts_are s), omega (arith, c.queue_start-start.ensures.within q, many)))

pub edit-requires : goal.edit-requires
edit-requires c = (lit< tt, omega (arith, c.requires.place, prices c.args.self.now))

pub invariant_of-self : goal.invariant_of-self
invariant_of-self c =
    let s = c.args.self.now in
    let t = c.args.step in
    let q = c.at.result.now in
    let hs = items s.heads in
    let ps = items s.parts in
    let k = c.queue_start-start.result in
    let n = c.queue.result.now.count in
    let heads : items c.edit.new.self ≡ set hs c.args.i (with_head t (queue_head c.ensure_seat.new.self (n + 1)) (get_or hs c.args.i q)) =
    (c.edit.ensures q).2 ∙ ap (set hs c.args.i) (search rules) in
    let lt : c.args.i < length hs = omega (arith, c.requires.place, prices s) in
    let start = c.queue_start-start.ensures.start q in
    let many : n ≡ (head_of t (get_or hs c.args.i q)).count = ap (λ x. x.count) (c.queue.ensures ∙ ap (head_of t) c.at.ensures) in
    let old : List Part = take n (drop k ps) in
    let mid : List Part = old ++ (c.args.part ∷ []) in
    let long : n + 1 ≡ length mid = omega (arith, length_push old c.args.part, length_here t hs ps c.args.i k n q lt start many (omega (arith, s.whole))) in
    let after : items c.insert.new.self ≡ spliced ps k (k + n) mid = c.insert.ensures ∙ inserted_spliced ps k n c.args.part in record {
      whole = ap span heads ∙ whole_law t hs ps c.args.i k n q lt start many mid (n + 1) c.ensure_seat.new.self s.whole long ∙ ap length (sym after);
      limits =
          ap within_limits after
          ∙ limits_spliced ps k (k + n) mid s.limits (All-push WithinLimits old c.args.part (limits_part ps n k s.limits) (c.requires.known.1, c.requires.small));
    }

pub returns : goal.returns
returns c = λ d.
    let s = c.args.self.now in
    let t = c.args.step in
    let q = c.at.result.now in
    let hs = items s.heads in
    let ps = items s.parts in
    let k = c.queue_start-start.result in
    let n = c.queue.result.now.count in
    let w = c.ensure_seat.new.self in
    let heads : items c.edit.new.self ≡ set hs c.args.i (with_head t (queue_head c.ensure_seat.new.self (n + 1)) (get_or hs c.args.i q)) =
    (c.edit.ensures q).2 ∙ ap (set hs c.args.i) (search rules) in
    let is : c.queue.result.now ≡ head_of t (get_or hs c.args.i q) = c.queue.ensures ∙ ap (head_of t) c.at.ensures in
    ap (λ l. levels l (items c.insert.new.self)) heads
    ∙ ap (levels (set hs c.args.i (with_head t (queue_head w (n + 1)) (get_or hs c.args.i q)))) (c.insert.ensures ∙ inserted_spliced ps k n c.args.part)
    ∙ put_law t hs ps c.args.i k n q (omega (arith, c.requires.place, prices s)) (c.queue_start-start.ensures.start q) (ap (λ x. x.count) is) c.args.part w d (omega (arith, s.whole))
    (c.ensure_seat.ensures ∙ ap (λ x. ensure_seat (wheel_of x.wheel) c.args.part.participant) is)
