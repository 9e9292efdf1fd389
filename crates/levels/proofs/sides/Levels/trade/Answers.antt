use Rattle.std.proofs.Common.{◌≡◌, ◌+◌, ◌<◌, List, length, get_or, take, drop, set, sym, ap, ◌∙◌, arith, rules, lit<}
use Rattle.arrays.specs.Items.{items}
use Rattle.rules.specs.Books.{nothing_at}
use Rattle.rules.specs.Changes.{lowered}
use Rattle.rules.specs.declared.orders.Part.{Part}
use Rattle.levels.specs.Limits.{within_limits}
use Rattle.levels.specs.Heads.{span, levels}
use Rattle.levels.specs.Queues.{head_of, with_head}
use Rattle.levels.proofs.Bounded.{limits_part, limits_lowered, limits_spliced}
use Rattle.levels.proofs.Flat.{queue_head}
use Rattle.levels.proofs.Laws.{lower_law, whole_law, length_here, parts_here}
use Rattle.levels.proofs.Facts.{prices}
use Rattle.levels.proofs.sides.Levels.trade.Goals as goal

pub at-requires : goal.at-requires
at-requires c = (lit< tt, omega (arith, c.requires.place, prices c.args.self.now))

pub lower_each-count-requires-clause-each : goal.lower_each-count-requires-clause-each
lower_each-count-requires-clause-each c =
    let s = c.args.self.now in
    let t = c.args.step in
    let q = c.at.result.now in
    let hs = items s.heads in
    let ps = items s.parts in
    let k = c.queue_start-start.result in
    let n = c.queue.result.now.count in
    let lt : c.args.i < length hs = omega (arith, c.requires.place, prices s) in
    let start = c.queue_start-start.ensures.start q in
    let many : n ≡ (head_of t (get_or hs c.args.i q)).count = ap (λ x. x.count) (c.queue.ensures ∙ ap (head_of t) c.at.ensures) in
    c.requires.each ∙ ap length (sym (parts_here t hs ps c.args.i k n q lt start many (nothing_at 0))) ∙ length_here t hs ps c.args.i k n q lt start many (omega (arith, s.whole))

pub edit-requires : goal.edit-requires
edit-requires c = (lit< tt, omega (arith, c.requires.place, prices c.args.self.now))

pub invariant_of-self : goal.invariant_of-self
invariant_of-self c =
    let s = c.args.self.now in
    let t = c.args.step in
    let q = c.at.result.now in
    let f = c.lower_each-count in
    let hs = items s.heads in
    let ps = items s.parts in
    let k = c.queue_start-start.result in
    let n = c.queue.result.now.count in
    let heads : items c.edit.new.self ≡ set hs c.args.i (with_head t (queue_head c.args.wheel f.result) (get_or hs c.args.i q)) =
    (c.edit.ensures q).2 ∙ ap (set hs c.args.i) (search rules) in
    let many : n ≡ (head_of t (get_or hs c.args.i q)).count = ap (λ x. x.count) (c.queue.ensures ∙ ap (head_of t) c.at.ensures) in
    let mid : List Part = lowered (take n (drop k ps)) c.args.shares.now in record {
      whole = ap span heads
          ∙ whole_law t hs ps c.args.i k n q (omega (arith, c.requires.place, prices s)) (c.queue_start-start.ensures.start q) many mid f.result c.args.wheel s.whole f.ensures.count
          ∙ ap length (sym f.ensures.after);
      limits =
          ap within_limits f.ensures.after ∙ limits_spliced ps k (k + n) mid s.limits (limits_lowered (take n (drop k ps)) c.args.shares.now (limits_part ps n k s.limits));
    }

pub returns : goal.returns
returns c = λ d.
    let s = c.args.self.now in
    let t = c.args.step in
    let q = c.at.result.now in
    let f = c.lower_each-count in
    let hs = items s.heads in
    let ps = items s.parts in
    let k = c.queue_start-start.result in
    let n = c.queue.result.now.count in
    let heads : items c.edit.new.self ≡ set hs c.args.i (with_head t (queue_head c.args.wheel f.result) (get_or hs c.args.i q)) =
    (c.edit.ensures q).2 ∙ ap (set hs c.args.i) (search rules) in
    let many : n ≡ (head_of t (get_or hs c.args.i q)).count = ap (λ x. x.count) (c.queue.ensures ∙ ap (head_of t) c.at.ensures) in
    ap (λ l. levels l (items f.new.parts)) heads
    ∙ ap (levels (set hs c.args.i (with_head t (queue_head c.args.wheel f.result) (get_or hs c.args.i q)))) f.ensures.after
    ∙ lower_law t hs ps c.args.i k n q (omega (arith, c.requires.place, prices s)) (c.queue_start-start.ensures.start q) many c.args.shares.now f.result c.args.wheel d (omega (arith, s.whole)) f.ensures.count
