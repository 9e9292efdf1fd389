use Rattle.std.proofs.Common.{◌≡◌, ltb, filter, rules, ap, ◌∙◌, arith}
use Rattle.arrays.specs.Items.{items}
use Rattle.levels.specs.Heads.{size, span, levels}
use Rattle.levels.proofs.Flat.{tidy_levels, span_kept}
use Rattle.levels.proofs.sides.Levels.tidy.Goals as goal

pub invariant_of-self : goal.invariant_of-self
invariant_of-self c =
    let s = c.args.self.now in
    let kept : items c.retain.new.self ≡ filter (λ h. ltb 0 (size h)) (items s.heads) = c.retain.ensures (λ h. ltb 0 (size h)) (λ x b k. search rules) in
    record { whole = ap span kept ∙ span_kept (items s.heads) ∙ s.whole; limits = s.limits }

pub returns : goal.returns
returns c =
    let s = c.args.self.now in
    let kept : items c.retain.new.self ≡ filter (λ h. ltb 0 (size h)) (items s.heads) = c.retain.ensures (λ h. ltb 0 (size h)) (λ x b k. search rules) in
    ap (λ l. levels l (items s.parts)) kept ∙ tidy_levels (items s.heads) (items s.parts) (omega (arith, s.whole))
