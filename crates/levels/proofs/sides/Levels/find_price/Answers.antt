use Rattle.std.proofs.Common.{eqb, sym, ap, ◌∙◌}
use Rattle.std.specs.List.{position}
use Rattle.arrays.specs.Items.{items}
use Rattle.levels.specs.declared.heads.LevelHead.{LevelHead}
use Rattle.levels.proofs.Firsts.{position_level}
use Rattle.levels.proofs.sides.Levels.find_price.Goals as goal

pub returns : goal.returns
returns c =
    let s = c.args.self.now in
    c.first_at_price.ensures ∙ ap (position (λ (h : LevelHead). eqb h.price c.args.price)) c.as_slice.ensures ∙ sym (position_level (λ w. eqb w c.args.price) (items s.heads) (items s.parts))
