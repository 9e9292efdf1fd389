use Rattle.std.proofs.Common.{◌≡◌, length, not, sym, ap, ◌∙◌, arith}
use Rattle.std.specs.List.{position_or_len}
use Rattle.std.proofs.lemmas.List.Sums.{prefix_len-le-length}
use Rattle.std.specs.Option.{unwrap_or}
use Rattle.arrays.specs.Items.{items}
use Rattle.rules.specs.Books.{Level, good, ranked_by}
use Rattle.levels.specs.Sides.{levels_of}
use Rattle.levels.specs.declared.heads.LevelHead.{LevelHead}
use Rattle.levels.proofs.Firsts.{first_level, or_past}
use Rattle.levels.proofs.Places.{spot, skips, stops, good_same, same_total}
use Rattle.levels.proofs.sides.Levels.seek.Goals as goal

pub returns : goal.returns
returns g c =
    let s = c.args.self.now in
    let rank = ranked_by g.K.Ranking.initial g.K.Ranking.good in
    let is : c.unwrap_or.result ≡ spot rank c.args.side c.args.price (levels_of s) =
    c.unwrap_or.ensures ∙ ap (λ o. unwrap_or o (length c.as_slice-heads.result.now)) c.first_no_better.ensures
    ∙ or_past (λ (h : LevelHead). good rank c.args.side c.args.price h.price) c.as_slice-heads.result.now
    ∙ ap (position_or_len (λ (h : LevelHead). good rank c.args.side c.args.price h.price)) c.as_slice-heads.ensures ∙ sym (first_level (good rank c.args.side c.args.price) (items s.heads) (items s.parts)) in
    record {
      within = omega (arith, is, prefix_len-le-length (λ (l : Level). not (good rank c.args.side c.args.price l.price)) (levels_of s));
      skips = λ f. rw is (skips rank c.args.side c.args.price f (good_same rank (same_total g.K.Ranking.good g.met.K.Ranking.ordered) c.args.side) (levels_of s));
      stops = rw is (stops rank c.args.side c.args.price (levels_of s));
    }
