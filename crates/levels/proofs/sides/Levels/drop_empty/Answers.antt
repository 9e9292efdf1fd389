use Rattle.std.proofs.Common.{◌≡◌, ℕ, ◌+◌, ◌<◌, ◌≤◌, cond, ltb, ◌++◌, length, get_or, take, drop, sym, ap, ◌∙◌, arith, lit<}
use Rattle.std.proofs.lemmas.List.{length-drop}
use Rattle.std.proofs.lemmas.Bool.{ltb-false}
use Rattle.arrays.specs.Items.{items}
use Rattle.rules.specs.Books.{Level}
use Rattle.rules.specs.Rules.{holds}
use Rattle.levels.specs.Heads.{size, span, levels}
use Rattle.levels.specs.Sides.{levels_of}
use Rattle.levels.specs.declared.sides.Levels.{Levels}
use Rattle.levels.specs.declared.heads.LevelHead.{LevelHead}
use Rattle.levels.proofs.Flat.{full_holds, remove_level, span_removed}
use Rattle.levels.proofs.Facts.{prices, level_is, parts_of}
use Rattle.levels.proofs.sides.Levels.drop_empty.Goals as goal

-- whether a level has a part, from its head
held : (s : Levels) (i : ℕ) (q : LevelHead) (d : Level) → i < length (items s.heads) → q ≡ get_or (items s.heads) i q → holds (get_or (levels_of s) i d) ≡ ltb 0 (size q)
held s i q d lt read =
    ap holds (level_is s i q d lt read) ∙ full_holds q (drop (span (take i (items s.heads))) (items s.parts)) (omega (arith, parts_of s i q lt read, length-drop (span (take i (items s.heads))) (items s.parts)))

pub at-requires : goal.at-requires
at-requires c = (lit< tt, omega (arith, c.requires, prices c.args.self.now))

pub remove-requires : goal.remove-requires
remove-requires c = (lit< tt, omega (arith, c.requires, prices c.args.self.now))

pub invariant_of-self : goal.invariant_of-self
invariant_of-self c =
    let s = c.args.self.now in
    let q = c.at.result.now in
    let none : size q ≤ 0 = ltb-false 0 (size q) (sym c.if-not-holds.ensures) in record {
      whole = ap span c.remove.ensures ∙ omega (arith, span_removed (items s.heads) c.args.i q (omega (arith, c.requires, prices s)), ap size c.at.ensures, none, s.whole);
      limits = s.limits;
    }

pub returns-then-not-holds : goal.returns-then-not-holds
returns-then-not-holds c = λ d.
    let s = c.args.self.now in
    let i = c.args.i in
    let q = c.at.result.now in
    let lt : i < length (items s.heads) = omega (arith, c.requires, prices s) in
    let none : size q ≤ 0 = ltb-false 0 (size q) (sym c.if-not-holds.ensures) in
    let here : size (get_or (items s.heads) i q) ≡ 0 = omega (arith, ap size c.at.ensures, none) in
    ap (λ l. levels l (items s.parts)) c.remove.ensures ∙ remove_level (items s.heads) (items s.parts) i q lt here
    ∙ ap (λ t. cond t (levels_of s) (take i (levels_of s) ++ drop (i + 1) (levels_of s))) (sym (held s i q d lt c.at.ensures ∙ sym c.if-not-holds.ensures))

pub returns-else-not-holds : goal.returns-else-not-holds
returns-else-not-holds c = λ d.
    let s = c.args.self.now in
    let i = c.args.i in
    let lt : i < length (items s.heads) = omega (arith, c.requires, prices s) in
    ap (λ t. cond t (levels_of s) (take i (levels_of s) ++ drop (i + 1) (levels_of s))) (sym (held s i c.at.result.now d lt c.at.ensures ∙ sym c.if-not-holds.ensures))
