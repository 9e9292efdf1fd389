use Rattle.std.proofs.Common.{◌≡◌, ℕ, ◌-◌, min, Bool, List, length, get_or, set, sym, ap, ◌∙◌, arith}
use Rattle.std.proofs.lemmas.List.{length-set}
use Rattle.rules.specs.Books.{Level, nothing_at, part, ranked_by}
use Rattle.rules.specs.Changes.{put_shown, put_hidden}
use Rattle.rules.specs.declared.orders.Part.{Part}
use Rattle.rules.specs.Entering.{hidden_part}
use Rattle.levels.specs.Heads.{count}
use Rattle.levels.specs.Sides.{levels_of}
use Rattle.resting.specs.Earned.{earned}
use Rattle.resting.proofs.Off.{twice}
use Rattle.placing.specs.Placed.{both_parts}
use Rattle.placing.proofs.Rests.{count_shown, hides_rest, hides_nothing}
use Rattle.placing.proofs.sides.place_reserve.Goals as goal

pub put-requires-then-shown-left : goal.put-requires-then-shown-left
put-requires-then-shown-left g c =
    let f = c.find_or_make-i in
    let ms : List Level = levels_of f.new.self in
    let z : Level = nothing_at 0 in
    let p : Part = c.part.result in
    let l : Level = get_or ms f.result z in
    let who = ap (λ (x : Part). x.participant) c.part-then-shown-left.ensures in
    record {
      place = omega (arith, f.ensures.within, ap length (c.put.ensures z), length-set ms f.result (put_shown p l));
      known = (omega (arith, who, c.requires.known.0), omega (arith, who, c.requires.known.1));
      small = omega (arith, ap (λ (x : Part). x.quantity) c.part-then-shown-left.ensures, c.requires.small);
      room = omega (arith, c.requires.parts, f.ensures.parts, ap count (c.put.ensures z), count_shown ms f.result z p f.ensures.within);
    }

pub returns-then-shown-left : goal.returns-then-shown-left
returns-then-shown-left g c =
    let rank = ranked_by g.K.Ranking.initial g.K.Ranking.good in
    let e = c.args.order in
    let n : ℕ = c.args.left in
    let f = c.find_or_make-i in
    let ls : List Level = levels_of c.args.levels.now in
    let ms : List Level = levels_of f.new.self in
    let i : ℕ = f.result in
    let z : Level = nothing_at 0 in
    let l : Level = get_or ms i z in
    let m : Bool = earned rank e.side e.price (min e.display n) c.args.terms.lot c.args.terms.away ls in
    let shown : Part = part e.number e.participant (min e.display n) m in
    let size : c.min-shown.result ≡ min e.display n = c.min-shown.ensures in
    let mark : c.earns_mark-mark.result ≡ m = c.earns_mark-mark.ensures ∙ ap (λ k. earned rank e.side e.price k c.args.terms.lot c.args.terms.away ls) size in
    let one : c.part.result ≡ shown = c.part.ensures ∙ ap (λ k. part e.number e.participant k c.earns_mark-mark.result) size ∙ ap (part e.number e.participant (min e.display n)) mark in
    let two : c.part-then-shown-left.result ≡ hidden_part e (n - min e.display n) = c.part-then-shown-left.ensures ∙ ap (λ k. hidden_part e (n - k)) size in
    twice (put_shown shown) (put_hidden (hidden_part e (n - min e.display n))) ms (levels_of c.put.new.self) (levels_of c.put-then-shown-left.new.self) i z f.ensures.within
    (c.put.ensures z ∙ ap (λ p. set ms i (put_shown p l)) one)
    (c.put-then-shown-left.ensures z ∙ ap (λ p. set (levels_of c.put.new.self) i (put_hidden p (get_or (levels_of c.put.new.self) i z))) two)
    ∙ ap (set ms i) (hides_rest e n m l (omega (arith, size, c.if-shown-left.true)))
    ∙ sym (f.ensures.finds (both_parts e n m) z)

pub returns-else-shown-left : goal.returns-else-shown-left
returns-else-shown-left g c =
    let rank = ranked_by g.K.Ranking.initial g.K.Ranking.good in
    let e = c.args.order in
    let n : ℕ = c.args.left in
    let f = c.find_or_make-i in
    let ls : List Level = levels_of c.args.levels.now in
    let ms : List Level = levels_of f.new.self in
    let i : ℕ = f.result in
    let z : Level = nothing_at 0 in
    let l : Level = get_or ms i z in
    let m : Bool = earned rank e.side e.price (min e.display n) c.args.terms.lot c.args.terms.away ls in
    let shown : Part = part e.number e.participant (min e.display n) m in
    let size : c.min-shown.result ≡ min e.display n = c.min-shown.ensures in
    let mark : c.earns_mark-mark.result ≡ m = c.earns_mark-mark.ensures ∙ ap (λ k. earned rank e.side e.price k c.args.terms.lot c.args.terms.away ls) size in
    let one : c.part.result ≡ shown = c.part.ensures ∙ ap (λ k. part e.number e.participant k c.earns_mark-mark.result) size ∙ ap (part e.number e.participant (min e.display n)) mark in
    c.put.ensures z
    ∙ ap (λ p. set ms i (put_shown p l)) one
    ∙ ap (set ms i) (hides_nothing e n m l (omega (arith, size, c.if-shown-left.false)))
    ∙ sym (f.ensures.finds (both_parts e n m) z)
