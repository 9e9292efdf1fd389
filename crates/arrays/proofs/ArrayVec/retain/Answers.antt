use Rattle.std.proofs.Common.{◌≡◌, ◌<◌, length, get_or, take, filter, sym, ap, ◌∙◌, arith, rules}
use Rattle.std.specs.Fn.{FnReturnsAt}
use Rattle.std.proofs.lemmas.List.{get_or_default}
use Rattle.std.proofs.lemmas.List.Filters.{FiltersInPlace-more_no, FiltersInPlace-more_set, FiltersInPlace-more_here}
use Rattle.arrays.proofs.ArrayVec.retain.Goals as goal
use Rattle.arrays.proofs.ArrayVec.retain.Goals.{then-keep, else-keep, then-k-j, else-k-j}

pub loop-j-preserved : goal.loop-j-preserved
loop-j-preserved g c =
    let v = c.loop-j.self in
    let x = c.index-self-j.result in
    let lt : c.loop-j.j < length v.items = search rules in
    let says : FnReturnsAt g.F.Fn c.args.keep x c.keep.result = record { shown = _; shows = sym c.index-self-j.is; says = record { met = c.keep.ensures } } in
    elim c.if-keep.branch [
      | then-keep w ↦
          elim w.if-k-j.branch [
            | then-k-j u ↦ rw (w.self-is, w.k-is, u.self-is) (
              c.loop-j.invariant.0,
              omega (arith, c.loop-j.invariant.1),
              λ p h.
                  let d = u.index-self-j-then-k-j.result in
                  let same : get_or v.items c.loop-j.j d ≡ x = get_or_default v.items c.loop-j.j d x lt ∙ sym c.index-self-j.is in
                  FiltersInPlace-more_set (c.loop-j.invariant.2 p h) lt (ap p same ∙ sym (h x c.keep.result says) ∙ w.if-keep.true) (get_or_default v.items c.loop-j.j d _ lt),
            )
            | else-k-j u ↦ rw (w.self-is, w.k-is, u.self-is) (
              c.loop-j.invariant.0,
              omega (arith, c.loop-j.invariant.1),
              λ p h. FiltersInPlace-more_here (c.loop-j.invariant.2 p h) lt (sym (h x c.keep.result says) ∙ w.if-keep.true) c.index-self-j.is (omega (arith, u.if-k-j.false, c.loop-j.invariant.1)),
            )
          ]
      | else-keep w ↦ rw (w.self-is, w.k-is) (
        c.loop-j.invariant.0,
        omega (arith, c.loop-j.invariant.1),
        λ p h. FiltersInPlace-more_no (c.loop-j.invariant.2 p h) lt (sym (h x c.keep.result says) ∙ w.if-keep.false) c.index-self-j.is,
      )
    ]

pub returns : goal.returns
returns g c = λ p h.
    let f = c.loop-j.invariant.2 p h in
    let end : c.loop-j.j ≡ c.args.self.now.len = omega arith in
    f.front ∙ ap (λ n. filter p (take n c.args.self.now.items)) end
