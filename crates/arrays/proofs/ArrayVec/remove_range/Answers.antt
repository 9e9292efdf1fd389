use Rattle.std.proofs.Common.{◌++◌, take, drop, sym, ap, ◌∙◌, arith}
use Rattle.std.proofs.lemmas.List.{length-take, take-append-drop}
use Rattle.arrays.specs.Items.{items}
use Rattle.arrays.proofs.Fronts.{closed}
use Rattle.arrays.proofs.ArrayVec.remove_range.Goals as goal

pub returns-then-i-j : goal.returns-then-i-j
returns-then-i-j g c =
    let xs = items c.args.self.now in
    sym (ap (λ n. take c.args.i xs ++ drop n xs) (sym c.if-i-j.true) ∙ take-append-drop c.args.i xs)

pub invariant_of-self : goal.invariant_of-self
invariant_of-self g c =
    let v = c.args.self.now in
    record { fits = omega (arith, v.fits); long = c.close.ensures.long ∙ v.long }

pub returns : goal.returns
returns g c =
    let v = c.args.self.now in
    let n = length-take v.len v.items in
    c.close.ensures.front ∙ closed v.len c.args.i c.args.j v.items (omega (arith, c.requires.0, c.requires.1))
