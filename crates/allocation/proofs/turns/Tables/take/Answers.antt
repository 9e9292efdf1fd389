use Rattle.std.proofs.Common.{◌≡◌, ℕ, ◌+◌, length, ap, ◌∙◌, arith}
use Rattle.std.proofs.lemmas.List.{length-set}
use Rattle.allocation.specs.Amounts.{amounts}
use Rattle.allocation.proofs.Steps.{moved, drawn}
use Rattle.allocation.proofs.turns.Tables.take.Goals as goal

pub add-requires : goal.add-requires
add-requires c = record { place = c.requires; fits = omega (arith, c.args.self.now.room c.args.p, c.draw-x.ensures.takes) }

sums : (c : goal.After-add) (k : ℕ) → amounts c.add.new.table k + amounts c.draw-x.new.allotted k ≡ amounts c.args.self.now.taken k + amounts c.args.self.now.interests k
sums c =
    let t = c.args.self.now in
    let x = c.draw-x.result in
    moved t.interests c.draw-x.new.allotted t.taken c.add.new.table c.args.p x (omega (arith, c.requires, t.sized.0)) (omega (arith, c.requires, t.sized.1)) (omega (arith, c.draw-x.ensures.takes)) (drawn t.interests c.draw-x.new.allotted c.args.p c.args.n x c.draw-x.ensures.takes c.draw-x.ensures.after) c.add.ensures

pub invariant_of-self : goal.invariant_of-self
invariant_of-self c = record { sized = (omega (arith, c.draw-x.auto.allotted, c.args.self.now.sized.0), ap length c.add.ensures ∙ length-set c.args.self.now.taken c.args.p _ ∙ c.args.self.now.sized.1); room = λ k. omega (arith, sums c k, c.args.self.now.room k) }

pub returns : goal.returns
returns c = record { less = c.draw-x.ensures.after; same = sums c.before }
