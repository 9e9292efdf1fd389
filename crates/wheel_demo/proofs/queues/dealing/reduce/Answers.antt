use Rattle.std.proofs.Common.{◌≡◌, ◌+◌, ◌<◌, [], ◌++◌, length, take, drop, set, sym, ap, ◌∙◌, arith, rules, lit<}
use Rattle.std.proofs.lemmas.List.{take_all, at_drop_all, append-nil, length-set}
use Rattle.arrays.specs.Items.{items}
use Rattle.allocation.specs.Dealings.{claims_left}
use Rattle.wheel_demo.proofs.Reduced.{none, less_share, reduce_more}
use Rattle.wheel_demo.proofs.queues.dealing.reduce.Goals as goal

pub edit-requires : goal.edit-requires
edit-requires c = (lit< tt, omega (arith, c.loop-i-test.true, c.loop-i.invariant.0))

pub loop-i-preserved : goal.loop-i-preserved
loop-i-preserved c =
    let l = c.loop-i in
    let cs = items l.claims in
    let xs = c.args.shares.now in
    let gave = c.edit.ensures none in
    let less : gave.0 ≡ less_share cs xs l.i = search rules in
    let lt : l.i < length cs = omega (arith, c.loop-i-test.true, l.invariant.0) in
    let after : items c.edit.new.self ≡ set cs l.i gave.0 = gave.2 in (
      ap length after ∙ length-set cs l.i gave.0 ∙ l.invariant.0,
      ap (λ zs. take (l.i + 1) zs ++ claims_left (drop (l.i + 1) zs) (drop (l.i + 1) xs)) after ∙ reduce_more cs xs l.i gave.0 lt c.loop-i-test.true less ∙ l.invariant.1,
    )

pub returns : goal.returns
returns c =
    let l = c.loop-i in
    let cs = items l.claims in
    let xs = c.args.shares.now in
    let whole = take_all l.i cs (omega (arith, l.invariant.0, c.loop-i-test.false)) in
    let e = at_drop_all (λ z. take l.i cs ++ claims_left z (drop l.i xs)) cs l.i (omega (arith, l.invariant.0, c.loop-i-test.false)) in
    sym (append-nil cs) ∙ ap (λ z. z ++ []) (sym whole) ∙ sym e ∙ l.invariant.1
