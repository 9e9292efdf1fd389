use Rattle.std.proofs.Common.{◌≡◌, true, eqb, sym, refl, ap, ◌∙◌, subst, arith}
use Rattle.std.proofs.lemmas.Bool.{or_from, or_left, or_right, ne_eqb, eq-eqb}
use Rattle.allocation.specs.Wheels.{no_seat}
use Rattle.allocation.specs.Turns.{Stage, over}
use Rattle.allocation.specs.Dealings.{Seated}
use Rattle.allocation.specs.Amounts.{amounts}
use Rattle.allocation.specs.Memory.{wheel_of, stage_of}
use Rattle.allocation.proofs.Tables.{zeros}
use Rattle.allocation.proofs.Stages.{turns_seated, same_end, at_end, ended_at}
use Rattle.allocation.proofs.turns.take_turns.Goals as goal
use Rattle.allocation.proofs.turns.take_turns.Goals.{then-loop-left-test+else-not-is_empty, else-loop-left-test}

pub loop-left-init : goal.loop-left-init
loop-left-init c = (c.requires, refl, λ p. omega (arith, zeros 25 p))

pub deal_on-requires : goal.deal_on-requires
deal_on-requires c =
    let l = c.loop-left in
    record {
      seated = l.invariant.0;
      going = or_from (eqb l.left 0) (no_seat (wheel_of l.wheel).seats) (ne_eqb l.left 0 (λ e. omega arith)) (sym c.is_empty.ensures ∙ c.if-not-is_empty.true);
    }

pub loop-left-preserved : goal.loop-left-preserved
loop-left-preserved c =
    let l = c.loop-left in
    let o = c.deal_on in
    let lot = c.args.lot in
    let now = stage_of l.wheel l.tables.interests l.left in
    let next = stage_of o.new.wheel o.new.tables.interests o.result.0 in
    let turned = turns_seated lot o.ensures.on.0 now l.invariant.0 in (
      subst (λ (s : Stage). Seated lot s.wheel s.interests) (sym o.ensures.on.1) turned,
      same_end lot o.ensures.on.0 now next l.invariant.0 o.ensures.on.1 ∙ l.invariant.1,
      λ p. omega (arith, l.invariant.2 p, o.ensures.same p),
    )

pub invariant_of-tables : goal.invariant_of-tables
invariant_of-tables c = record { sized = (c.told-interests, refl); room = λ p. omega (arith, zeros 25 p, c.fits-interests p) }

pub returns : goal.returns
returns c =
    let l = c.loop-left in
    let now = stage_of l.wheel l.tables.interests l.left in
    let done : over now ≡ true = elim c.loop-left-test.branch [
      | then-loop-left-test+else-not-is_empty w ↦ or_right (eqb l.left 0) (no_seat (wheel_of l.wheel).seats) (sym w.is_empty.ensures ∙ w.if-not-is_empty.false)
      | else-loop-left-test w ↦ or_left (eqb l.left 0) (no_seat (wheel_of l.wheel).seats) (eq-eqb l.left 0 (omega (arith, w.loop-left-test.false)))
    ] in
    let end = sym (at_end c.args.lot now done) ∙ l.invariant.1 in
    record { wheel = ap (λ s. s.wheel) end; each = ended_at now _ (amounts c.args.interests.now) (amounts l.tables.taken) end l.invariant.2 }
