-- Each turn tests the last object that is left, and marks what stands in its chains.
use Rattle.std.proofs.Common.{◌≡◌, refl, sym, arith}
use Rattle.laws.proofs.Every.{all_step, all_end}
use Rattle.lock_table.specs.Access.{object_at}
use Rattle.lock_table.proofs.Records.{object_in}
use Rattle.lock_soundness.specs.OnePass.{chains_marks, object_turn}
use Rattle.lock_soundness.proofs.OnePassTurns.{objects_marks_step, objects_marks_end}
use Rattle.lock_soundness.proofs.objects_pass.Goals as goal
use Rattle.lock_soundness.proofs.objects_pass.Goals.{After-object_passes}

turn_is : (c : After-object_passes) → object_turn c.args.table.now c.loop-number.number ≡ c.object_passes.result
turn_is c =
    rw (object_in c.args.table.now c.loop-number.number (λ e. omega (arith, e, c.loop-number-test.true)) (omega (arith, c.loop-number.auto.number)), ← c.from.ensures)
    (sym c.object_passes.ensures.value)

marks_are : (c : After-object_passes)
    → let t = c.args.table.now in
    chains_marks t.threads t.threadcount c.loop-number.number (object_at t c.loop-number.number).monitor c.loop-number.met ≡ c.object_passes.new.met
marks_are c =
    rw (object_in c.args.table.now c.loop-number.number (λ e. omega (arith, e, c.loop-number-test.true)) (omega (arith, c.loop-number.auto.number)), ← c.from.ensures)
    (sym c.object_passes.ensures.marks)

pub returns-then-not-object_passes : goal.returns-then-not-object_passes
returns-then-not-object_passes c =
    let turn = (goal.at.returns-then-not-object_passes c).After-object_passes in
    simp (
      c.loop-number.invariant.0,
      c.loop-number.invariant.1,
      all_step {n = c.loop-number.number} (omega (arith, c.loop-number-test.true)),
      objects_marks_step {left = c.loop-number.number} (omega (arith, c.loop-number-test.true)),
      turn_is turn,
      marks_are turn,
      c.if-not-object_passes.true,
    )
    (record { value = refl; marks = refl })

pub loop-number-preserved : goal.loop-number-preserved
loop-number-preserved c =
    let turn = (goal.at.loop-number-preserved c).After-object_passes in
    simp (
      c.loop-number.invariant.0,
      c.loop-number.invariant.1,
      all_step {n = c.loop-number.number} (omega (arith, c.loop-number-test.true)),
      objects_marks_step {left = c.loop-number.number} (omega (arith, c.loop-number-test.true)),
      turn_is turn,
      marks_are turn,
      c.if-not-object_passes.false,
    )
    (refl, refl)

pub returns : goal.returns
returns c =
    simp (
      c.loop-number.invariant.0,
      c.loop-number.invariant.1,
      all_end {n = c.loop-number.number} (omega (arith, c.loop-number-test.false)),
      objects_marks_end {left = c.loop-number.number} (omega (arith, c.loop-number-test.false)),
    )
    (record { value = refl; marks = refl })
