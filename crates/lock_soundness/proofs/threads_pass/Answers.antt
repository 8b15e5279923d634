-- Each turn tests the last thread that is left.
use Rattle.std.proofs.Common.{◌≡◌, sym, arith}
use Rattle.laws.proofs.Every.{all_step, all_end}
use Rattle.lock_table.proofs.Records.{thread_in}
use Rattle.lock_soundness.specs.OnePass.{thread_turn}
use Rattle.lock_soundness.proofs.threads_pass.Goals as goal
use Rattle.lock_soundness.proofs.threads_pass.Goals.{After-thread_passes-passes}

turn_is : (c : After-thread_passes-passes) → thread_turn c.args.table.now c.args.met.now c.loop-number.number ≡ c.thread_passes-passes.result
turn_is c =
    rw (thread_in c.args.table.now c.loop-number.number (λ e. omega (arith, e, c.loop-number-test.true)) (omega (arith, c.loop-number.auto.number)), ← c.from-place.ensures)
    (sym c.thread_passes-passes.ensures)

pub returns-then-not-passes : goal.returns-then-not-passes
returns-then-not-passes c =
    simp (
      c.loop-number.invariant,
      all_step {n = c.loop-number.number} (omega (arith, c.loop-number-test.true)),
      turn_is (goal.at.returns-then-not-passes c).After-thread_passes-passes,
      c.if-not-passes.true,
    )

pub loop-number-preserved : goal.loop-number-preserved
loop-number-preserved c =
    simp (
      c.loop-number.invariant,
      all_step {n = c.loop-number.number} (omega (arith, c.loop-number-test.true)),
      turn_is (goal.at.loop-number-preserved c).After-thread_passes-passes,
      c.if-not-passes.false,
    )

pub returns : goal.returns
returns c = simp (c.loop-number.invariant, all_end {n = c.loop-number.number} (omega (arith, c.loop-number-test.false)))
