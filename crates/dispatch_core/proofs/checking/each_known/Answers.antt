-- The script that was tested decides, or those before it do; none is left at the end.
use Rattle.std.proofs.Common.{arith}
use Rattle.laws.proofs.Every.{all_step, all_end}
use Rattle.dispatch_core.proofs.checking.each_known.Goals as goal

pub returns-then-not-script_known : goal.returns-then-not-script_known
returns-then-not-script_known c =
    simp (
      c.loop-number.invariant,
      all_step {n = c.loop-number.number} (omega (arith, c.loop-number-test.true)),
      ← c.thread_place.ensures,
      ← c.script_known.ensures,
      c.if-not-script_known.true,
    )

pub loop-number-preserved : goal.loop-number-preserved
loop-number-preserved c =
    simp (
      c.loop-number.invariant,
      all_step {n = c.loop-number.number} (omega (arith, c.loop-number-test.true)),
      ← c.thread_place.ensures,
      ← c.script_known.ensures,
      c.if-not-script_known.false,
    )

pub returns : goal.returns
returns c = simp (c.loop-number.invariant, all_end {n = c.loop-number.number} (omega (arith, c.loop-number-test.false)))
