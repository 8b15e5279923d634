-- The operation that was tested decides, or those before it do; none is left at the end.
use Rattle.std.proofs.Common.{refl}
use Rattle.laws.proofs.Every.{all_step, all_end}
use Rattle.dispatch_core.proofs.checking.operations_known.Goals as goal

pub loop-place-init : goal.loop-place-init
loop-place-init c = refl

pub returns-then-not-operation_known : goal.returns-then-not-operation_known
returns-then-not-operation_known c =
    simp (c.loop-place.invariant, all_step c.loop-place-test.true, ← c.operation_known.ensures, c.if-not-operation_known.true)

pub loop-place-preserved : goal.loop-place-preserved
loop-place-preserved c =
    simp (c.loop-place.invariant, all_step c.loop-place-test.true, ← c.operation_known.ensures, c.if-not-operation_known.false)

pub returns : goal.returns
returns c = simp (c.loop-place.invariant, all_end c.loop-place-test.false)
