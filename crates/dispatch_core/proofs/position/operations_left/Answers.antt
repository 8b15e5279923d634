-- A thread's part is added, and there is room for it.
use native.Mathlib.Omega.{arith}
use Rattle.dispatch_core.proofs.OperationsLeft.{left_next, left_none}
use Rattle.dispatch_core.proofs.position.operations_left.Goals as goal

pub loop-place-init : goal.loop-place-init
loop-place-init c = (left_none c.args.cursors, omega arith)

pub loop-place-preserved : goal.loop-place-preserved
loop-place-preserved c =
    let (sum, small) = c.loop-place.invariant in
    let step = left_next c.loop-place.place c.args.cursors in
    let part = rw c.thread_place.ensures at c.saturating_sub.ensures in
    (omega (arith, sum, step, part, c.from-total.ensures), omega (arith, small, c.from-total.ensures, c.saturating_sub.type_inv))
