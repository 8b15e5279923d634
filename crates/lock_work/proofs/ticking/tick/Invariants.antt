-- The objects so far have had their tick.
use Rattle.std.proofs.Common.{◌≡◌}
use Rattle.lock_work.specs.Tick.{tick_to}
use Rattle.lock_work.specs.WorkDone.{WorkDone}
use Rattle.lock_work.proofs.ticking.tick.Given as goal

abbrev pub invariant-loop-done : goal.invariant-loop-done
invariant-loop-done l = let so_far : WorkDone = record { table = l.table; unparked = l.unparked } in so_far ≡ tick_to l.done l.initial.table
