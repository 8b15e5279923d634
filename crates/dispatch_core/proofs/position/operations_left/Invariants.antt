-- What was added up.
use Rattle.std.proofs.Common.{◌≡◌, ◌≤◌, ◌*◌}
use Rattle.dispatch_rules.specs.Dispatch.{operations_left}
use Rattle.dispatch_core.specs.Position.{cursor_room}
use Rattle.dispatch_core.proofs.position.operations_left.Given as goal

abbrev pub invariant-loop-place : goal.invariant-loop-place
invariant-loop-place l = (l.total ≡ operations_left l.place l.cursors) × (l.total ≤ l.place * cursor_room)
