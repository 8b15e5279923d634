-- What is left to test and to mark decides.
use Rattle.std.proofs.Common.{◌≡◌}
use Rattle.laws.specs.Every.{all_up_to}
use Rattle.lock_table.specs.Limits.{object_limit}
use Rattle.lock_soundness.specs.OnePass.{object_turn, objects_marks}
use Rattle.lock_soundness.proofs.objects_pass.Given as goal

abbrev pub invariant-loop-number : goal.invariant-loop-number
invariant-loop-number l =
    (all_up_to object_limit (object_turn l.table) ≡ all_up_to l.number (object_turn l.table))
    × (objects_marks l.table object_limit l.fn.met ≡ objects_marks l.table l.number l.met)
