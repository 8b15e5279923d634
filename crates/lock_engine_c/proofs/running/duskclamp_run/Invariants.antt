-- What is still to run gives what the whole run gives.
use Rattle.std.proofs.Common.{◌≡◌, ◌≤◌, length}
use Rattle.table_bytes.specs.Reading.{AreBytes}
use Rattle.lock_engine_c.specs.Run.{run_count}
use Rattle.lock_engine_c.proofs.Runs.{Running}
use Rattle.lock_engine_c.proofs.running.duskclamp_run.Given as goal

abbrev pub invariant-loop-done : goal.invariant-loop-done
invariant-loop-done l =
    record {
      small : AreBytes l.bytes;
      count_is : l.count ≡ run_count (length l.events) (length l.initial.answers);
      room : l.count ≤ length l.initial.answers;
      running : Running l.bytes l.events l.initial.answers l.issound l.table l.changed l.done l.answers;
    }
