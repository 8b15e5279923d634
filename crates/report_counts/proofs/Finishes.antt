-- What is known of an enter that a step finished.
use Prim.Native.Nat.{ℕ, ◌≤◌}
use mathlib.Core.Path.{◌≡◌}
use mathlib.Core.Logic.{◌≢◌}
use mathlib.Core.Bool.{true}
use Rattle.lock_table.specs.Access.{thread_at, object_at}
use Rattle.lock_table.specs.declared.record.Table.{Table}
use Rattle.report_tally.specs.Way.{way_of}
use Rattle.report_tally.specs.declared.way.Way.{Way}
use Rattle.report_tally.specs.declared.way.Way.TheVariants.{NoEnter}
use Rattle.report_counts.specs.Enters.{step_enters}
use Rattle.report_counts.specs.Report.{ObjectNumber}
use Rattle.report_counts.proofs.ReturnedOne.{entered_known, entered_object}
use Rattle.report_counts.proofs.FinishedSomehow.{finished_somehow}

-- the object and the way of an enter that a step of this thread finishes
abbrev pub entered_at : Table → ℕ → ℕ
entered_at table thread = (thread_at table thread).object

abbrev pub entered_by : Table → ℕ → Way
entered_by table thread = way_of (thread_at table thread).phase (object_at table (entered_at table thread)).word

-- the object is one of the table's, and the way is one of the five
pub record Finished (table : Table) (thread : ℕ) : Type 0 where
  pub numbered : ObjectNumber (entered_at table thread)
  pub known_object : entered_at table thread ≤ table.objectcount
  pub some_way : entered_by table thread ≢ NoEnter

pub finishes : (table : Table) (thread : ℕ) → step_enters table thread ≡ true → Finished table thread
finishes table thread enters =
    record {
      numbered = entered_object table thread enters;
      known_object = entered_known table thread enters;
      some_way = finished_somehow table thread enters;
    }
