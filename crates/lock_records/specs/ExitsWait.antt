-- What a thread parked inside an exit waits for, in terms of the records alone (document 02, L2).
use Rattle.std.specs.Prelude.{ℕ, ◌≡◌, ◌≢◌}
use Rattle.lock_table.specs.Access.{thread_at, object_at, phase_number_at}
use Rattle.lock_table.specs.declared.operation.Operation.TheVariants.{Exit}
use Rattle.lock_table.specs.declared.record.Monitor.{Monitor}
use Rattle.lock_table.specs.declared.record.Table.{Table}
use Rattle.lock_records.specs.Agrees.{Unparked, IsThread}
use Rattle.lock_records.specs.Unparked.{Parked}

-- "a thread parked inside an exit"
abbrev pub ParkedInExit : Table → ℕ → Type 0
ParkedInExit table n = ((thread_at table n).operation ≡ Exit) × Parked table n

-- the monitor of the thread's object
abbrev pub monitor_at : Table → ℕ → Monitor
monitor_at table n = (object_at table (thread_at table n).object).monitor

-- "waits only for another unparked thread that holds the monitor at depth 0"
abbrev pub WaitsForHolder : Table → ℕ → Type 0
WaitsForHolder table n =
    let holder = (monitor_at table n).holder in
    IsThread table holder × (holder ≢ n) × Unparked table holder × ((monitor_at table n).depth ≡ 0)

-- More than is asked: that thread is not idle, and its operation is on that object, so that its own steps there are what is waited for.
abbrev pub WaitsForBusyHolder : Table → ℕ → Type 0
WaitsForBusyHolder table n =
    let holder = (monitor_at table n).holder in
    WaitsForHolder table n × (phase_number_at table holder ≢ 0) × ((thread_at table holder).object ≡ (thread_at table n).object)
