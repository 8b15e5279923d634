-- The empty records, and each record with some of its fields changed.
use Rattle.std.specs.Prelude.{ℕ, Bool, false}
use Rattle.lock_table.specs.declared.operation.Operation.TheVariants.{Idle as no_operation}
use Rattle.lock_table.specs.declared.phase.Phase.{Phase}
use Rattle.lock_table.specs.declared.phase.Phase.TheVariants.{Idle}
use Rattle.lock_table.specs.declared.record.ThreadRecord.{ThreadRecord}
use Rattle.lock_table.specs.declared.record.Activity.{Activity}
use Rattle.lock_table.specs.declared.record.Monitor.{Monitor}
use Rattle.lock_table.specs.declared.record.ObjectRecord.{ObjectRecord}

-- an idle thread: every field 0
abbrev pub no_thread : ThreadRecord
no_thread = record { kept = 0; saved = 0; ticks = 0; object = 0; next = 0; rank = 0; operation = no_operation; phase = Idle }

abbrev pub no_monitor : Monitor
no_monitor = record { depth = 0; holder = 0; entry = 0; contention = 0; waiting = 0 }

abbrev pub no_object : ObjectRecord
no_object = record { word = 0; monitor = no_monitor; flag = false }

-- what an operation writes of a thread; an idle thread has none
abbrev pub no_activity : Activity
no_activity = record { kept = 0; saved = 0; ticks = 0; object = 0; operation = no_operation; phase = Idle }

abbrev pub activity : ThreadRecord → Activity
activity thread =
    record { kept = thread.kept; saved = thread.saved; ticks = thread.ticks; object = thread.object; operation = thread.operation; phase = thread.phase }

-- a thread at another activity: what is no part of it stays
abbrev pub with_activity : ThreadRecord → Activity → ThreadRecord
with_activity thread other =
    record { kept = other.kept; saved = other.saved; ticks = other.ticks; object = other.object; next = thread.next; rank = thread.rank; operation = other.operation; phase = other.phase }

-- "thread idle"
abbrev pub idle : ThreadRecord → ThreadRecord
idle thread = with_activity thread no_activity

abbrev pub with_phase : ThreadRecord → Phase → ThreadRecord
with_phase thread phase =
    with_activity thread
    (record { kept = thread.kept; saved = thread.saved; ticks = thread.ticks; object = thread.object; operation = thread.operation; phase = phase })

abbrev pub with_ticks : ThreadRecord → ℕ → ThreadRecord
with_ticks thread ticks =
    record { kept = thread.kept; saved = thread.saved; ticks = ticks; object = thread.object; next = thread.next; rank = thread.rank; operation = thread.operation; phase = thread.phase }

abbrev pub with_next : ThreadRecord → ℕ → ThreadRecord
with_next thread next =
    record { kept = thread.kept; saved = thread.saved; ticks = thread.ticks; object = thread.object; next = next; rank = thread.rank; operation = thread.operation; phase = thread.phase }

abbrev pub with_rank : ThreadRecord → ℕ → ThreadRecord
with_rank thread rank =
    record { kept = thread.kept; saved = thread.saved; ticks = thread.ticks; object = thread.object; next = thread.next; rank = rank; operation = thread.operation; phase = thread.phase }

abbrev pub with_word : ObjectRecord → ℕ → ObjectRecord
with_word object word = record { word = word; monitor = object.monitor; flag = object.flag }

abbrev pub with_flag : ObjectRecord → Bool → ObjectRecord
with_flag object flag = record { word = object.word; monitor = object.monitor; flag = flag }

abbrev pub with_monitor : ObjectRecord → Monitor → ObjectRecord
with_monitor object monitor = record { word = object.word; monitor = monitor; flag = object.flag }
