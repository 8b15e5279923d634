-- An effect performed whole: its work on the chains, then the thread's record and the object's. What the engine writes is this (lock_records/proofs/Settled.antt).
use Prim.Native.Nat.{ℕ}
use Rattle.lock_rules.specs.declared.Effect.{Effect}
use Rattle.lock_table.specs.Access.{thread_at, set_thread, set_object, next_of}
use Rattle.lock_table.specs.Record.{with_next, with_monitor}
use Rattle.lock_table.specs.declared.record.{ThreadRecord.ThreadRecord, ObjectRecord.ObjectRecord, Table.Table}
use Rattle.lock_perform.specs.{State.write_thread, Perform.object_after}
use Rattle.lock_perform.specs.Moving.{CarriedOut, carry_out}

-- the thread in its new state, with the next index that the chains gave it, and the object
abbrev pub write_back : CarriedOut → ℕ → ℕ → ThreadRecord → ObjectRecord → Table
write_back moved thread number own object =
    set_object (set_thread moved.table thread (with_next own (next_of moved.table thread))) number (with_monitor object moved.monitor)

abbrev pub perform_of : Table → ℕ → ℕ → ObjectRecord → Effect → Table
perform_of table thread number object effect =
    let after = object_after thread number object effect in
    write_back (carry_out table after.monitor effect.work thread number) thread number
    (write_thread thread number effect.state (thread_at table thread)) after
