-- A table's records by number, from 1 (document 01, "The table": numbered from 1, 0 means none). Number 0 and numbers past the end read as the
-- empty record and write nothing.
use Rattle.std.specs.Prelude.{ℕ, ◌-◌, eqb, ltb, get_or, set}
use Rattle.laws.specs.Choice.{pick}
use Rattle.lock_table.specs.Limits.{thread_limit, object_limit}
use Rattle.lock_table.specs.Phase.{phase_number, carried_number}
use Rattle.lock_table.specs.Record.{no_thread, no_object}
use Rattle.lock_table.specs.declared.record.ThreadRecord.{ThreadRecord}
use Rattle.lock_table.specs.declared.record.ObjectRecord.{ObjectRecord}
use Rattle.lock_table.specs.declared.record.Table.{Table}

unfoldable pub thread_at : Table → ℕ → ThreadRecord
thread_at table number = pick (eqb number 0) no_thread (pick (ltb thread_limit number) no_thread (get_or table.threads (number - 1) no_thread))

unfoldable pub set_thread : Table → ℕ → ThreadRecord → Table
set_thread table number thread =
    pick (eqb number 0) table
    (pick (ltb thread_limit number) table
    (record { threadcount = table.threadcount; objectcount = table.objectcount; threads = set table.threads (number - 1) thread; objects = table.objects }))

unfoldable pub object_at : Table → ℕ → ObjectRecord
object_at table number = pick (eqb number 0) no_object (pick (ltb object_limit number) no_object (get_or table.objects (number - 1) no_object))

unfoldable pub set_object : Table → ℕ → ObjectRecord → Table
set_object table number object =
    pick (eqb number 0) table
    (pick (ltb object_limit number) table
    (record { threadcount = table.threadcount; objectcount = table.objectcount; threads = table.threads; objects = set table.objects (number - 1) object }))

-- the next indexes, by which chains go on
abbrev pub next_of : Table → ℕ → ℕ
next_of table number = (thread_at table number).next

-- a thread's phase, and the phase that it carries if it is queued
abbrev pub phase_number_at : Table → ℕ → ℕ
phase_number_at table number = phase_number (thread_at table number).phase

abbrev pub carried_at : Table → ℕ → ℕ
carried_at table number = carried_number (thread_at table number).phase
