-- The bytes of a table, and bytes with a table or one of its records stored over them.
use Rattle.std.specs.Prelude.{ℕ, ◌-◌, List, ◌∷◌, ◌++◌, eqb, ltb, length, get_or}
use Rattle.laws.specs.Choice.{pick}
use Rattle.lock_table.specs.Limits.{thread_limit, object_limit}
use Rattle.lock_table.specs.Record.{no_thread, no_object, idle}
use Rattle.lock_table.specs.Access.{thread_at}
use Rattle.lock_table.specs.declared.record.ThreadRecord.{ThreadRecord}
use Rattle.lock_table.specs.declared.record.ObjectRecord.{ObjectRecord}
use Rattle.lock_table.specs.declared.record.Table.{Table}
use Rattle.table_bytes.specs.Rows.{joined, overwritten}
use Rattle.table_bytes.specs.Reading.{table_of}
use Rattle.table_bytes.specs.Layout.{table_size, thread_start, object_start, thread_bytes, object_bytes}

-- all records of a kind
abbrev pub threads_bytes : List ThreadRecord → List ℕ
threads_bytes threads = joined thread_limit (λ place. thread_bytes (get_or threads place no_thread))

abbrev pub objects_bytes : List ObjectRecord → List ℕ
objects_bytes objects = joined object_limit (λ place. object_bytes (get_or objects place no_object))

abbrev pub bytes_of : Table → List ℕ
bytes_of table = table.threadcount ∷ table.objectcount ∷ threads_bytes table.threads ++ objects_bytes table.objects

-- a table is kept only where there is room for just a table
unfoldable pub kept_over : List ℕ → Table → List ℕ
kept_over bytes table = pick (eqb (length bytes) table_size) (bytes_of table) bytes

-- the bytes of a table with one record stored over them; a number that is no thread's or no object's changes nothing
unfoldable pub write_thread : List ℕ → ℕ → ThreadRecord → List ℕ
write_thread bytes number thread =
    pick (eqb (length bytes) table_size)
    (pick (eqb number 0) bytes (pick (ltb thread_limit number) bytes (overwritten (thread_start (number - 1)) (thread_bytes thread) bytes)))
    bytes

unfoldable pub write_object : List ℕ → ℕ → ObjectRecord → List ℕ
write_object bytes number object =
    pick (eqb (length bytes) table_size)
    (pick (eqb number 0) bytes (pick (ltb object_limit number) bytes (overwritten (object_start (number - 1)) (object_bytes object) bytes)))
    bytes

-- the bytes with one thread idle
abbrev pub idled_bytes : List ℕ → ℕ → List ℕ
idled_bytes bytes thread = write_thread bytes thread (idle (thread_at (table_of bytes) thread))
