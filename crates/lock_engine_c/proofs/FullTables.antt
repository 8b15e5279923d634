-- The bytes after a call read back as the table that the engine gave: a table has thirty-two thread records and sixty-four object records, and every
-- event keeps it so.
use Prim.Native.Nat.{ℕ}
use mathlib.Core.Path.{◌≡◌}
use mathlib.Core.Bool.{true}
use mathlib.Core.List.{List}
use Rattle.laws.proofs.Sequence.{tabulate_length}
use Rattle.lock_rules.specs.declared.event.Event.{Event}
use Rattle.lock_table.specs.Limits.{thread_limit, object_limit}
use Rattle.lock_table.specs.declared.record.Table.{Table}
use Rattle.lock_engine.specs.Handle.{handle}
use Rattle.lock_engine.proofs.Full.{Full, full_handle}
use Rattle.table_bytes.specs.Reading.{enough, is_table, table_of, thread_from, object_from}
use Rattle.table_bytes.proofs.ReadBack.{bytes_table, read_back}
use Rattle.lock_engine_c.specs.Calls.{event_bytes}

-- what bytes say is full
pub read_full : (bytes : List ℕ) → Full (table_of bytes)
read_full bytes =
    record { threads = tabulate_length thread_limit (thread_from (enough bytes)); objects = tabulate_length object_limit (object_from (enough bytes)) }

-- the bytes after an event on a table: a table, which is that of the engine
pub record ReadsAs (bytes : List ℕ) (table : Table) : Type 0 where
  pub is_table : is_table bytes ≡ true
  pub table_is : table_of bytes ≡ table

pub event_reads : (bytes : List ℕ) (event : Event) → is_table bytes ≡ true
    → let outcome = handle (table_of bytes) event in ReadsAs (event_bytes (is_table bytes) bytes outcome) outcome.table
event_reads bytes event known =
    let outcome = handle (table_of bytes) event in
    let full = full_handle (table_of bytes) event (read_full bytes) in
    rw known (record { is_table = bytes_table outcome.table; table_is = read_back outcome.table full.threads full.objects })
