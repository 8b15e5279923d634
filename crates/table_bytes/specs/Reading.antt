-- What bytes say of a table, and whether they are one.
use Rattle.std.specs.Prelude.{ℕ, ◌+◌, ◌<◌, Bool, List, [], eqb, ltb, length, get_or}
use Rattle.laws.specs.Choice.{pick, both}
use Rattle.laws.specs.Every.{all_below}
use Rattle.laws.specs.Sequence.{tabulate}
use Rattle.lock_table.specs.Limits.{thread_limit, object_limit}
use Rattle.lock_table.specs.declared.record.ThreadRecord.{ThreadRecord}
use Rattle.lock_table.specs.declared.record.ObjectRecord.{ObjectRecord}
use Rattle.lock_table.specs.declared.record.Table.{Table}
use Rattle.table_bytes.specs.Rows.{Numbers, numbers_in}
use Rattle.table_bytes.specs.ThreadBytes.{thread_layout, thread_of, thread_known}
use Rattle.table_bytes.specs.ObjectBytes.{object_layout, object_of, object_known}
use Rattle.table_bytes.specs.Layout.{threadcount_at, objectcount_at, table_size, thread_start, object_start}

-- a byte; 0 past the end
abbrev pub byte_at : List ℕ → ℕ → ℕ
byte_at bytes at = get_or bytes at 0

-- what the code has: each number fits a byte
abbrev pub AreBytes : List ℕ → Type 0
AreBytes bytes = (i : ℕ) → byte_at bytes i < 256

-- the numbers of the record at a place
abbrev pub thread_numbers : List ℕ → ℕ → Numbers thread_layout
thread_numbers bytes place = numbers_in thread_layout (λ i. byte_at bytes (thread_start place + i))

abbrev pub object_numbers : List ℕ → ℕ → Numbers object_layout
object_numbers bytes place = numbers_in object_layout (λ i. byte_at bytes (object_start place + i))

abbrev pub thread_from : List ℕ → ℕ → ThreadRecord
thread_from bytes place = thread_of (thread_numbers bytes place)

abbrev pub object_from : List ℕ → ℕ → ObjectRecord
object_from bytes place = object_of (object_numbers bytes place)

-- the table that enough bytes say
abbrev pub table_said : List ℕ → Table
table_said bytes = record {
  threadcount = byte_at bytes threadcount_at;
  objectcount = byte_at bytes objectcount_at;
  threads = tabulate thread_limit (thread_from bytes);
  objects = tabulate object_limit (object_from bytes);
}

-- bytes that are too few for a table are as none
unfoldable pub enough : List ℕ → List ℕ
enough bytes = pick (ltb (length bytes) table_size) [] bytes

-- the table that the bytes say; too few say the empty table (proofs/Enough.antt)
abbrev pub table_of : List ℕ → Table
table_of bytes = table_said (enough bytes)

-- the bytes are a table: as many as it has, and each operation, phase, carried phase and flag one that there is
unfoldable pub is_table : List ℕ → Bool
is_table bytes =
    both (eqb (length bytes) table_size)
    (both (all_below thread_limit (λ place. thread_known (thread_numbers bytes place))) (all_below object_limit (λ place. object_known (object_numbers bytes place))))
