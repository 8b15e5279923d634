-- The layout of a table in bytes, stated once; src/layout.rt has the same places for the code. Two bytes of sizes, thirty-two thread records,
-- sixty-four object records. Numbers of more than one byte lie lowest byte first.
use Rattle.std.specs.Prelude.{ℕ, ◌+◌, ◌*◌, List}
use Rattle.lock_table.specs.Limits.{thread_limit, object_limit}
use Rattle.lock_table.specs.declared.record.ThreadRecord.{ThreadRecord}
use Rattle.lock_table.specs.declared.record.ObjectRecord.{ObjectRecord}
use Rattle.table_bytes.specs.Rows.{size, record_bytes}
use Rattle.table_bytes.specs.ThreadBytes.{thread_layout, thread_revision}
use Rattle.table_bytes.specs.ObjectBytes.{object_layout, object_revision}

-- the version of what stands here: one more for each change of a record
abbrev pub layout_version : ℕ
layout_version = 1 + thread_revision + object_revision

abbrev pub thread_bytes : ThreadRecord → List ℕ
thread_bytes thread = record_bytes thread_layout thread

abbrev pub object_bytes : ObjectRecord → List ℕ
object_bytes object = record_bytes object_layout object

abbrev pub thread_size : ℕ
thread_size = size thread_layout

abbrev pub object_size : ℕ
object_size = size object_layout

abbrev pub threadcount_at : ℕ
threadcount_at = 0

abbrev pub objectcount_at : ℕ
objectcount_at = 1

abbrev pub threads_start : ℕ
threads_start = 2

abbrev pub objects_start : ℕ
objects_start = threads_start + thread_limit * thread_size

abbrev pub table_size : ℕ
table_size = objects_start + object_limit * object_size

-- where the records begin; places count from 0, so thread 1 is at place 0
abbrev pub thread_start : ℕ → ℕ
thread_start place = threads_start + place * thread_size

abbrev pub object_start : ℕ → ℕ
object_start place = objects_start + place * object_size
