-- A table with an event's work done, and the set of threads that it unparked: bit n - 1 for thread n. The code changes the table that it is lent, and gives
-- back the set.
use Rattle.std.specs.Prelude.{ℕ}
use Rattle.lock_table.specs.declared.record.Table.{Table}

pub record WorkDone : Type 0 where
  pub table : Table
  pub unparked : ℕ
