-- What the types of the code give every table. A table of the definitions is a list of any length and of numbers of any size;
-- proofs/OwnedTables.antt shows that the code has no other tables than these.
use Rattle.std.specs.Prelude.{ℕ, ◌≤◌, ◌≡◌, length}
use Rattle.lock_table.specs.Limits.{thread_limit, object_limit}
use Rattle.lock_word.specs.Depth.{depth_limit}
use Rattle.lock_table.specs.Access.{object_at}
use Rattle.lock_table.specs.declared.record.Table.{Table}

-- its arrays have their lengths, and depths have 16 bits
pub record WellTyped (table : Table) : Type 0 where
  pub threads : length table.threads ≡ thread_limit
  pub objects : length table.objects ≡ object_limit
  pub depths : (o : ℕ) → (object_at table o).monitor.depth ≤ depth_limit
