-- The bytes of a table are a table, and read back as the same table.
use mathlib.Core.Path.{◌≡◌, ap, ◌∙◌}
use mathlib.Core.Bool.{true}
use native.Mathlib.Omega.{arith}
use lib.ListN.{length}
use borrow.Author.Tests.{eq-eqb}
use Rattle.laws.proofs.Choice.{both_of}
use Rattle.lock_table.specs.Limits.{thread_limit, object_limit}
use Rattle.lock_table.specs.declared.record.Table.{Table}
use Rattle.table_bytes.specs.ThreadBytes.{thread_of, thread_known}
use Rattle.table_bytes.specs.ObjectBytes.{object_of, object_known}
use Rattle.table_bytes.specs.{Layout.table_size, Writing.bytes_of}
use Rattle.table_bytes.specs.Reading.{table_said, table_of, is_table}
use Rattle.table_bytes.proofs.Parts.{area_known, area_back}
use Rattle.table_bytes.proofs.ThreadBytes.{thread_back, thread_read_known}
use Rattle.table_bytes.proofs.ObjectBytes.{object_back, object_read_known}
use Rattle.table_bytes.proofs.Enough.{enough_is}
use Rattle.table_bytes.proofs.Written.{bytes_long, threads_area, objects_area}

module _ (table : Table) where
  -- the bytes of a table are a table
  pub bytes_table : is_table (bytes_of table) ≡ true
  unfolding is_table
  bytes_table =
      both_of (eq-eqb (length (bytes_of table)) table_size (bytes_long table))
      (both_of (area_known (threads_area table) thread_known thread_read_known) (area_known (objects_area table) object_known object_read_known))

  -- and read back as the table, which has as many records as any
  pub read_back : length table.threads ≡ thread_limit → length table.objects ≡ object_limit → table_of (bytes_of table) ≡ table
  read_back threads objects =
      ap table_said (enough_is (bytes_of table) (omega (arith, bytes_long table)))
      ∙ (λ i. record {
        threadcount = table.threadcount;
        objectcount = table.objectcount;
        threads = area_back (threads_area table) thread_of thread_back threads i;
        objects = area_back (objects_area table) object_of object_back objects i;
      })
