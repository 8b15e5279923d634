-- One record stored over the bytes of a table gives the bytes of the table with that record set.
use Prim.Native.Nat.{ℕ, ◌-◌, ◌≤◌}
use mathlib.Core.Path.{◌≡◌, ap, ◌∙◌}
use mathlib.Core.Logic.{◌≢◌}
use mathlib.Core.List.{List, append-nil}
use native.Mathlib.Omega.{arith}
use lib.Dec.{eqb, ltb}
use lib.ListN.{length, set}
use borrow.Author.Tests.{eq-eqb, eqb-false, ltb-false}
use Rattle.laws.specs.Choice.{pick}
use Rattle.laws.proofs.Choice.{split}
use Rattle.lock_table.specs.Limits.{thread_limit, object_limit}
use Rattle.lock_table.specs.Access.{set_thread, set_object}
use Rattle.lock_table.specs.declared.record.{ThreadRecord.ThreadRecord, ObjectRecord.ObjectRecord, Table.Table}
use Rattle.table_bytes.specs.Rows.{overwritten}
use Rattle.table_bytes.specs.Layout.{table_size, thread_bytes, object_bytes, thread_start, object_start}
use Rattle.table_bytes.specs.Writing.{bytes_of, write_thread, write_object}
use Rattle.table_bytes.proofs.Parts.{area_write}
use Rattle.table_bytes.proofs.Written.{bytes_long, threads_area, objects_area}

-- a number that is none of a kind's changes nothing
numbered : (limit number : ℕ) (bytes changed : List ℕ) (table after : Table) → bytes ≡ bytes_of table
    → (number ≢ 0 → number ≤ limit → changed ≡ bytes_of after)
    → pick (eqb number 0) bytes (pick (ltb limit number) bytes changed) ≡ bytes_of (pick (eqb number 0) table (pick (ltb limit number) table after))
numbered limit number bytes changed table after same set_one =
    split (eqb number 0) (λ none. rw none same)
    (λ some. rw some (split (ltb limit number) (λ past. rw past same)
    (λ few. rw few (set_one (eqb-false number 0 some) (ltb-false limit number few)))))

module _ (bytes : List ℕ) (table : Table) (same : bytes ≡ bytes_of table) (number : ℕ) where
  long : length bytes ≡ table_size
  long = ap length same ∙ bytes_long table

  pub thread_written : length table.threads ≡ thread_limit → (thread : ThreadRecord) → write_thread bytes number thread ≡ bytes_of (set_thread table number thread)
  unfolding write_thread set_thread
  thread_written full thread =
      let at = thread_start (number - 1) in
      rw (eq-eqb (length bytes) table_size long)
      (numbered thread_limit number bytes (overwritten at (thread_bytes thread) bytes) table
      (record { threadcount = table.threadcount; objectcount = table.objectcount; threads = set table.threads (number - 1) thread; objects = table.objects }) same
      (λ some few. ap (overwritten at (thread_bytes thread)) same ∙ area_write (threads_area table) (number - 1) (omega (arith, some, few)) full thread))

  pub object_written : length table.objects ≡ object_limit → (object : ObjectRecord) → write_object bytes number object ≡ bytes_of (set_object table number object)
  unfolding write_object set_object
  object_written full object =
      let at = object_start (number - 1) in
      let after : Table = record { threadcount = table.threadcount; objectcount = table.objectcount; threads = table.threads; objects = set table.objects (number - 1) object } in
      rw (eq-eqb (length bytes) table_size long)
      (numbered object_limit number bytes (overwritten at (object_bytes object) bytes) table after same
      (λ some few. ap (overwritten at (object_bytes object)) same
      ∙ area_write (objects_area table) (number - 1) (omega (arith, some, few)) full object ∙ append-nil (bytes_of after)))
