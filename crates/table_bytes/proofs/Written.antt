-- What the code writes, sizes, threads and objects one behind the other, is the table's bytes, whatever stood there.
use Prim.Native.Nat.{ℕ, ◌+◌, ◌≤◌}
use mathlib.Core.Path.{◌≡◌, refl, ap, sym, ◌∙◌}
use mathlib.Core.Bool.{true}
use mathlib.Core.List.{List, [], ◌∷◌, ◌++◌, append-nil}
use native.Mathlib.Omega.{arith}
use native.Mathlib.Nat.{zero-add}
use lib.Dec.{eqb}
use lib.ListN.{length, set, length-append, drop_of_length-le}
use borrow.Author.Tests.{eqb-true, eq-eqb}
use Rattle.laws.proofs.Choice.{both_first}
use Rattle.lock_table.specs.Limits.{thread_limit, object_limit}
use Rattle.lock_table.specs.Record.{no_thread, no_object}
use Rattle.lock_table.specs.declared.record.Table.{Table}
use Rattle.table_bytes.specs.{Rows.overwritten, ThreadBytes.thread_layout, ObjectBytes.object_layout, Reading.is_table}
use Rattle.table_bytes.specs.Layout.{threads_start, objects_start, table_size}
use Rattle.table_bytes.specs.Writing.{threads_bytes, objects_bytes, bytes_of, kept_over}
use Rattle.table_bytes.proofs.Parts.{Area, records_length, overwritten_next, overwritten_length}

module _ (table : Table) where
  abbrev pub sizes : List ℕ
  sizes = table.threadcount ∷ table.objectcount ∷ []

  pub front_long : length (sizes ++ threads_bytes table.threads) ≡ objects_start
  front_long =
      length-append sizes (threads_bytes table.threads)
      ∙ ap (λ (n : ℕ). threads_start + n) (records_length thread_layout no_thread table.threads thread_limit)

  -- a table's bytes are as many as a table has
  pub bytes_long : length (bytes_of table) ≡ table_size
  bytes_long =
      length-append (sizes ++ threads_bytes table.threads) (objects_bytes table.objects)
      ∙ rw (front_long, records_length object_layout no_object table.objects object_limit) refl

  -- where its records stand
  abbrev pub threads_area : Area thread_layout no_thread table.threads thread_limit threads_start (bytes_of table)
  threads_area = record { front = sizes; back = objects_bytes table.objects; starts = refl; is = refl; some = refl }

  abbrev pub objects_area : Area object_layout no_object table.objects object_limit objects_start (bytes_of table)
  objects_area =
      record { front = sizes ++ threads_bytes table.threads; back = []; starts = front_long; is = sym (append-nil (bytes_of table)); some = refl }

  module _ (bytes : List ℕ) (long : length bytes ≡ table_size) where
    abbrev pub sized : List ℕ
    sized = overwritten 0 sizes bytes

    abbrev pub threaded : List ℕ
    threaded = overwritten threads_start (threads_bytes table.threads) sized

    pub sized_long : length sized ≡ table_size
    sized_long = overwritten_length 0 sizes bytes (omega (arith, long)) ∙ long

    pub threaded_long : length threaded ≡ table_size
    threaded_long =
        overwritten_length threads_start (threads_bytes table.threads) sized
        (omega (arith, sized_long, records_length thread_layout no_thread table.threads thread_limit)) ∙ sized_long

    pub written_is : overwritten objects_start (objects_bytes table.objects) threaded ≡ bytes_of table
    written_is =
        let front = sizes ++ threads_bytes table.threads in
        let objects = objects_bytes table.objects in
        let behind : objects_start ≡ 0 + length front = sym (zero-add (length front) ∙ front_long) in
        let past : length bytes ≤ 0 + length (bytes_of table) = omega (arith, long, bytes_long) in
        ap (overwritten objects_start objects) (overwritten_next 0 sizes (threads_bytes table.threads) bytes (omega arith))
        ∙ ap (λ (n : ℕ). overwritten n objects (overwritten 0 front bytes)) behind
        ∙ overwritten_next 0 front objects bytes (omega arith)
        ∙ ap (λ (rest : List ℕ). bytes_of table ++ rest) (drop_of_length-le bytes past)
        ∙ append-nil (bytes_of table)

-- the sizes, stored one by one
pub sizes_set : (bytes : List ℕ) (threads objects : ℕ) → 2 ≤ length bytes → set (set bytes 0 threads) 1 objects ≡ overwritten 0 (threads ∷ objects ∷ []) bytes
sizes_set [] threads objects room = absurd (omega (arith, room))
sizes_set (x ∷ []) threads objects room = absurd (omega (arith, room))
sizes_set (x ∷ y ∷ rest) threads objects room = refl

pub kept_is : (bytes : List ℕ) (table : Table) → length bytes ≡ table_size → kept_over bytes table ≡ bytes_of table
unfolding kept_over
kept_is bytes table long = rw (eq-eqb (length bytes) table_size long) refl

-- a table has its size
pub table_long : (bytes : List ℕ) → is_table bytes ≡ true → length bytes ≡ table_size
unfolding is_table
table_long bytes known = eqb-true (length bytes) table_size (both_first (eqb (length bytes) table_size) _ known)
