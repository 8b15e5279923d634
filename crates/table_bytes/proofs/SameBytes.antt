-- Bytes that are a table are the bytes of the table that they say.
use Prim.Native.Nat.{ℕ, ◌+◌, ◌*◌}
use mathlib.Core.Path.{◌≡◌, refl, ap, sym, ◌∙◌}
use mathlib.Core.Bool.{Bool, true}
use mathlib.Core.List.{List, [], ◌∷◌, ◌++◌}
use native.Mathlib.Omega.{arith}
use lib.Dec.{eqb}
use lib.ListN.{length}
use Rattle.laws.specs.{Choice.both, Every.all_below, Sequence.tabulate}
use Rattle.laws.proofs.Choice.{both_first, both_second}
use Rattle.laws.proofs.Sequence.{tabulate_all}
use Rattle.lock_table.specs.Limits.{thread_limit, object_limit}
use Rattle.lock_table.specs.Record.{no_thread, no_object}
use Rattle.table_bytes.specs.ThreadBytes.{thread_layout, thread_of, thread_known}
use Rattle.table_bytes.specs.ObjectBytes.{object_layout, object_of, object_known}
use Rattle.table_bytes.specs.Layout.{thread_size, object_size, threads_start, objects_start, table_size}
use Rattle.table_bytes.specs.Reading.{AreBytes, byte_at, thread_numbers, object_numbers, table_said, table_of, is_table}
use Rattle.table_bytes.specs.Writing.{bytes_of}
use Rattle.table_bytes.proofs.{Rows.tabulate_more, Parts.area_same, ThreadBytes.thread_same, ObjectBytes.object_same, Written.table_long, Enough.enough_is}

run_of_two : (f : ℕ → ℕ) → f 0 ∷ f 1 ∷ [] ≡ tabulate 2 f
unfolding tabulate
run_of_two f = refl

module _ (bytes : List ℕ) (small : AreBytes bytes) (known : is_table bytes ≡ true) where
  abbrev all_threads : Bool
  all_threads = all_below thread_limit (λ place. thread_known (thread_numbers bytes place))

  abbrev all_objects : Bool
  all_objects = all_below object_limit (λ place. object_known (object_numbers bytes place))

  records_known : both all_threads all_objects ≡ true
  unfolding is_table
  records_known = both_second (eqb (length bytes) table_size) (both all_threads all_objects) known

  pub bytes_back : bytes_of (table_of bytes) ≡ bytes
  bytes_back =
      ap (λ (b : List ℕ). bytes_of (table_said b)) (enough_is bytes (omega (arith, table_long bytes known)))
      ∙ rw (
        area_same thread_layout no_thread thread_of thread_known thread_same thread_limit threads_start bytes small (both_first all_threads all_objects records_known),
        area_same object_layout no_object object_of object_known object_same object_limit objects_start bytes small (both_second all_threads all_objects records_known),
      )
      (ap (λ (sizes : List ℕ). sizes ++ tabulate (thread_limit * thread_size) (λ i. byte_at bytes (threads_start + i)) ++ tabulate (object_limit * object_size) (λ i. byte_at bytes (objects_start + i))) (run_of_two (byte_at bytes))
      ∙ rw (tabulate_more 2 (thread_limit * thread_size) (byte_at bytes)) (tabulate_more objects_start (object_limit * object_size) (byte_at bytes))
      ∙ sym (tabulate_all table_size (byte_at bytes) 0 bytes (table_long bytes known) (λ i low. refl)))
