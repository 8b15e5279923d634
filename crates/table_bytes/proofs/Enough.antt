-- Bytes that are enough for a table say what they are; too few say the empty table.
use Prim.Native.Nat.{ℕ, ◌-◌, ◌≤◌, ◌<◌}
use mathlib.Core.Path.{◌≡◌, refl, ap, sym, ◌∙◌}
use mathlib.Core.Logic.{◌≢◌}
use mathlib.Core.List.{List, []}
use native.Mathlib.Omega.{arith}
use Rattle.std.proofs.Common.{Some, None}
use lib.Dec.{eqb, ltb}
use lib.ListN.{length, get_or, replicate}
use borrow.Author.Tests.{le-ltb, lt-ltb, ne_eqb, eqb-false, ltb-false}
use Rattle.laws.specs.Choice.{pick}
use Rattle.laws.specs.Sequence.{tabulate}
use Rattle.laws.proofs.Choice.{by_test, split}
use Rattle.laws.proofs.Sequence.{tabulate_at, tabulate_every}
use Rattle.lock_table.specs.Limits.{thread_limit, object_limit}
use Rattle.lock_table.specs.Operation.{operation_from}
use Rattle.lock_table.specs.Record.{no_thread, no_object}
use Rattle.lock_table.specs.declared.record.Table.{Table}
use Rattle.table_bytes.specs.ThreadBytes.{phase_from, later_phase_from}
use Rattle.table_bytes.specs.Layout.{table_size}
use Rattle.table_bytes.specs.Reading.{AreBytes, thread_from, object_from, table_said, enough, table_of}

module _ (bytes : List ℕ) where
  pub enough_is : table_size ≤ length bytes → enough bytes ≡ bytes
  unfolding enough
  enough_is all = rw (le-ltb (length bytes) table_size all) refl

  pub enough_none : length bytes < table_size → enough bytes ≡ []
  unfolding enough
  enough_none few = rw (lt-ltb (length bytes) table_size few) refl

  pub enough_bytes : AreBytes bytes → AreBytes (enough bytes)
  unfolding enough
  enough_bytes small = by_test AreBytes (ltb (length bytes) table_size) (λ few i. omega arith) (λ all. small)

-- no bytes say empty records
pub empty_thread : (place : ℕ) → thread_from [] place ≡ no_thread
unfolding operation_from phase_from later_phase_from
empty_thread place = refl

pub empty_object : (place : ℕ) → object_from [] place ≡ no_object
empty_object place = refl

abbrev pub empty_table : Table
empty_table = record { threadcount = 0; objectcount = 0; threads = replicate thread_limit no_thread; objects = replicate object_limit no_object }

pub empty_said : (bytes : List ℕ) → length bytes < table_size → empty_table ≡ table_of bytes
unfolding tabulate operation_from phase_from later_phase_from
empty_said bytes few = sym (ap table_said (enough_none bytes few))

-- a record of a list by its number, from 1
module _ {A : Type 0} (limit number : ℕ) (f : ℕ → A) (none : A) where
  abbrev pub numbered : A
  numbered = pick (eqb number 0) none (pick (ltb limit number) none (get_or (tabulate limit f) (number - 1) none))

  pub numbered_is : number ≢ 0 → number ≤ limit → f (number - 1) ≡ numbered
  numbered_is some few =
      rw (ne_eqb number 0 some, le-ltb limit number few) (sym (tabulate_at limit f none (number - 1) (omega (arith, some, few))))

  pub numbered_placed : (place : ℕ) → Some place ≡ pick (eqb number 0) None (pick (ltb limit number) None (Some (number - 1))) → f place ≡ numbered
  numbered_placed place is =
      split (eqb number 0) (λ zero. let never : Some place ≡ None = rw zero at is in cc)
      (λ some. split (ltb limit number) (λ past. let never : Some place ≡ None = rw (some, past) at is in cc)
      (λ few. let here : Some place ≡ Some (number - 1) = rw (some, few) at is in
      let same : place ≡ number - 1 = cc in
      ap f same ∙ numbered_is (eqb-false number 0 some) (ltb-false limit number few)))

  pub numbered_none : ((i : ℕ) → f i ≡ none) → none ≡ numbered
  numbered_none each =
      by_test (λ x. none ≡ x) (eqb number 0) (λ zero. refl)
      (λ some. by_test (λ x. none ≡ x) (ltb limit number) (λ past. refl) (λ inside. tabulate_every limit f (λ x. none ≡ x) (λ i. sym (each i)) none refl (number - 1)))
