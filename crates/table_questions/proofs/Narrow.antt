-- A question about a number that is taken as 255 where it is larger has the same answer: above the last record every number is refused alike.
use Prim.Native.Nat.{ℕ, ◌<◌}
use mathlib.Core.Path.{◌≡◌, refl}
use mathlib.Core.Bool.{Bool}
use native.Mathlib.Omega.{arith}
use lib.Dec.{leb, lit<}
use borrow.Author.Tests.{lt-leb}
use Rattle.laws.specs.Choice.{both, within}
use Rattle.lock_table.specs.Limits.{thread_limit, object_limit}
use Rattle.lock_table.specs.Access.{thread_at, object_at}
use Rattle.lock_table.specs.{Ownership.ownership_at, Narrow.narrow_of}
use Rattle.lock_table.specs.declared.record.Table.{Table}
use Rattle.lock_table.proofs.Narrowed.{narrowed}
use Rattle.laws.proofs.Choice.{both_no}
use Rattle.lock_rules.specs.declared.event.Refusal.{Refusal}
use Rattle.lock_rules.specs.declared.event.Refusal.TheVariants.{NoSuchThread, NoSuchObject}
use Rattle.table_questions.specs.Questions.{said_of, thread_value, object_value, thread_in, object_in}
use Rattle.table_questions.specs.declared.asking.{ThreadQuestion.ThreadQuestion, ObjectQuestion.ObjectQuestion}

module _ (istable : Bool) (table : Table) where
  said_past : (inside : ℕ → Bool) (limit : ℕ) (refusal : Refusal) (value : ℕ → ℕ) → limit < 255 → (n : ℕ) → 255 < n
      → said_of istable (both (inside 255) (leb 255 limit)) refusal (value 255) ≡ said_of istable (both (inside n) (leb n limit)) refusal (value n)
  unfolding said_of
  said_past inside limit refusal value low n past =
      rw (lt-leb 255 limit low, lt-leb n limit (omega (arith, low, past)), both_no (inside 255), both_no (inside n)) refl

  pub narrow_thread : (question : ThreadQuestion) (thread : ℕ) → thread_in question istable table (narrow_of thread) ≡ thread_in question istable table thread
  narrow_thread question thread =
      narrowed (thread_in question istable table)
      (said_past (within 1 table.threadcount) thread_limit NoSuchThread
      (λ n. let home = (thread_at table n).object in thread_value question n (thread_at table n) (ownership_at table home).thread (object_at table home).monitor.holder)
      (lit< tt)) thread

  pub narrow_object : (question : ObjectQuestion) (object : ℕ) → object_in question istable table (narrow_of object) ≡ object_in question istable table object
  narrow_object question object =
      narrowed (object_in question istable table)
      (said_past (within 1 table.objectcount) object_limit NoSuchObject (λ n. object_value question (object_at table n) (ownership_at table n)) (lit< tt))
      object
