-- A number that is taken as 255 where it is larger gives the same of whatever does not tell 255 and larger numbers apart: a fresh table, a record.
use Prim.Native.Nat.{ℕ, ◌<◌}
use mathlib.Core.Path.{◌≡◌, refl, sym, ◌∙◌}
use mathlib.Core.Bool.{Bool, true, false}
use mathlib.Core.List.{List}
use native.Mathlib.Omega.{arith}
use lib.Dec.{ltb, leb}
use borrow.Author.Tests.{ltb-true, lt-leb}
use Rattle.laws.specs.Choice.{within}
use Rattle.laws.proofs.Choice.{split, both_no}
use Rattle.lock_table.specs.Limits.{thread_limit, object_limit}
use Rattle.lock_table.specs.Fresh.{request_of, in_range, fresh_answer, made_by, fresh_of}
use Rattle.lock_table.specs.declared.fresh_table.{ThreadGiven.ThreadGiven, FreshRefusal.FreshRefusal}
use Rattle.std.specs.Prelude.{Result}
use Rattle.lock_table.specs.Narrow.{narrow_of}
use Rattle.lock_table.specs.Access.{thread_at, object_at}
use Rattle.lock_table.specs.declared.record.Table.{Table}
use Rattle.lock_table.proofs.Records.{thread_past, object_beyond}

-- a number stays, or is 255 for a larger one
pub narrow_small : (n : ℕ) → ltb 255 n ≡ false → narrow_of n ≡ n
unfolding narrow_of
narrow_small n small = rw small refl

narrow_large : (n : ℕ) → ltb 255 n ≡ true → narrow_of n ≡ 255
unfolding narrow_of
narrow_large n large = rw large refl

-- what does not tell 255 and larger numbers apart does not tell a number and the narrow one apart
pub narrowed : {A : Type 0} (f : ℕ → A) → ((n : ℕ) → 255 < n → f 255 ≡ f n) → (n : ℕ) → f (narrow_of n) ≡ f n
narrowed f same n =
    split (ltb 255 n) (λ large. rw (narrow_large n large) (same n (ltb-true 255 n large))) (λ small. rw (narrow_small n small) refl)

-- a fresh table
module _ (reserved : Bool) (tothreads : List ThreadGiven) where
  abbrev made : ℕ → ℕ → Result Table FreshRefusal
  made threads objects = fresh_of (request_of threads objects reserved tothreads)

  threads_past : (objects n : ℕ) → 255 < n → made 255 objects ≡ made n objects
  unfolding fresh_of fresh_answer made_by in_range
  threads_past objects n past = rw (lt-leb n thread_limit (omega (arith, past)), both_no (leb 1 n)) refl

  objects_past : (threads n : ℕ) → 255 < n → made threads 255 ≡ made threads n
  unfolding fresh_of fresh_answer made_by in_range
  objects_past threads n past = rw (lt-leb n object_limit (omega (arith, past)), both_no (leb 1 n), both_no (within 1 thread_limit threads)) refl

  pub narrow_fresh : (threads objects : ℕ) → made (narrow_of threads) (narrow_of objects) ≡ made threads objects
  narrow_fresh threads objects =
      narrowed (λ n. made n (narrow_of objects)) (threads_past (narrow_of objects)) threads ∙ narrowed (made threads) (objects_past threads) objects

-- access: past the records there is nobody and nothing
module _ (table : Table) where
  pub narrow_thread : (thread : ℕ) → thread_at table (narrow_of thread) ≡ thread_at table thread
  narrow_thread = narrowed (thread_at table) (λ n past. thread_past table 255 (omega arith) ∙ sym (thread_past table n (omega (arith, past))))

  pub narrow_object : (object : ℕ) → object_at table (narrow_of object) ≡ object_at table object
  narrow_object = narrowed (object_at table) (λ n past. object_beyond table 255 (omega arith) ∙ sym (object_beyond table n (omega (arith, past))))
