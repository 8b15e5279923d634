-- A number that is taken as 255 where it is larger gives the same begin and the same step: a sound table has no thread or object above 64, and no
-- operation is above 6.
use Prim.Native.Nat.{ℕ, ◌≤◌, ◌<◌}
use mathlib.Core.Path.{◌≡◌, refl, sym, ◌∙◌}
use mathlib.Core.Bool.{Bool, true, false, not}
use mathlib.Core.List.{List, ◌∷◌}
use native.Mathlib.Omega.{arith}
use lib.Dec.{leb}
use borrow.Author.Tests.{lt-leb}
use Rattle.laws.specs.Choice.{pick, within}
use Rattle.laws.proofs.Choice.{split, both_first, both_no}
use Rattle.lock_rules.specs.Gate.{GateRow, refuses, limit_fits, begin_rows, step_rows, first_refusing, gate}
use Rattle.lock_rules.specs.Operations.{operation_limit}
use Rattle.lock_rules.specs.declared.event.{Event.Event, ThreadStatus.ThreadStatus, Refusal.Refusal}
use Rattle.lock_rules.specs.declared.event.Event.TheVariants.{Begin, Step}
use Rattle.lock_rules.specs.declared.event.Refusal.TheVariants.{NotSound, NoSuchThread, NoSuchOperation, NoSuchObject}
use Rattle.std.specs.Prelude.{Err}
use Rattle.lock_table.specs.Limits.{thread_limit, object_limit}
use Rattle.lock_table.specs.Narrow.{narrow_of}
use Rattle.lock_table.specs.declared.record.Table.{Table}
use Rattle.lock_table.proofs.Narrowed.{narrowed}
use Rattle.lock_soundness.specs.Sound.{sizes_fit, sound_of}
use Rattle.lock_soundness.proofs.Reading.{reads_sizes}
use Rattle.lock_engine.specs.Handle.{trusted, handle, begin, step}
use Rattle.lock_engine.proofs.Refused.{handle_shut}

outside : (limit n : ℕ) → limit < n → within 1 limit n ≡ false
outside limit n past = rw (lt-leb n limit past) (both_no (leb 1 n))

pub sizes : (table : Table) → sound_of table ≡ true → (table.threadcount ≤ thread_limit) × (table.objectcount ≤ object_limit)
unfolding sound_of
sizes table sound =
    let fit = both_first (sizes_fit table.threadcount table.objectcount) _ sound in
    let read = (reads_sizes table.threadcount table.objectcount).read fit in
    (read.0.1, read.1.1)

-- the refusal of an event one of whose numbers is out of range, if none before it applies
abbrev no_thread : Bool → Refusal
no_thread sound = pick sound NoSuchThread NotSound

abbrev no_operation : Bool → Bool → Refusal
no_operation sound thread = pick sound (pick thread NoSuchOperation NoSuchThread) NotSound

abbrev no_object : Bool → Bool → Bool → Refusal
no_object sound thread operation = pick sound (pick thread (pick operation NoSuchObject NoSuchOperation) NoSuchThread) NotSound

-- 11 comes before all others
abbrev rows_from : Bool → List GateRow → List GateRow
rows_from sound rows = refuses NotSound (not sound) ∷ rows

begin_no_thread : (sound operation object limit : Bool) (status : ThreadStatus)
    → first_refusing (rows_from sound (begin_rows false operation object limit status)) ≡ Err (no_thread sound)
begin_no_thread true operation object limit status = refl
begin_no_thread false operation object limit status = refl

step_no_thread : (sound : Bool) (status : ThreadStatus) → first_refusing (rows_from sound (step_rows false status)) ≡ Err (no_thread sound)
step_no_thread true status = refl
step_no_thread false status = refl

begin_no_operation : (sound thread object limit : Bool) (status : ThreadStatus)
    → first_refusing (rows_from sound (begin_rows thread false object limit status)) ≡ Err (no_operation sound thread)
begin_no_operation true true object limit status = refl
begin_no_operation true false object limit status = refl
begin_no_operation false thread object limit status = refl

begin_no_object : (sound thread operation limit : Bool) (status : ThreadStatus)
    → first_refusing (rows_from sound (begin_rows thread operation false limit status)) ≡ Err (no_object sound thread operation)
begin_no_object true true true limit status = refl
begin_no_object true true false limit status = refl
begin_no_object true false operation limit status = refl
begin_no_object false thread operation limit status = refl

module _ (table : Table) where
  abbrev sound : Bool
  sound = trusted table (sound_of table)

  abbrev threads : ℕ
  threads = table.threadcount

  abbrev objects : ℕ
  objects = table.objectcount

  -- two events that are refused alike, if the table is sound at all
  alike : (refusal : Refusal) (one other : Event)
      → ((status : ThreadStatus) → gate sound threads objects one status ≡ Err refusal)
      → ((status : ThreadStatus) → gate sound threads objects other status ≡ Err refusal) → handle table one ≡ handle table other
  unfolding handle
  alike refusal one other shut_one shut_other =
      handle_shut table one (sound_of table) refusal (shut_one _) ∙ sym (handle_shut table other (sound_of table) refusal (shut_other _))

  -- an unsound table refuses every event alike
  unsound : (one other : Event) → sound_of table ≡ false → handle table one ≡ handle table other
  unsound one other is = alike NotSound one other (shut one) (shut other)
    where
      shut : (event : Event) (status : ThreadStatus) → gate sound threads objects event status ≡ Err NotSound
      shut event status = rw is refl

  tested : (one other : Event) → (sound_of table ≡ true → handle table one ≡ handle table other) → handle table one ≡ handle table other
  tested one other same = split (sound_of table) same (unsound one other)

  step_past : (n : ℕ) → 255 < n → step table 255 ≡ step table n
  step_past n past = tested (Step 255) (Step n)
      (λ is. let few = (sizes table is).0 in
      alike (no_thread sound) (Step 255) (Step n)
      (λ status. rw (outside threads 255 (omega (arith, few))) (step_no_thread sound status))
      (λ status. rw (outside threads n (omega (arith, few, past))) (step_no_thread sound status)))

  thread_past : (operation object limit n : ℕ) → 255 < n → begin table 255 operation object limit ≡ begin table n operation object limit
  thread_past operation object limit n past = tested (Begin operation 255 object limit) (Begin operation n object limit)
      (λ is. let few = (sizes table is).0 in
      alike (no_thread sound) (Begin operation 255 object limit) (Begin operation n object limit)
      (λ status. rw (outside threads 255 (omega (arith, few)))
      (begin_no_thread sound (within 1 operation_limit operation) (within 1 objects object) (limit_fits operation limit) status))
      (λ status. rw (outside threads n (omega (arith, few, past)))
      (begin_no_thread sound (within 1 operation_limit operation) (within 1 objects object) (limit_fits operation limit) status)))

  operation_past : (thread object limit n : ℕ) → 255 < n → begin table thread 255 object limit ≡ begin table thread n object limit
  operation_past thread object limit n past =
      alike (no_operation sound (within 1 threads thread)) (Begin 255 thread object limit) (Begin n thread object limit)
      (λ status. begin_no_operation sound (within 1 threads thread) (within 1 objects object) (limit_fits 255 limit) status)
      (λ status. rw (outside operation_limit n (omega (arith, past)))
      (begin_no_operation sound (within 1 threads thread) (within 1 objects object) (limit_fits n limit) status))

  object_past : (thread operation limit n : ℕ) → 255 < n → begin table thread operation 255 limit ≡ begin table thread operation n limit
  object_past thread operation limit n past = tested (Begin operation thread 255 limit) (Begin operation thread n limit)
      (λ is. let few = (sizes table is).1 in
      alike (no_object sound (within 1 threads thread) (within 1 operation_limit operation)) (Begin operation thread 255 limit) (Begin operation thread n limit)
      (λ status. rw (outside objects 255 (omega (arith, few)))
      (begin_no_object sound (within 1 threads thread) (within 1 operation_limit operation) (limit_fits operation limit) status))
      (λ status. rw (outside objects n (omega (arith, few, past)))
      (begin_no_object sound (within 1 threads thread) (within 1 operation_limit operation) (limit_fits operation limit) status)))

  pub narrow_step : (thread : ℕ) → step table (narrow_of thread) ≡ step table thread
  narrow_step thread = narrowed (step table) step_past thread

  -- the limit is passed as it is
  pub narrow_begin : (thread operation object limit : ℕ)
      → begin table (narrow_of thread) (narrow_of operation) (narrow_of object) limit ≡ begin table thread operation object limit
  narrow_begin thread operation object limit =
      narrowed (λ n. begin table n (narrow_of operation) (narrow_of object) limit) (thread_past (narrow_of operation) (narrow_of object) limit) thread
      ∙ narrowed (λ n. begin table thread n (narrow_of object) limit) (operation_past thread (narrow_of object) limit) operation
      ∙ narrowed (λ n. begin table thread operation n limit) (object_past thread operation limit) object
