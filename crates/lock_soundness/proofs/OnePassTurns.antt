-- What a turn of a walk along the thread records reads, and what a turn of the loop over the objects does: to an empty record, and to the marks.
use Prim.Native.Nat.{ℕ, zero, suc, ◌-◌, ◌≤◌, ◌<◌}
use mathlib.Core.Path.{◌≡◌, refl, sym, ap, ◌∙◌}
use mathlib.Core.Logic.{◌≢◌}
use mathlib.Core.Bool.{Bool, true, false}
use mathlib.Core.List.{List}
use native.Mathlib.Omega.{arith}
use lib.Dec.{eqb, ltb}
use lib.ListN.{get_or}
use borrow.Author.Tests.{ne_eqb, le-ltb, lt-ltb}
use Rattle.laws.specs.Choice.{pick, within}
use Rattle.laws.proofs.Choice.{pick_same}
use Rattle.chains.specs.Chain.{chain_test}
use Rattle.lock_table.specs.{Limits.thread_limit, Record.no_thread, Access.object_at}
use Rattle.lock_table.specs.Place.{place_within, thread_place}
use Rattle.lock_table.specs.declared.record.{ThreadRecord.ThreadRecord, ObjectRecord.ObjectRecord, Table.Table}
use Rattle.lock_table.proofs.Places.{number_some, number_high, number_past}
use Rattle.sound_records.specs.Records.{empty_object}
use Rattle.sound_records.specs.OnePass.{rank_there, member_passes}
use Rattle.sound_records.proofs.Reading.{reads_empty_object}
use Rattle.lock_soundness.specs.OnePass.{thread_in, next_in, member_fits, chain_passes, chains_pass, chain_marks, chains_marks, object_passes}
use Rattle.lock_soundness.specs.OnePass.{object_turn, objects_marks}
use Rattle.lock_soundness.proofs.Marks.{marked_none}

-- a record in place is that of its number
pub thread_here : (threads : List ThreadRecord) (n : ℕ) → within 1 thread_limit n ≡ true → thread_in threads n ≡ get_or threads (n - 1) no_thread
unfolding thread_in
thread_here threads n inside = simp (ne_eqb n 0 (number_some thread_limit _ inside), le-ltb thread_limit n (number_high thread_limit _ inside))

pub next_here : (threads : List ThreadRecord) (n : ℕ) → within 1 thread_limit n ≡ true → next_in threads n ≡ (get_or threads (n - 1) no_thread).next
next_here threads n inside = ap (λ (thread : ThreadRecord). thread.next) (thread_here threads n inside)

-- the rank of a number, by the record at its place
pub rank_here : (threads : List ThreadRecord) (n : ℕ) → rank_there n (get_or threads (thread_place n) no_thread) ≡ (thread_in threads n).rank
unfolding rank_there place_within thread_in
rank_here threads n = at (eqb n 0) (ltb thread_limit n)
  where
    at : (none past : Bool)
        → pick none 0 (pick past 0 (get_or threads (pick none 0 (pick past 0 (n - 1))) no_thread).rank)
        ≡ (let there : ThreadRecord = pick none no_thread (pick past no_thread (get_or threads (n - 1) no_thread)) in there.rank)
    at true past = refl
    at false true = refl
    at false false = refl

pub member_here : (threads : List ThreadRecord) (count o chain n : ℕ) → within 1 thread_limit n ≡ true → n ≤ count
    → let thread = get_or threads (n - 1) no_thread in
    member_fits threads count o chain n ≡ member_passes o chain thread (rank_there thread.next (get_or threads (thread_place thread.next) no_thread))
unfolding member_fits
member_here threads count o chain n inside low =
    let thread = get_or threads (n - 1) no_thread in
    simp (le-ltb count n low, le-ltb thread_limit n (number_high thread_limit _ inside))
    (ap (λ (own : ThreadRecord). member_passes o chain own (thread_in threads own.next).rank) (thread_here threads n inside)
    ∙ ap (member_passes o chain thread) (sym (rank_here threads thread.next)))

-- a number that no thread has
pub member_none : (threads : List ThreadRecord) (count o chain n : ℕ) → n ≢ 0 → within 1 thread_limit n ≡ false → member_fits threads count o chain n ≡ false
unfolding member_fits
member_none threads count o chain n some outside = rw (lt-ltb thread_limit n (number_past thread_limit n some outside)) (pick_same (ltb count n) false)

-- an empty chain passes any test
pub empty_passes : (fuel : ℕ) (next : ℕ → ℕ) (ok : ℕ → Bool) → chain_test fuel next ok 0 ≡ true
unfolding chain_test
empty_passes zero next ok = refl
empty_passes (suc fuel) next ok = refl

pub empty_object_turn : (threads : List ThreadRecord) (count objects o : ℕ) (object : ObjectRecord) (met : List Bool) → empty_object object ≡ true
    → (true ≡ object_passes threads count objects o object) × (met ≡ chains_marks threads count o object.monitor met)
unfolding object_passes chains_pass chain_passes chains_marks chain_marks
empty_object_turn threads count objects o object met empty =
    rw empty (rw ((reads_empty_object object).read empty) (simp (empty_passes, marked_none) (refl, refl)))

abbrev marks_at : Table → ℕ → List Bool → List Bool
marks_at t o met = chains_marks t.threads t.threadcount o (object_at t o).monitor met

pub objects_marks_step : {left : ℕ} → 0 < left → (t : Table) (met : List Bool)
    → objects_marks t left met ≡ pick (object_turn t left) (objects_marks t (left - 1) (marks_at t left met)) (marks_at t left met)
unfolding objects_marks
objects_marks_step {left} h t met =
    let one : left ≡ suc (left - 1) = omega arith in
    let step : (k : ℕ) → left ≡ suc k → objects_marks t left met ≡ pick (object_turn t left) (objects_marks t k (marks_at t left met)) (marks_at t left met) =
    λ k e. rw e refl in
    step (left - 1) one

pub objects_marks_end : {left : ℕ} → left ≤ 0 → (t : Table) (met : List Bool) → objects_marks t left met ≡ met
unfolding objects_marks
objects_marks_end {left} h t met = let none : left ≡ 0 = omega arith in ap (λ (k : ℕ). objects_marks t k met) none
