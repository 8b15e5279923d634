-- A fine state is written as soundness asks of one thread record.
use Prim.Native.Nat.{ℕ, zero, suc, ◌-◌, ◌≤◌}
use mathlib.Core.Path.{◌≡◌, refl}
use mathlib.Core.Bool.{true}
use native.Mathlib.Omega.{arith}
use lib.Dec.{T, eqb}
use borrow.Author.Tests.{eq-eqb, le-leb}
use Rattle.laws.specs.Choice.{both, either, within}
use Rattle.lock_word.specs.{Layout.count_limit, Depth.depth_limit, Ticks.tick_limit}
use Rattle.lock_word.specs.Read.{read_word, thread_number}
use Rattle.lock_word.specs.Write.{write_word, InRange, reserved_word}
use Rattle.lock_word.specs.declared.reading.LockWord.TheVariants.{Reserved}
use Rattle.std.specs.Prelude.{Some}
use Rattle.lock_word.proofs.RoundTrip.{meaning_of_word}
use Rattle.lock_rules.specs.{Numbers.phase_of, Rules.onward}
use Rattle.lock_rules.proofs.Each.{each_doing, each_carried, each_limit, each_suspension}
use Rattle.lock_rules.proofs.Status.{unfinished}
use Rattle.lock_rules.specs.declared.{OnwardStep.OnwardStep, Doing.Doing, ThreadState.ThreadState}
use Rattle.lock_rules.specs.declared.Doing.TheVariants.{EnterStore, ExitStore}
use Rattle.lock_rules.specs.declared.ThreadState.TheVariants.{Idle, Running, Queued, Contending, Waiting}
use Rattle.lock_rules.proofs.ListSound.{DoingFine, StateFine}
use Rattle.lock_table.specs.{Limits.thread_limit, Operation.operation_number, Parked.chain_named}
use Rattle.lock_table.specs.Phase.{onward_number, phase_number, carried_number}
use Rattle.lock_table.specs.declared.record.ThreadRecord.{ThreadRecord}
use Rattle.lock_table.specs.Record.{with_activity, with_next}
use Rattle.lock_perform.specs.State.{doing_activity, wait_activity, carried_activity, write_activity, write_thread}
use Rattle.sound_records.specs.Records.{uses_phase, carries_phase, operation_fits, kept_count_fits, reserved_for, kept_fits, saves_depth}
use Rattle.sound_records.specs.Records.{saved_fits, ticks_fit, unused_fits}
use Rattle.sound_records.proofs.Reading.{Within, ThreadFits, activity_fits?, written_thread_fits}
use Rattle.laws.proofs.Facts.{reads_within}
use Rattle.lock_records.proofs.Naming.{running_names_none}

-- a kept word is read as it was written
kept_read : (n count : ℕ) → 1 ≤ n → n ≤ thread_limit → count ≤ count_limit → read_word (reserved_word n count) ≡ Some (Reserved (thread_number n) count)
unfolding write_word InRange
kept_read n count low high small = meaning_of_word (Reserved (thread_number n) count) ((low, omega arith), omega arith)

-- a saved depth is in range
saved_inside : (depth : ℕ) → 1 ≤ depth → depth ≤ depth_limit → within 1 depth_limit depth ≡ true
saved_inside depth low high = (reads_within 1 depth_limit depth).make (low, high)

-- and so are ticks
ticks_inside : (left : ℕ) → 1 ≤ left → left ≤ tick_limit → within 1 tick_limit left ≡ true
ticks_inside left low high = (reads_within 1 tick_limit left).make (low, high)

-- those of a wait that resumes may have run out
ticks_resumed : (left : ℕ) → left ≤ tick_limit → either (within 1 tick_limit left) (both (eqb left 0) true) ≡ true
ticks_resumed zero high = refl
ticks_resumed (suc left) high = rw (ticks_inside (suc left) (omega arith) high)

module _ (objects n o : ℕ) (own : ThreadRecord) (low : 1 ≤ n) (high : n ≤ thread_limit) where
  abbrev Home : Type 0
  Home = within 1 objects o ≡ true

  doing_fits : (doing : Doing) → DoingFine doing → Home → own.next ≡ 0 → activity_fits? objects n (with_activity own (doing_activity n o doing)) ≡ true
  unfolding operation_fits uses_phase carries_phase kept_fits reserved_for kept_count_fits saves_depth saved_fits chain_named unused_fits
      operation_number phase_number carried_number doing_activity wait_activity ticks_fit
  doing_fits doing fine home out =
      each_doing (λ d. DoingFine d → activity_fits? objects n (with_activity own (doing_activity n o d)) ≡ true) (
        (search (home, out), enters, search (home, out), search (home, out), search (home, out), search (home, out)),
        (search (home, out), exits, search (home, out), search (home, out), search (home, out), search (home, out)),
        (
          each_limit _ (search (home, out), λ left fine. rw (home, out, ticks_inside left fine.0 fine.1)),
          each_limit _ (search (home, out), λ left fine. rw (home, out, ticks_inside left fine.0 fine.1)),
          each_limit _ (search (home, out), λ left fine. rw (home, out, ticks_inside left fine.0 fine.1)),
          each_limit _ (search (home, out), λ left fine. rw (home, out, ticks_inside left fine.0 fine.1)),
          each_limit _ (search (home, out), λ left fine. rw (home, out, ticks_inside left fine.0 fine.1)),
          each_suspension _ (λ depth fine. rw (home, out, saved_inside depth fine.0 fine.1), λ depth left fine. rw (home, out, saved_inside depth fine.0 fine.1) (rw (ticks_resumed left fine.2) refl)),
        ),
        search (home, out),
        search (home, out),
      ) doing fine
    where
      enters : (count : ℕ) → DoingFine (EnterStore count) → activity_fits? objects n (with_activity own (doing_activity n o (EnterStore count))) ≡ true
      enters count fine =
          rw (home, out, kept_read n count low high (omega arith), eq-eqb n n refl, le-leb count (count_limit - 1) (omega arith))

      exits : (count : ℕ) → DoingFine (ExitStore count) → activity_fits? objects n (with_activity own (doing_activity n o (ExitStore count))) ≡ true
      exits count (some, most) =
          rw (home, out, kept_read n count low high most, eq-eqb n n refl, le-leb 1 count some, le-leb count count_limit most)

  carried_fits : (carried : OnwardStep) → DoingFine (onward carried) → Home → activity_fits? objects n (with_activity own (carried_activity o carried)) ≡ true
  unfolding operation_fits uses_phase carries_phase kept_fits saves_depth saved_fits chain_named unused_fits
      operation_number phase_number carried_number onward_number carried_activity wait_activity ticks_fit
  carried_fits carried fine home =
      each_carried (λ c. DoingFine (onward c) → activity_fits? objects n (with_activity own (carried_activity o c)) ≡ true) (
        search home,
        search home,
        each_limit _ (search home, λ left fine. rw (home, ticks_inside left fine.0 fine.1)),
        each_suspension _ (λ depth fine. rw (home, saved_inside depth fine.0 fine.1), λ depth left fine. rw (home, saved_inside depth fine.0 fine.1) (rw (ticks_resumed left fine.2) refl)),
      ) carried fine

  state_fits : (state : ThreadState) → StateFine state → (T (unfinished state) → Home) → (chain_named (phase_of state) ≡ 0 → own.next ≡ 0)
      → activity_fits? objects n (write_thread n o state own) ≡ true
  unfolding operation_fits uses_phase carries_phase kept_fits saves_depth saved_fits chain_named unused_fits
      operation_number phase_number carried_number write_activity wait_activity ticks_fit
  state_fits Idle fine home out = rw (out refl)
  state_fits (Running doing) fine home out = doing_fits doing fine (home tt) (out (running_names_none doing))
  state_fits (Queued carried) fine home out = carried_fits carried fine (home tt)
  state_fits Contending fine home out = rw (home tt)
  state_fits (Waiting suspension) fine home out =
      each_suspension (λ saved. StateFine (Waiting saved) → activity_fits? objects n (write_thread n o (Waiting saved) own) ≡ true)
      (λ depth fine. rw (home tt, saved_inside depth fine.0 fine.1), λ depth left fine. rw (home tt, saved_inside depth fine.0 fine.1, ticks_inside left fine.2.0 fine.2.1)) suspension fine

-- A fine state at an object of the table, with no next index where it is in no chain, written into what the thread was given. That fits, and stays as
-- it was.
pub written_fits : (objects n o : ℕ) (given : ThreadRecord) (next : ℕ) → 1 ≤ n → n ≤ thread_limit → ThreadFits objects n given
    → (state : ThreadState) → StateFine state → (T (unfinished state) → Within 1 objects o) → (chain_named (phase_of state) ≡ 0 → next ≡ 0)
    → ThreadFits objects n (write_thread n o state (with_next given next))
written_fits objects n o given next low high fits state fine home out =
    written_thread_fits objects n given next (write_activity n o state) fits
    (state_fits objects n o (with_next given next) low high state fine (λ busy. (reads_within 1 objects o).make (home busy)) out)
