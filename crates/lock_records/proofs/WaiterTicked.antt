-- What a tick makes of a thread that waits, and of its record.
use Prim.Native.Nat.{ℕ}
use mathlib.Core.Path.{◌≡◌}
use mathlib.Core.Bool.{Bool, true, false}
use Rattle.laws.specs.Choice.{pick}
use Rattle.lock_rules.specs.Limits.{one_less, ticked, no_ticks, at_zero}
use Rattle.lock_rules.specs.declared.{Suspension.Suspension, ThreadState.ThreadState}
use Rattle.lock_rules.specs.declared.ThreadState.TheVariants.{Waiting}
use Rattle.lock_rules.proofs.Changes.{moved}
use Rattle.lock_rules.proofs.Each.{each_suspension}
use Rattle.lock_rules.proofs.Tick.{one_tick_less, run_out_in}
use Rattle.lock_rules.proofs.Tables.{ListThread}
use Rattle.lock_table.specs.Record.{with_next}
use Rattle.lock_table.specs.Chain.{moved_phase}
use Rattle.lock_table.specs.declared.record.ThreadRecord.{ThreadRecord}
use Rattle.lock_perform.specs.State.{wait_activity, carried_activity, write_activity, write_thread}
use Rattle.lock_work.specs.Waiters.{runs_out, waiter_after, waiter_goes, waiter_ticked}
use Rattle.lock_records.proofs.Represents.{thread_record}
use Rattle.lock_records.proofs.Moves.{change}

-- a waiter after the tick
abbrev pub ticked_by : ThreadState → ThreadState
ticked_by state = pick (run_out_in (one_tick_less state)) (moved (one_tick_less state)) (one_tick_less state)

-- what the walk makes of the record of a thread that waits
record WaiterWritten (n o : ℕ) (own : ThreadRecord) (saved : Suspension) : Type 0 where
  goes : waiter_goes (write_thread n o (Waiting saved) own) ≡ at_zero (ticked saved)
  leaves : waiter_ticked (write_thread n o (Waiting saved) own) true ≡ write_thread n o (moved (Waiting (ticked saved))) (with_next own 0)
  stays : waiter_ticked (write_thread n o (Waiting saved) own) false ≡ write_thread n o (Waiting (ticked saved)) (with_next own 0)

waiter_written : (n o : ℕ) (own : ThreadRecord) (saved : Suspension) → WaiterWritten n o own saved
unfolding write_activity carried_activity wait_activity runs_out waiter_after moved_phase one_less no_ticks
waiter_written n o own = each_suspension _ (search)

-- the walk is told of it
pub waiter_becomes : (n : ℕ) (thread : ListThread) (saved : Suspension) (b : Bool) → thread.state ≡ Waiting saved → b ≡ at_zero (ticked saved) → (link : ℕ) (given : ThreadRecord)
    → let own = thread_record n thread link given in (waiter_goes own ≡ b) × (waiter_ticked own b ≡ thread_record n (change ticked_by thread) 0 given)
waiter_becomes n thread saved b waits is link given =
    rw (waits, is) (written.goes, after (at_zero (ticked saved)))
  where
    written : WaiterWritten n thread.object (with_next given link) saved
    written = waiter_written n thread.object (with_next given link) saved

    after : (b : Bool)
        → waiter_ticked (write_thread n thread.object (Waiting saved) (with_next given link)) b
        ≡ write_thread n thread.object (pick b (moved (Waiting (ticked saved))) (Waiting (ticked saved))) (with_next given 0)
    after true = written.leaves
    after false = written.stays
