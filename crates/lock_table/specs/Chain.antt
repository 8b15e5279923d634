-- What is done to the threads of a chain in the table (document 01, "The table": threads join at the end; "Steps": hand, moved threads).
use Rattle.std.specs.Prelude.{ℕ, zero, suc, eqb}
use Rattle.laws.specs.Choice.{pick}
use Rattle.lock_table.specs.Phase.{onward_phase}
use Rattle.lock_table.specs.Record.{with_phase, with_next}
use Rattle.lock_table.specs.Access.{thread_at, set_thread, next_of}
use Rattle.lock_table.specs.declared.phase.Onward.TheVariants.{ToCheck, ToResume}
use Rattle.lock_table.specs.declared.phase.Phase.{Phase}
use Rattle.lock_table.specs.declared.phase.Phase.TheVariants.{Idle, Look, Store, Cancel, GoIn, Queued, Check, Try, Contending, Test, Tell}
use Rattle.lock_table.specs.declared.phase.Phase.TheVariants.{Leave, Inflate, GiveUp, Waiting, Resume}
use Rattle.lock_table.specs.declared.record.ThreadRecord.{ThreadRecord}
use Rattle.lock_table.specs.declared.record.Table.{Table}

-- a queued thread that is handed the monitor takes the phase that it carries
unfoldable pub carried_of : Phase → Phase
carried_of Idle = Idle
carried_of Look = Look
carried_of Store = Store
carried_of Cancel = Cancel
carried_of GoIn = GoIn
carried_of (Queued onward) = onward_phase onward
carried_of Check = Check
carried_of Try = Try
carried_of Contending = Contending
carried_of Test = Test
carried_of Tell = Tell
carried_of Leave = Leave
carried_of Inflate = Inflate
carried_of GiveUp = GiveUp
carried_of Waiting = Waiting
carried_of Resume = Resume

-- the first of the entry chain, having left it with the monitor
abbrev pub handed_of : ThreadRecord → ThreadRecord
handed_of thread = with_next (with_phase thread (carried_of thread.phase)) 0

-- moved contenders and waiters take phase 5; contenders carry 6, waiters 15
unfoldable pub moved_phase : Phase → Phase
moved_phase Idle = Idle
moved_phase Look = Look
moved_phase Store = Store
moved_phase Cancel = Cancel
moved_phase GoIn = GoIn
moved_phase (Queued onward) = Queued onward
moved_phase Check = Check
moved_phase Try = Try
moved_phase Contending = Queued ToCheck
moved_phase Test = Test
moved_phase Tell = Tell
moved_phase Leave = Leave
moved_phase Inflate = Inflate
moved_phase GiveUp = GiveUp
moved_phase Waiting = Queued ToResume
moved_phase Resume = Resume

abbrev pub moved : ThreadRecord → ThreadRecord
moved thread = with_phase thread (moved_phase thread.phase)

-- all of the chain from `first` on, at most `fuel`; their next indexes stay
unfoldable pub move_all : ℕ → Table → ℕ → Table
move_all zero table first = table
move_all (suc fuel) table first =
    pick (eqb first 0) table (move_all fuel (set_thread table first (moved (thread_at table first))) (next_of table first))
