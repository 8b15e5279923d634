-- A thread's record read as what the thread is doing, and what of it is written: "fields of a thread that its phase does not use are 0".
use Rattle.std.specs.Prelude.{ℕ}
use Rattle.lock_word.specs.Read.{read_word}
use Rattle.lock_word.specs.Meaning.{kept_count}
use Rattle.lock_word.specs.Write.{reserved_word}
use Rattle.lock_rules.specs.declared.Limit.{Limit}
use Rattle.lock_rules.specs.declared.Limit.TheVariants.{Unlimited, Ticks}
use Rattle.lock_rules.specs.declared.Suspension.{Suspension}
use Rattle.lock_rules.specs.declared.OnwardStep.{OnwardStep}
use Rattle.lock_rules.specs.declared.OnwardStep.TheVariants.{ToCheck, ToTell, ToInflate, ToResume}
use Rattle.lock_rules.specs.declared.Doing.{Doing}
use Rattle.lock_rules.specs.declared.Doing.TheVariants.{EnterLook, EnterStore, EnterCancel, EnterGoIn, EnterCheck, EnterTry, ExitLook}
use Rattle.lock_rules.specs.declared.Doing.TheVariants.{ExitStore, ExitGoIn, ExitTest, ExitTell, ExitLeave, WaitLook, WaitCancel, WaitGoIn}
use Rattle.lock_rules.specs.declared.Doing.TheVariants.{WaitInflate, WaitGiveUp, WaitResume, NotifyLook, NotifyAllLook}
use Rattle.lock_rules.specs.declared.ThreadState.{ThreadState}
use Rattle.lock_rules.specs.declared.ThreadState.TheVariants.{Idle, Running, Queued, Contending, Waiting}
use Rattle.lock_table.specs.declared.operation.Operation.{Operation}
use Rattle.lock_table.specs.declared.operation.Operation.TheVariants.{Idle as NoOperation, Enter, Exit, Wait, Notify, NotifyAll, TimedWait}
use Rattle.lock_table.specs.declared.phase.Onward.{Onward}
use Rattle.lock_table.specs.declared.phase.Onward.TheVariants.{ToCheck as OnToCheck, ToTell as OnToTell, ToInflate as OnToInflate}
use Rattle.lock_table.specs.declared.phase.Onward.TheVariants.{ToResume as OnToResume}
use Rattle.lock_table.specs.declared.phase.Phase.{Phase}
use Rattle.lock_table.specs.declared.phase.Phase.TheVariants.{Idle as IdlePhase, Look, Store, Cancel, GoIn, Queued as QueuedPhase, Check, Try}
use Rattle.lock_table.specs.declared.phase.Phase.TheVariants.{Contending as ContendingPhase, Test, Tell, Leave, Inflate, GiveUp}
use Rattle.lock_table.specs.declared.phase.Phase.TheVariants.{Waiting as WaitingPhase, Resume}
use Rattle.lock_table.specs.Record.{no_activity, activity, with_activity}
use Rattle.lock_table.specs.declared.record.ThreadRecord.{ThreadRecord}
use Rattle.lock_table.specs.declared.record.Activity.{Activity}

-- the limit of a wait: a timed one's is the ticks that it has left; no other operation has one
unfoldable pub limit_of : Operation → ℕ → Limit
limit_of NoOperation ticks = Unlimited
limit_of Enter ticks = Unlimited
limit_of Exit ticks = Unlimited
limit_of Wait ticks = Unlimited
limit_of Notify ticks = Unlimited
limit_of NotifyAll ticks = Unlimited
limit_of TimedWait ticks = Ticks ticks

-- the phases that several operations use; a phase that its operation does not use, which no sound table has, is read as idle
unfoldable pub look_of : Operation → Limit → ThreadState
look_of NoOperation limit = Idle
look_of Enter limit = Running EnterLook
look_of Exit limit = Running ExitLook
look_of Wait limit = Running (WaitLook limit)
look_of Notify limit = Running NotifyLook
look_of NotifyAll limit = Running NotifyAllLook
look_of TimedWait limit = Running (WaitLook limit)

unfoldable pub store_of : Operation → ℕ → ThreadState
store_of NoOperation count = Idle
store_of Enter count = Running (EnterStore count)
store_of Exit count = Running (ExitStore count)
store_of Wait count = Idle
store_of Notify count = Idle
store_of NotifyAll count = Idle
store_of TimedWait count = Idle

unfoldable pub cancel_of : Operation → Limit → ThreadState
cancel_of NoOperation limit = Idle
cancel_of Enter limit = Running EnterCancel
cancel_of Exit limit = Idle
cancel_of Wait limit = Running (WaitCancel limit)
cancel_of Notify limit = Idle
cancel_of NotifyAll limit = Idle
cancel_of TimedWait limit = Running (WaitCancel limit)

unfoldable pub go_in_of : Operation → Limit → ThreadState
go_in_of NoOperation limit = Idle
go_in_of Enter limit = Running EnterGoIn
go_in_of Exit limit = Running ExitGoIn
go_in_of Wait limit = Running (WaitGoIn limit)
go_in_of Notify limit = Idle
go_in_of NotifyAll limit = Idle
go_in_of TimedWait limit = Running (WaitGoIn limit)

-- a queued thread carries the phase it goes on with, and for 15 what it saved
unfoldable pub carried_of : Onward → Suspension → OnwardStep
carried_of OnToCheck suspension = ToCheck
carried_of OnToTell suspension = ToTell
carried_of OnToInflate suspension = ToInflate suspension.limit
carried_of OnToResume suspension = ToResume suspension

unfoldable pub state_by : Phase → Operation → ℕ → Suspension → ThreadState
state_by IdlePhase operation count suspension = Idle
state_by Look operation count suspension = look_of operation suspension.limit
state_by Store operation count suspension = store_of operation count
state_by Cancel operation count suspension = cancel_of operation suspension.limit
state_by GoIn operation count suspension = go_in_of operation suspension.limit
state_by (QueuedPhase onward) operation count suspension = Queued (carried_of onward suspension)
state_by Check operation count suspension = Running EnterCheck
state_by Try operation count suspension = Running EnterTry
state_by ContendingPhase operation count suspension = Contending
state_by Test operation count suspension = Running ExitTest
state_by Tell operation count suspension = Running ExitTell
state_by Leave operation count suspension = Running ExitLeave
state_by Inflate operation count suspension = Running (WaitInflate suspension.limit)
state_by GiveUp operation count suspension = Running (WaitGiveUp suspension.limit)
state_by WaitingPhase operation count suspension = Waiting suspension
state_by Resume operation count suspension = Running (WaitResume suspension)

abbrev pub read_activity : Activity → ThreadState
read_activity written =
    state_by written.phase written.operation (kept_count (read_word written.kept))
    (record { depth = written.saved; limit = limit_of written.operation written.ticks })

abbrev pub read_thread : ThreadRecord → ThreadState
read_thread thread = read_activity (activity thread)

abbrev pub activity_of : Operation → ℕ → Phase → ℕ → ℕ → Activity
activity_of operation object phase kept saved =
    record { kept = kept; saved = saved; ticks = 0; object = object; operation = operation; phase = phase }

-- a wait in this phase: one with a limit is a timed wait, which keeps what is left of it
unfoldable pub wait_activity : ℕ → Phase → ℕ → Limit → Activity
wait_activity object phase saved Unlimited = activity_of Wait object phase 0 saved
wait_activity object phase saved (Ticks left) =
    record { kept = 0; saved = saved; ticks = left; object = object; operation = TimedWait; phase = phase }

-- a thread that is doing this at an object: the kept word is its own reserved word with the count it read
unfoldable pub doing_activity : ℕ → ℕ → Doing → Activity
doing_activity number object EnterLook = activity_of Enter object Look 0 0
doing_activity number object (EnterStore count) = activity_of Enter object Store (reserved_word number count) 0
doing_activity number object EnterCancel = activity_of Enter object Cancel 0 0
doing_activity number object EnterGoIn = activity_of Enter object GoIn 0 0
doing_activity number object EnterCheck = activity_of Enter object Check 0 0
doing_activity number object EnterTry = activity_of Enter object Try 0 0
doing_activity number object ExitLook = activity_of Exit object Look 0 0
doing_activity number object (ExitStore count) = activity_of Exit object Store (reserved_word number count) 0
doing_activity number object ExitGoIn = activity_of Exit object GoIn 0 0
doing_activity number object ExitTest = activity_of Exit object Test 0 0
doing_activity number object ExitTell = activity_of Exit object Tell 0 0
doing_activity number object ExitLeave = activity_of Exit object Leave 0 0
doing_activity number object (WaitLook limit) = wait_activity object Look 0 limit
doing_activity number object (WaitCancel limit) = wait_activity object Cancel 0 limit
doing_activity number object (WaitGoIn limit) = wait_activity object GoIn 0 limit
doing_activity number object (WaitInflate limit) = wait_activity object Inflate 0 limit
doing_activity number object (WaitGiveUp limit) = wait_activity object GiveUp 0 limit
doing_activity number object (WaitResume suspension) = wait_activity object Resume suspension.depth suspension.limit
doing_activity number object NotifyLook = activity_of Notify object Look 0 0
doing_activity number object NotifyAllLook = activity_of NotifyAll object Look 0 0

unfoldable pub carried_activity : ℕ → OnwardStep → Activity
carried_activity object ToCheck = activity_of Enter object (QueuedPhase OnToCheck) 0 0
carried_activity object ToTell = activity_of Exit object (QueuedPhase OnToTell) 0 0
carried_activity object (ToInflate limit) = wait_activity object (QueuedPhase OnToInflate) 0 limit
carried_activity object (ToResume suspension) = wait_activity object (QueuedPhase OnToResume) suspension.depth suspension.limit

unfoldable pub write_activity : ℕ → ℕ → ThreadState → Activity
write_activity number object Idle = no_activity
write_activity number object (Running doing) = doing_activity number object doing
write_activity number object (Queued carried) = carried_activity object carried
write_activity number object Contending = activity_of Enter object ContendingPhase 0 0
write_activity number object (Waiting suspension) = wait_activity object WaitingPhase suspension.depth suspension.limit

-- thread `number`, at `object` in this state: what is no part of its activity stays
abbrev pub write_thread : ℕ → ℕ → ThreadState → ThreadRecord → ThreadRecord
write_thread number object state own = with_activity own (write_activity number object state)
