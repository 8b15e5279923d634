-- What of a thread's record the gate looks at.
use Rattle.lock_rules.specs.declared.event.ThreadStatus.{ThreadStatus}
use Rattle.lock_rules.specs.declared.event.ThreadStatus.TheVariants.{Idle as IdleThread, Ready, Parked}
use Rattle.lock_table.specs.declared.phase.Phase.{Phase}
use Rattle.lock_table.specs.declared.phase.Phase.TheVariants.{Idle as IdlePhase, Look, Store, Cancel, GoIn, Queued as QueuedPhase, Check, Try}
use Rattle.lock_table.specs.declared.phase.Phase.TheVariants.{Contending as ContendingPhase, Test, Tell, Leave, Inflate, GiveUp}
use Rattle.lock_table.specs.declared.phase.Phase.TheVariants.{Waiting as WaitingPhase, Resume}

-- "thread parked (phase 5, 8, 14)"
unfoldable pub thread_status : Phase → ThreadStatus
thread_status IdlePhase = IdleThread
thread_status Look = Ready
thread_status Store = Ready
thread_status Cancel = Ready
thread_status GoIn = Ready
thread_status (QueuedPhase onward) = Parked
thread_status Check = Ready
thread_status Try = Ready
thread_status ContendingPhase = Parked
thread_status Test = Ready
thread_status Tell = Ready
thread_status Leave = Ready
thread_status Inflate = Ready
thread_status GiveUp = Ready
thread_status WaitingPhase = Parked
thread_status Resume = Ready
