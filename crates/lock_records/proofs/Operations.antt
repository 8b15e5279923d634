-- The operations that a begin asks for, as the engine's records have them.
use Prim.Native.Nat.{ℕ}
use mathlib.Core.Path.{◌≡◌}
use Rattle.lock_rules.proofs.Each.{each_operation, each_limit}
use Rattle.lock_rules.specs.Rules.{begun}
use Rattle.lock_rules.specs.Operations.{Operation as AskedOperation, Enter as AskEnter, Exit as AskExit, Wait as AskWait, Notify as AskNotify}
use Rattle.lock_rules.specs.Operations.{NotifyAll as AskNotifyAll}
use Rattle.lock_rules.specs.declared.Limit.{Limit}
use Rattle.lock_rules.specs.declared.Limit.TheVariants.{Unlimited, Ticks}
use Rattle.lock_rules.specs.declared.ThreadState.TheVariants.{Running}
use Rattle.lock_table.specs.declared.operation.Operation.{Operation}
use Rattle.lock_table.specs.declared.operation.Operation.TheVariants.{Enter, Exit, Wait, Notify, NotifyAll, TimedWait}
use Rattle.lock_table.specs.declared.phase.Phase.TheVariants.{Look}
use Rattle.lock_table.specs.declared.record.Activity.{Activity}
use Rattle.lock_perform.specs.State.{doing_activity, wait_activity, write_activity}

-- a wait with a limit is a timed one
abbrev wait_operation : Limit → Operation
wait_operation Unlimited = Wait
wait_operation (Ticks left) = TimedWait

abbrev pub operation_of : AskedOperation → Limit → Operation
operation_of AskEnter limit = Enter
operation_of AskExit limit = Exit
operation_of AskWait limit = wait_operation limit
operation_of AskNotify limit = Notify
operation_of AskNotifyAll limit = NotifyAll

-- and has its limit as ticks
abbrev wait_ticks : Limit → ℕ
wait_ticks Unlimited = 0
wait_ticks (Ticks left) = left

abbrev pub ticks_of : AskedOperation → Limit → ℕ
ticks_of AskEnter limit = 0
ticks_of AskExit limit = 0
ticks_of AskWait limit = wait_ticks limit
ticks_of AskNotify limit = 0
ticks_of AskNotifyAll limit = 0

-- begin sets phase 1
abbrev pub begun_activity : AskedOperation → Limit → ℕ → Activity
begun_activity operation limit o =
    record { kept = 0; saved = 0; ticks = ticks_of operation limit; object = o; operation = operation_of operation limit; phase = Look }

pub begun_written : (n o : ℕ) (limit : Limit) (operation : AskedOperation) → write_activity n o (Running (begun operation limit)) ≡ begun_activity operation limit o
unfolding write_activity doing_activity wait_activity
begun_written n o = each_limit _ (each_operation _ (search), λ left. each_operation _ (search))
