-- The number of each operation, document 01's and document 02's, and back.
use Rattle.std.specs.Prelude.{ℕ, eqb}
use Rattle.laws.specs.Choice.{pick}
use Rattle.lock_table.specs.declared.operation.Operation.{Operation}
use Rattle.lock_table.specs.declared.operation.Operation.TheVariants.{Idle, Enter, Exit, Wait, Notify, NotifyAll, TimedWait}

unfoldable pub operation_number : Operation → ℕ
operation_number Idle = 0
operation_number Enter = 1
operation_number Exit = 2
operation_number Wait = 3
operation_number Notify = 4
operation_number NotifyAll = 5
operation_number TimedWait = 6

-- a number that is no operation's gives the idle case
unfoldable pub operation_from : ℕ → Operation
operation_from number =
    pick (eqb number 1) Enter
    (pick (eqb number 2) Exit
    (pick (eqb number 3) Wait (pick (eqb number 4) Notify (pick (eqb number 5) NotifyAll (pick (eqb number 6) TimedWait Idle)))))
