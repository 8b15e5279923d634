-- The waiters of one object at a tick (document 02, L1): "each timed thread in a waiting chain loses one; those at zero move to the entry chain
-- carrying 15 .. waiters in chain order".
use Rattle.std.specs.Prelude.{ℕ, ◌-◌, Bool, true, false, eqb}
use Rattle.laws.specs.Choice.{pick}
use Rattle.lock_table.specs.Record.{with_ticks, with_next}
use Rattle.lock_table.specs.Chain.{moved}
use Rattle.lock_table.specs.declared.operation.Operation.{Operation}
use Rattle.lock_table.specs.declared.operation.Operation.TheVariants.{Idle, Enter, Exit, Wait, Notify, NotifyAll, TimedWait}
use Rattle.lock_table.specs.declared.record.ThreadRecord.{ThreadRecord}
use Rattle.lock_table.specs.declared.record.Table.{Table}
use Rattle.lock_perform.specs.Parting.{part_chain}
use Rattle.lock_perform.specs.Parting.{PartedChain}
use Rattle.lock_perform.specs.declared.parting.Parting.{Parting}

-- "loses one"; a wait without a limit has none to lose
abbrev pub ticks_after : ℕ → ℕ
ticks_after ticks = ticks - 1

-- "those at zero": of a timed wait, by what it has left after the tick
unfoldable pub runs_out : Operation → ℕ → Bool
runs_out Idle ticks = false
runs_out Enter ticks = false
runs_out Exit ticks = false
runs_out Wait ticks = false
runs_out Notify ticks = false
runs_out NotifyAll ticks = false
runs_out TimedWait ticks = eqb ticks 0

-- a waiter after the tick, in no chain yet: one that goes is queued for 15
unfoldable pub waiter_after : ThreadRecord → ℕ → Bool → ThreadRecord
waiter_after waiter ticks goes = let after = with_next (with_ticks waiter ticks) 0 in pick goes (moved after) after

-- the walk along the waiters: who goes, and what becomes of each
abbrev pub waiter_goes : ThreadRecord → Bool
waiter_goes waiter = runs_out waiter.operation (ticks_after waiter.ticks)

abbrev pub waiter_ticked : ThreadRecord → Bool → ThreadRecord
waiter_ticked waiter goes = waiter_after waiter (ticks_after waiter.ticks) goes

abbrev pub part_waiters : ℕ → Table → Parting → ℕ → PartedChain
part_waiters fuel table parting at = part_chain waiter_goes waiter_ticked true fuel table parting at
