-- Where a parked thread stands: the chain that its phase names, and the first thread of each chain. Chains are numbered 1 entry, 2 contention,
-- 3 waiting.
use Rattle.std.specs.Prelude.{ℕ, eqb}
use Rattle.laws.specs.Choice.{pick}
use Rattle.lock_table.specs.Phase.{phase_number}
use Rattle.lock_table.specs.Access.{thread_at, object_at}
use Rattle.lock_table.specs.declared.record.ThreadRecord.{ThreadRecord}
use Rattle.lock_table.specs.declared.record.Monitor.{Monitor}
use Rattle.lock_table.specs.declared.record.ObjectRecord.{ObjectRecord}
use Rattle.lock_table.specs.declared.record.Table.{Table}

-- the chain of its object that a parked thread's phase names; 0 where a phase names none
unfoldable pub chain_named : ℕ → ℕ
chain_named phase = pick (eqb phase 5) 1 (pick (eqb phase 8) 2 (pick (eqb phase 14) 3 0))

-- the chain of its object that the thread is parked in, 0 for none
abbrev pub thread_chain : ThreadRecord → ℕ
thread_chain thread = chain_named (phase_number thread.phase)

-- the first thread of a chain
unfoldable pub first_in : Monitor → ℕ → ℕ
first_in monitor chain =
    pick (eqb chain 1) monitor.entry (pick (eqb chain 2) monitor.contention (pick (eqb chain 3) monitor.waiting 0))

-- the record of the object that a thread is at
abbrev pub home_at : Table → ℕ → ObjectRecord
home_at table number = object_at table (thread_at table number).object

-- the first thread of a chain of an object
abbrev pub chain_first : Table → ℕ → ℕ → ℕ
chain_first table object chain = first_in (object_at table object).monitor chain
