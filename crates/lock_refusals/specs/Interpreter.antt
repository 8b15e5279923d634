-- What a refused event carries (document 02, L3), and what it does to the run queue of an interpreter (ours).
use Rattle.std.specs.Prelude.{ℕ, ◌≤◌, ◌≡◌, false}
use Rattle.lock_rules.specs.Numbers.{first_refusal}
use Rattle.lock_rules.specs.RunQueue.{Queue, goes_out, queue_after}
use Rattle.lock_rules.specs.declared.event.Event.{Event}
use Rattle.lock_table.specs.WellTyped.{WellTyped}
use Rattle.lock_table.specs.declared.record.Table.{Table}
use Rattle.lock_perform.specs.ThreadSet.{has_thread}
use Rattle.lock_engine.specs.Handle.{handle}
use Rattle.lock_engine.specs.declared.outcome.Outcome.{Outcome}
use Rattle.lock_refusals.specs.Demand.{returned}

-- a refused event carries no set
abbrev pub CarriesNone : Outcome → Type 0
CarriesNone outcome = first_refusal ≤ returned outcome → outcome.unparked ≡ 0

-- of every event on every table that the code can have
abbrev pub RefusedCarryNone : Type 0
RefusedCarryNone = (table : Table) → WellTyped table → (event : Event) → CarriesNone (handle table event)

-- Every refusal but 15, 18 and 19, with which the thread goes out, leaves the queue as it is: on any table that the code can have, sound or not.
abbrev pub RefusalsKeepQueue : Type 0
RefusalsKeepQueue =
    (table : Table) → WellTyped table → (event : Event) (queue : Queue)
    → let outcome = handle table event in
    first_refusal ≤ returned outcome → goes_out (returned outcome) ≡ false → (n : ℕ)
    → queue_after queue event (returned outcome) (has_thread outcome.unparked) n ≡ queue n
