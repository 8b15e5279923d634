-- Demand 1 as types: which refusal an event gets, and the table that a refused event gives back; and the same of a fresh table and of the dispatcher.
use Rattle.std.specs.Prelude.{ℕ, ◌≤◌, ◌≡◌, eqb, Err}
use Rattle.laws.specs.Choice.{pick, either}
use Rattle.lock_rules.specs.declared.event.Event.{Event}
use Rattle.lock_rules.specs.declared.event.Event.TheVariants.{Begin, Step, Tick}
use Rattle.lock_rules.specs.Numbers.{first_refusal}
use Rattle.lock_table.specs.Record.{idle}
use Rattle.lock_table.specs.Access.{thread_at, set_thread}
use Rattle.lock_table.specs.Fresh.{fresh_of, fresh_returned}
use Rattle.lock_table.specs.declared.fresh_table.{FreshRequest.FreshRequest, FreshRefusal.FreshRefusal}
use Rattle.lock_table.specs.declared.record.Table.{Table}
use Rattle.lock_engine.specs.Outcome.{reply_returned}
use Rattle.lock_engine.specs.declared.outcome.Outcome.{Outcome}
use Rattle.lock_engine.specs.Handle.{handle}
use Rattle.lock_table.specs.WellTyped.{WellTyped}
use Rattle.round_robin.specs.Dispatch.{still}
use Rattle.dispatch_rules.specs.Dispatch.{dispatch_answer, dispatch_returned}
use Rattle.dispatch_rules.specs.Claims.{RunInput, given_world, given_run}
use Rattle.lock_refusals.specs.Rows.{RefusedByFirst}
use Rattle.lock_refusals.specs.Refusals.{refusals, fresh_refusals, dispatch_refusals}

abbrev pub returned : Outcome → ℕ
returned outcome = reply_returned outcome.reply

-- "A refused event gives the table back unchanged, save that a thread refused as no owner or as too deep is idle again." Those two are a step's.
abbrev pub left_by : ℕ → Table → Event → Table
left_by number table (Begin operation thread object limit) = table
left_by number table (Step thread) = pick (either (eqb number 18) (eqb number 19)) (set_thread table thread (idle (thread_at table thread))) table
left_by number table Tick = table

abbrev pub Leaves : Table → Event → Outcome → Type 0
Leaves table event outcome = first_refusal ≤ returned outcome → outcome.table ≡ left_by (returned outcome) table event

-- every event on every table that the code can have
abbrev pub DemandOne : Type 0
DemandOne =
    (table : Table) → WellTyped table → (event : Event)
    → RefusedByFirst (refusals table event) (returned (handle table event)) × Leaves table event (handle table event)

-- every request of a fresh table: refused, "none made"
abbrev pub FreshDemand : Type 0
FreshDemand =
    (request : FreshRequest)
    → let made = fresh_of request in
    let number = fresh_returned made in
    RefusedByFirst (fresh_refusals request) number × (first_refusal ≤ number → (refusal : FreshRefusal) × (made ≡ Err refusal))

-- every run of the dispatcher: refused, "with table and slice unchanged", and no step taken
abbrev pub DispatchDemand : Type 0
DispatchDemand =
    (given : RunInput) (table : Table)
    → let number = dispatch_returned (dispatch_answer given.scripts given.quantum given.lent (given_world given table)) in
    RefusedByFirst (dispatch_refusals given table) number × (first_refusal ≤ number → given_run given table ≡ still (given_world given table))
