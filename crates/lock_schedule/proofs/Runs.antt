-- A run goes on by one event, ends where none is left, and comes to a table of which demand 3 and the bounds on steps hold.
use Prim.Native.Nat.{ℕ, ◌+◌, ◌-◌, ◌≤◌, ◌<◌}
use mathlib.Core.Path.{◌≡◌, sym, ap, ◌∙◌, subst}
use mathlib.Core.List.{List}
use Rattle.lock_rules.specs.declared.event.Event.{Event}
use Rattle.lock_table.specs.Fresh.{InRange, table_of, fresh_of}
use Rattle.std.specs.Prelude.{Result, Ok, IsOkAnd}
use Rattle.lock_table.specs.declared.fresh_table.{FreshRequest.FreshRequest, FreshRefusal.FreshRefusal}
use Rattle.lock_table.specs.declared.record.Table.{Table}
use Rattle.lock_table.proofs.FreshTables.{fresh_made}
use Rattle.lock_schedule.specs.{Schedule.final_of, Demand.Claim, StepsByStart.StepsWithin}
use Rattle.event_bytes.specs.Encoding.{event_size, event_at, events_from}
use Rattle.event_bytes.proofs.Encoding.{events_next, events_end}
use Rattle.lock_engine.specs.Handle.{handle}
use Rattle.lock_engine.specs.declared.outcome.Outcome.{Outcome}
use Rattle.lock_schedule.specs.Runs.{run_fresh, run_of, ClaimOfRun, StepsOfRun}
use Rattle.lock_schedule.proofs.Theorem.{demand_three}
use Rattle.lock_schedule.proofs.Steps.{steps_by_start, six_steps}

module _ (bytes : List ℕ) (at : ℕ) (table : Table) {left : ℕ} where
  pub run_ends : left ≤ 0 → final_of table (events_from left bytes at) ≡ table
  run_ends none = ap (final_of table) (events_end none bytes at)

  pub run_goes_on : {event : Event} {outcome : Outcome} → 0 < left → event ≡ event_at bytes at → outcome ≡ handle table event
      → final_of table (events_from left bytes at) ≡ final_of outcome.table (events_from (left - 1) bytes (at + event_size))
  run_goes_on some is gave = rw (gave, is) (ap (final_of table) (events_next some bytes at))

module _ (request : FreshRequest) (events : List Event) {result : Result Table FreshRefusal} where
  pub run_same : {made : Result Table FreshRefusal} → made ≡ fresh_of request → result ≡ run_fresh made events → result ≡ run_of request events
  run_same gave ran = ran ∙ ap (λ (made : Result Table FreshRefusal). run_fresh made events) gave

  -- a run whose request is in range comes to the table that the schedule comes to
  ran_to : result ≡ run_of request events → InRange request → result ≡ Ok (final_of (table_of request) events)
  unfolding run_fresh
  ran_to same in_range = same ∙ ap (λ (fresh : Result Table FreshRefusal). run_fresh fresh events) (fresh_made request in_range)

  pub run_claimed : result ≡ run_of request events → ClaimOfRun request events result
  run_claimed same in_range =
      subst (λ (r : Result Table FreshRefusal). IsOkAnd r (λ last. Claim (table_of request) events last)) (sym (ran_to same in_range))
      (demand_three request in_range events)

  pub run_steps : result ≡ run_of request events → StepsOfRun request events result
  run_steps same in_range n = (
    six_steps request in_range events n,
    subst (λ (r : Result Table FreshRefusal). IsOkAnd r (λ last. StepsWithin (table_of request) events last n)) (sym (ran_to same in_range))
        (steps_by_start request in_range events n),
  )
