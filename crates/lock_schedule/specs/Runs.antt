-- A run: a fresh table as asked for, and a schedule on it.
use Rattle.std.specs.Prelude.{ℕ, ◌≤◌, List, Result, Ok, Err, IsOkAnd}
use Rattle.lock_rules.specs.declared.event.Event.{Event}
use Rattle.lock_table.specs.Fresh.{InRange, table_of, fresh_of}
use Rattle.lock_table.specs.declared.fresh_table.FreshRefusal.{FreshRefusal}
use Rattle.lock_table.specs.declared.fresh_table.FreshRequest.{FreshRequest}
use Rattle.lock_table.specs.declared.record.Table.{Table}
use Rattle.step_bounds.specs.SixSteps.{steps_taken, step_limit}
use Rattle.lock_schedule.specs.Schedule.{final_of}
use Rattle.lock_schedule.specs.Demand.{Claim}
use Rattle.lock_schedule.specs.StepsByStart.{StepsWithin}

-- refused: with no table made there is nothing to run the schedule on
unfoldable pub run_fresh : Result Table FreshRefusal → List Event → Result Table FreshRefusal
run_fresh (Ok table) events = Ok (final_of table events)
run_fresh (Err refusal) events = Err refusal

abbrev pub run_of : FreshRequest → List Event → Result Table FreshRefusal
run_of request events = run_fresh (fresh_of request) events

-- the claim of demand 3, of a run whose request is in range: it comes to a table
abbrev pub ClaimOfRun : FreshRequest → List Event → Result Table FreshRefusal → Type 0
ClaimOfRun request events result = InRange request → IsOkAnd result (λ last. Claim (table_of request) events last)

-- and the claims about its threads' own steps (document 02, L5)
abbrev pub StepsOfRun : FreshRequest → List Event → Result Table FreshRefusal → Type 0
StepsOfRun request events result =
    InRange request → (n : ℕ)
    → let first = table_of request in (steps_taken n first events ≤ step_limit) × IsOkAnd result (λ last. StepsWithin first events last n)
