-- The steps that a thread takes of its own, by what they are counted from (ours), and that with the last of them it "finishes, is refused or parks"
-- (document 02, L5).
use Rattle.std.specs.Prelude.{ℕ, ◌≤◌, ◌<◌, ◌≡◌, true, List}
use Rattle.lock_rules.specs.declared.event.Event.{Event}
use Rattle.lock_rules.specs.declared.event.Event.TheVariants.{Step}
use Rattle.lock_table.specs.Fresh.{InRange, table_of}
use Rattle.lock_table.specs.declared.fresh_table.FreshRequest.{FreshRequest}
use Rattle.lock_table.specs.declared.record.Table.{Table}
use Rattle.lock_records.specs.Unparked.{CanStep}
use Rattle.lock_engine.specs.Outcome.{reply_returned}
use Rattle.lock_engine.specs.Handle.{handle}
use Rattle.step_bounds.specs.SixSteps.{is_step, steps_taken}
use Rattle.step_bounds.specs.Starts.{most_from, start_of_steps}
use Rattle.lock_schedule.specs.Schedule.{final_of}

-- of thread n and a schedule that came from one table to another
pub record StepsWithin (first : Table) (events : List Event) (last : Table) (n : ℕ) : Type 0 where
  -- ours: document 02 has six for all
  pub most : steps_taken n first events ≤ most_from (start_of_steps n first events)
  -- While it is neither idle nor parked it has a step left, and its next step is one. So with its last one it finishes, is refused or parks.
  pub unspent : CanStep last n → steps_taken n first events < most_from (start_of_steps n first events)
  pub able : CanStep last n → is_step (reply_returned (handle last (Step n)).reply) ≡ true

abbrev pub StepsByStart : Type 0
StepsByStart =
    (request : FreshRequest) → InRange request → (events : List Event) (n : ℕ)
    → let table = table_of request in StepsWithin table events (final_of table events) n
