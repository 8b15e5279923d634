-- What is claimed of runs: they end, they are fair, and they are schedules of the same engine (document 02, L6).
use Rattle.std.specs.Prelude.{ℕ, ◌≤◌, ◌≡◌, true, false, List, [], ◌∷◌, ◌++◌, Ok, length}
use Rattle.lock_rules.specs.declared.event.Event.{Event}
use Rattle.lock_rules.specs.declared.event.Event.TheVariants.{Step as StepOf}
use Rattle.lock_table.specs.Limits.{thread_limit}
use Rattle.lock_table.specs.WellTyped.{WellTyped}
use Rattle.lock_table.specs.Fresh.{InRange, table_of}
use Rattle.lock_table.specs.declared.fresh_table.FreshRequest.{FreshRequest}
use Rattle.lock_table.specs.declared.record.Table.{Table}
use Rattle.step_bounds.specs.SixSteps.{steps_taken, step_limit}
use Rattle.lock_schedule.specs.Schedule.{final_of}
use Rattle.lock_schedule.specs.Demand.{Claim}
use Rattle.round_robin.specs.Dispatch.{Step, Ran, none, round}
use Rattle.round_robin.specs.Fair.{Fair}
use Rattle.round_robin.specs.Rounds.{LastIsStill}
use Rattle.dispatch_rules.specs.Attempt.{Shown, attempt, ready_in}
use Rattle.dispatch_rules.specs.Dispatch.{scripted, most_steps, dispatch_answer, dispatched}
use Rattle.dispatch_rules.specs.declared.ScriptCursor.{ScriptCursor}
use Rattle.dispatch_rules.specs.Script.{Scripted}

-- What a run is given, beside a table: the scripts, q, how many records were lent, and the cursors, as many as a table can have threads.
pub record RunInput : Type 0 where
  pub scripts : List ℕ
  pub quantum : ℕ
  pub lent : ℕ
  pub cursors : List ScriptCursor
  pub long : length cursors ≡ thread_limit

abbrev pub given_world : RunInput → Table → Scripted
given_world given table = scripted table given.cursors

abbrev pub given_run : RunInput → Table → Ran Scripted Shown
given_run given table = dispatched given.scripts given.quantum given.lent (given_world given table)

-- nothing refuses it
abbrev pub Accepted : RunInput → Table → Type 0
Accepted given table = dispatch_answer given.scripts given.quantum given.lent (given_world given table) ≡ Ok tt

-- "The run ends .. after a round without a step": on every sound table the last round, and no other, took none, another would take none either, and this many
-- steps are enough.
abbrev pub RunsEnd : Type 0
RunsEnd =
    (given : RunInput) (table : Table) → WellTyped table → Accepted given table
    → let ran = given_run given table in
    let try = attempt given.scripts in
    let threads = table.threadcount in
    ((rounds : ℕ) × LastIsStill try given.quantum threads rounds (given_world given table) ran)
    × (none (round try given.quantum threads ran.world).steps ≡ true)
    × (length ran.steps ≤ most_steps threads given.cursors)

-- "From a fresh table an unparked thread with work left gets its step before the others have taken more than (T − 1) times q." So it is at any moment of
-- a run from any table that a schedule makes from a fresh one. A begin and the step behind it are one moment: nothing is between them.
abbrev pub RunsFair : Type 0
RunsFair =
    (request : FreshRequest) → InRange request → (before : List Event) (given : RunInput)
    → let table = final_of (table_of request) before in
    Accepted given table → Fair ready_in given.quantum request.threads (given_world given table) (given_run given table).steps

-- at the end nobody unparked has work left
abbrev pub NobodyLeft : Type 0
NobodyLeft =
    (request : FreshRequest) → InRange request → (before : List Event) (given : RunInput)
    → let table = final_of (table_of request) before in
    Accepted given table → (n : ℕ) → 1 ≤ n → n ≤ request.threads → ready_in n (given_run given table).world ≡ false

-- the events of a run: each step, with the begin before it where there was one
abbrev pub events_of : List (Step Scripted Shown) → List Event
events_of [] = []
events_of (step ∷ steps) = step.shows.begun ++ (StepOf step.thread ∷ events_of steps)

-- It is the same engine: a run comes to the table that the engine gives for its events, on every sound table.
abbrev pub RunsAreSchedules : Type 0
RunsAreSchedules =
    (given : RunInput) (table : Table) → WellTyped table → Accepted given table
    → (given_run given table).world.table ≡ final_of table (events_of (given_run given table).steps)

-- So demand 3 and six steps hold of a run from every table that a schedule makes from a fresh one, with that schedule before it.
abbrev pub RunsClaim : Type 0
RunsClaim =
    (request : FreshRequest) → InRange request → (before : List Event) (given : RunInput)
    → let first = table_of request in
    let table = final_of first before in
    Accepted given table
    → let events = before ++ events_of (given_run given table).steps in
    Claim first events (given_run given table).world.table × ((n : ℕ) → steps_taken n first events ≤ step_limit)
