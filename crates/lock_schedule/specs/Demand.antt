-- Demand 3 as one type, and more promises about schedules and events.
use Rattle.std.specs.Prelude.{ℕ, ◌≡◌, ◌≢◌, true, List, [], ◌∷◌}
use Rattle.lock_rules.specs.declared.event.Event.{Event}
use Rattle.lock_rules.specs.declared.event.Event.TheVariants.{Step}
use Rattle.lock_rules.specs.Feed.{Plain, feed, feed_all, blank, LetOutRight}
use Rattle.lock_table.specs.Access.{phase_number_at}
use Rattle.lock_table.specs.WellTyped.{WellTyped}
use Rattle.lock_table.specs.Fresh.{InRange, table_of}
use Rattle.lock_table.specs.declared.fresh_table.FreshRequest.{FreshRequest}
use Rattle.lock_table.specs.declared.record.Table.{Table}
use Rattle.lock_soundness.specs.Sound.{sound_of}
use Rattle.lock_records.specs.Agrees.{Agrees, Ruled}
use Rattle.lock_records.specs.ExitsWait.{ParkedInExit, WaitsForHolder, WaitsForBusyHolder}
use Rattle.lock_records.specs.AsNew.{FreeNumber, AsNew}
use Rattle.lock_engine.specs.Handle.{handle}
use Rattle.lock_schedule.specs.Schedule.{reply_shown, final_of, shown_of}

-- An operation ends with its thread's own step, or with another's event that leaves its thread idle (document 02, L2).
abbrev pub EndedByOther : Event → Table → Table → ℕ → Type 0
EndedByOther event before after n = (event ≢ Step n) × (phase_number_at before n ≢ 0) × (phase_number_at after n ≡ 0)

-- What another's event ends has the plain monitors' answer. The tables say which operations ended so, and no more: the plain monitors are fed events
-- and replies alone.
abbrev pub OthersEndRight : Table → Plain → List Event → Type 0
OthersEndRight table plain [] = Unit {0}
OthersEndRight table plain (event ∷ rest) =
    let outcome = handle table event in
    let fed = feed plain event (reply_shown outcome.reply outcome.commits) in
    ((n : ℕ) → EndedByOther event table outcome.table n → LetOutRight (fed.logs n)) × OthersEndRight outcome.table fed rest

-- What is claimed of one schedule and the table that it came to: the plain monitors, fed what it showed, agree with that table, every event had a
-- rule, and every operation that another's event ended has its plain answer.
abbrev pub Claim : Table → List Event → Table → Type 0
Claim first events last = Agrees last (feed_all blank (shown_of first events)) × Ruled (shown_of first events) × OthersEndRight first blank events

-- The claim holds of every schedule from any fresh table.
abbrev pub DemandThree : Type 0
DemandThree =
    (request : FreshRequest) → InRange request → (events : List Event)
    → let table = table_of request in Claim table events (final_of table events)

-- what is claimed of every table that a schedule makes from a fresh one
abbrev pub AfterSchedules : (Table → Type 0) → Type 0
AfterSchedules claim = (request : FreshRequest) → InRange request → (events : List Event) → claim (final_of (table_of request) events)

-- "From now on, after every schedule from a fresh table, a thread parked inside an exit waits only for another unparked thread that holds the monitor at
-- depth 0" (document 02, L2).
abbrev pub ExitsWaitForHolder : Type 0
ExitsWaitForHolder = AfterSchedules (λ table. (n : ℕ) → ParkedInExit table n → WaitsForHolder table n)

-- and that thread is at work on that object
abbrev pub ExitsWaitForBusyHolder : Type 0
ExitsWaitForBusyHolder = AfterSchedules (λ table. (n : ℕ) → ParkedInExit table n → WaitsForBusyHolder table n)

-- A number that nobody owns and at which no thread has an operation may go to another object (ours).
abbrev pub FreeNumbersAsNew : Type 0
FreeNumbersAsNew = AfterSchedules (λ table. (o : ℕ) → FreeNumber table o → AsNew table o)

-- Every event on any sound table, reached by a schedule or not, gives a sound table.
abbrev pub SoundKept : Type 0
SoundKept = (table : Table) → WellTyped table → sound_of table ≡ true → (event : Event) → sound_of (handle table event).table ≡ true
