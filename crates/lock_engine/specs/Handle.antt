-- An event on a table: the records that it touches are read, take their turn, and are written back with the work on the chains done.
use Rattle.std.specs.Prelude.{ℕ, Bool, leb}
use Rattle.laws.specs.Choice.{pick, both}
use Rattle.chains.specs.Chain.{chain_length}
use Rattle.lock_rules.specs.Gate.{event_thread, event_object}
use Rattle.lock_rules.specs.declared.event.Event.{Event}
use Rattle.lock_rules.specs.declared.event.Event.TheVariants.{Begin, Step, Tick as TickEvent}
use Rattle.lock_table.specs.Limits.{thread_limit}
use Rattle.lock_table.specs.Access.{thread_at, set_thread, object_at, set_object, next_of}
use Rattle.lock_table.specs.declared.record.ThreadRecord.{ThreadRecord}
use Rattle.lock_table.specs.declared.record.ObjectRecord.{ObjectRecord}
use Rattle.lock_table.specs.declared.record.Table.{Table}
use Rattle.lock_work.specs.Work.{work_stays, work_done}
use Rattle.lock_work.specs.WorkDone.{WorkDone}
use Rattle.lock_soundness.specs.Sound.{sound_of}
use Rattle.lock_engine.specs.Turn.{take_turn}
use Rattle.lock_engine.specs.declared.outcome.Outcome.{Outcome}
use Rattle.lock_engine.specs.declared.outcome.Done.{Done}
use Rattle.lock_engine.specs.declared.turning.Turn.{Turn}

-- how many threads wait for an object
abbrev pub waiters_of : Table → ObjectRecord → ℕ
waiters_of table object = chain_length thread_limit (next_of table) object.monitor.waiting

-- a table that is taken to be sound is still taken to have no more threads than records
abbrev pub trusted : Table → Bool → Bool
trusted table issound = both issound (leb table.threadcount thread_limit)

abbrev pub turn_with : Table → Event → Bool → ThreadRecord → ObjectRecord → Turn
turn_with table event issound own object =
    take_turn (trusted table issound) table.threadcount table.objectcount event own object (waiters_of table object)

-- what the turn leaves to do, done
abbrev pub work_done_of : Table → ℕ → ℕ → Turn → WorkDone
work_done_of table thread number turn = work_done turn.work table thread number turn.own turn.object

-- both records are written, and the work is done where there is some; only work on chains unparks anybody
abbrev pub outcome_of : Table → ℕ → ℕ → Turn → Outcome
outcome_of table thread number turn =
    record {
      table = pick (work_stays turn.work) (set_object (set_thread table thread turn.own) number turn.object)
          (work_done_of table thread number turn).table;
      reply = turn.reply;
      commits = turn.commits;
      unparked = pick (work_stays turn.work) 0 (work_done_of table thread number turn).unparked;
    }

abbrev pub handle_with : Table → Event → Bool → ThreadRecord → Outcome
handle_with table event issound own =
    let number = event_object event own.object in
    outcome_of table (event_thread event) number (turn_with table event issound own (object_at table number))

-- for a caller that knows whether the table is sound
unfoldable pub handle_trusting : Table → Event → Bool → Outcome
handle_trusting table event issound = handle_with table event issound (thread_at table (event_thread event))

-- an outcome without its table, which was changed in its place
abbrev pub done_of : Outcome → Done
done_of outcome = record { reply = outcome.reply; commits = outcome.commits; unparked = outcome.unparked }

-- every event on every table
unfoldable pub handle : Table → Event → Outcome
handle table event = handle_trusting table event (sound_of table)

-- a begin, a step and a tick
abbrev pub begin : Table → ℕ → ℕ → ℕ → ℕ → Outcome
begin table thread operation object limit = handle table (Begin operation thread object limit)

abbrev pub step : Table → ℕ → Outcome
step table thread = handle table (Step thread)

abbrev pub tick_event : Table → Outcome
tick_event table = handle table TickEvent
