-- What a thread does when it may take a step. "Beginning the next operation is no step and moves its cursor on, 18 or 19 is a step, 20 is none and ends the
-- turn" (document 02, L6); a turn also ends at a park.
use Rattle.std.specs.Prelude.{ℕ, Bool, not, List, [], ◌∷◌, eqb}
use Rattle.laws.specs.Choice.{pick}
use Rattle.lock_rules.specs.Numbers.{returned_of}
use Rattle.lock_rules.specs.declared.Answer.TheVariants.{Parked}
use Rattle.lock_rules.specs.declared.event.Event.{Event}
use Rattle.lock_rules.specs.declared.event.Event.TheVariants.{Step}
use Rattle.lock_table.specs.Access.{thread_at}
use Rattle.lock_gate.specs.Status.{thread_status}
use Rattle.lock_engine.specs.Outcome.{reply_returned}
use Rattle.lock_engine.specs.Handle.{handle}
use Rattle.lock_engine.specs.declared.outcome.Outcome.{Outcome}
use Rattle.step_bounds.specs.SixSteps.{is_step}
use Rattle.round_robin.specs.Dispatch.{Tried}
use Rattle.dispatch_rules.specs.Script.{cursor_at, set_cursor, next_begin, moved_on, begins, has_work}
use Rattle.dispatch_rules.specs.Script.{Scripted}

-- What a step shows: the begin just before it, where there was one, and what the step gave back.
pub record Shown : Type 0 where
  pub begun : List Event
  pub outcome : Outcome

abbrev pub begins_in : ℕ → Scripted → Bool
begins_in thread world = begins (thread_status (thread_at world.table thread).phase) (cursor_at world.cursors thread)

-- the next operation is begun, where the thread is idle with one left
abbrev pub begun_in : List ℕ → ℕ → Scripted → List Event
begun_in scripts thread world = pick (begins_in thread world) (next_begin scripts thread (cursor_at world.cursors thread) ∷ []) []

abbrev pub begin_next : List ℕ → ℕ → Scripted → Scripted
begin_next scripts thread world =
    let cursor = cursor_at world.cursors thread in
    pick (begins_in thread world)
    (record { table = (handle world.table (next_begin scripts thread cursor)).table; cursors = set_cursor world.cursors thread (moved_on cursor) })
    world

-- a park ends the turn
abbrev pub goes_on : ℕ → Bool
goes_on returned = not (eqb returned (returned_of Parked))

-- Then it takes a step. A step of a parked thread, or of one that is idle at its script's end, is refused by the engine, and no step.
abbrev pub attempt : List ℕ → ℕ → Scripted → Tried Scripted Shown
attempt scripts thread world =
    let ready = begin_next scripts thread world in
    let outcome = handle ready.table (Step thread) in
    let returned = reply_returned outcome.reply in
    record {
      world = record { table = outcome.table; cursors = ready.cursors };
      stepped = is_step returned;
      on = goes_on returned;
      shows = record { begun = begun_in scripts thread world; outcome = outcome };
    }

-- "an unparked thread with work left"
abbrev pub ready_in : ℕ → Scripted → Bool
ready_in thread world = has_work (thread_status (thread_at world.table thread).phase) (cursor_at world.cursors thread)
