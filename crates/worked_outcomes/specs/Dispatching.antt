-- Examples of the dispatcher (document 02, L6), on tables that the engine's definition computes with: what a step is, that it is taken from the record as
-- begun, and where it stands in the trace.
use Rattle.std.specs.Prelude.{ℕ, ◌≡◌, true, false, [], ◌∷◌}
use Rattle.lock_rules.specs.declared.Doing.{Doing}
use Rattle.lock_rules.specs.declared.Doing.TheVariants.{EnterCheck, ExitLook}
use Rattle.lock_table.specs.Record.{no_monitor}
use Rattle.lock_table.specs.Fresh.{sized_request, table_of}
use Rattle.lock_engine.specs.Outcome.{reply_returned}
use Rattle.lock_engine.specs.Cases.{case_table}
use Rattle.round_robin.specs.Dispatch.{Tried, Ran}
use Rattle.dispatch_rules.specs.Script.{Scripted, cursor_at}
use Rattle.dispatch_rules.specs.Attempt.{Shown, attempt}
use Rattle.dispatch_rules.specs.Dispatch.{scripted, dispatched, traced}
use Rattle.dispatch_rules.specs.Examples.{cursor_of, two_operations}

-- Thread 3 may take a step. It has no script, is at object 1, doing this, and the object is as in a fresh table.
abbrev pub tries : Doing → Tried Scripted Shown
tries doing = attempt [] 3 (scripted (case_table 0x000000 no_monitor doing) [])

abbrev pub returns : Tried Scripted Shown → ℕ
returns tried = reply_returned tried.shows.outcome.reply

-- a fresh table of one thread and one object, and a script: the thread enters the object and leaves it
abbrev pub alone : Scripted
alone = scripted (table_of (sized_request 1 1 false)) (cursor_of 0 2 0 ∷ [])

-- what the thread does when it may take a step for the first time
abbrev pub enters : Tried Scripted Shown
enters = attempt two_operations 1 alone

-- and for the second time
abbrev pub leaves : Tried Scripted Shown
leaves = attempt two_operations 1 enters.world

-- the run, a step a turn
abbrev pub whole : Ran Scripted Shown
whole = dispatched two_operations 1 1 alone

pub record DispatchExamples : Type 0 where
  -- in 6 without holding the monitor, a step has no rule: 20, which is none
  pub no_rule : returns (tries EnterCheck) ≡ 20
  pub no_rule_is_none : (tries EnterCheck).stepped ≡ false
  -- whoever leaves an object that it does not own is refused with 18, which is a step
  pub not_owner : returns (tries ExitLook) ≡ 18
  pub not_owner_is_one : (tries ExitLook).stepped ≡ true
  -- the enter is begun, and the step is that of the enter: it finishes, and is no step of an idle thread
  pub entered : returns enters ≡ 1
  -- beginning moved the cursor on, and beginning the exit, of which a step is left, moved it on again
  pub moved : (cursor_at enters.world.cursors 1).cursor ≡ 1
  pub going_on : returns leaves ≡ 0
  pub moved_again : (cursor_at leaves.world.cursors 1).cursor ≡ 2
  -- Three steps, each in the place of its number, and the room behind them stays: the enter, begun and finished at once; the exit, begun, whose step
  -- frees the word and goes on; and its last step.
  pub trace : traced 0 (0 ∷ 0 ∷ 0 ∷ 7 ∷ []) whole.steps ≡ 0x01030001 ∷ 0x01030000 ∷ 0x01000001 ∷ 7 ∷ []
