-- The engine and the replay as programs, and what they give of some schedules; and beside them wrong programs that document 01 shuts out ("Three traps" and
-- "Agreement"). Must-fail edits put a wrong program in the place of the right one, and then an example is false.
use Rattle.std.specs.Prelude.{ℕ, ◌-◌, ◌≡◌, Bool, true, false, List, [], ◌∷◌, ◌++◌, eqb}
use Rattle.laws.specs.Choice.{pick, either}
use Rattle.lock_rules.specs.Operations.{timed_wait}
use Rattle.lock_rules.specs.declared.Answer.TheVariants.{Finished}
use Rattle.lock_rules.specs.declared.event.Event.{Event}
use Rattle.lock_rules.specs.declared.event.Event.TheVariants.{Begin, Step, Tick}
use Rattle.lock_rules.specs.declared.event.Refusal.TheVariants.{ThreadIdle}
use Rattle.lock_table.specs.Access.{thread_at, set_thread, object_at, set_object, phase_number_at}
use Rattle.lock_table.specs.Fresh.{sized_request, table_of}
use Rattle.lock_table.specs.Ownership.{ownership_at}
use Rattle.lock_table.specs.Record.{with_word}
use Rattle.lock_table.specs.declared.record.Table.{Table}
use Rattle.lock_soundness.specs.Sound.{sound_of}
use Rattle.lock_engine.specs.Handle.{handle_trusting, handle}
use Rattle.lock_engine.specs.Outcome.{reply_returned, reply_woken}
use Rattle.lock_engine.specs.declared.outcome.Outcome.{Outcome}
use Rattle.lock_engine.specs.declared.outcome.Reply.TheVariants.{Refused, Answered}
use Rattle.replay_lines.specs.Cutting.{lines_of, first_line, later_lines}
use Rattle.replay_parts.specs.Replay.{output_of, replay_of}
use Rattle.replay_session.specs.Session.{fresh_session, session_replay}
use Rattle.worked_outcomes.specs.Outcomes.{replied}

-- ---- wrong programs
-- "steps that all return 15"
abbrev pub steps_idle : Table → Event → Outcome
steps_idle table (Begin operation thread object limit) = handle table (Begin operation thread object limit)
steps_idle table (Step thread) = record { table = table; reply = Refused ThreadIdle; commits = false; unparked = 0 }
steps_idle table Tick = handle table Tick

-- "steps that all report finished"
abbrev pub steps_finish : Table → Event → Outcome
steps_finish table (Begin operation thread object limit) = handle table (Begin operation thread object limit)
steps_finish table (Step thread) = replied (handle table (Step thread)) (Answered (Finished 0))
steps_finish table Tick = handle table Tick

-- The accident: a step leaves the other one of two threads where it was if that is at its store, in phase 2, so that it stays there when its reservation is
-- cancelled.
abbrev pub with_stored : Table → ℕ → Outcome → Outcome
with_stored table other outcome =
    record {
      table = pick (eqb (phase_number_at table other) 2) (set_thread outcome.table other (thread_at table other)) outcome.table;
      reply = outcome.reply;
      commits = outcome.commits;
      unparked = outcome.unparked;
    }

abbrev pub stale_stores : Table → Event → Outcome
stale_stores table (Begin operation thread object limit) = handle table (Begin operation thread object limit)
stale_stores table (Step thread) = with_stored table (3 - thread) (handle table (Step thread))
stale_stores table Tick = handle table Tick

-- an event on a table that is taken to be sound where it is, and also where it is not
abbrev pub sound_or : Bool → Table → Event → Outcome
sound_or also table event = handle_trusting table event (either (sound_of table) also)

-- "a replay that carries out its first event and echoes the rest": behind the answer of the first it prints each line as it came
abbrev pub echoed : List (List ℕ) → List ℕ
echoed [] = []
echoed (line ∷ lines) = line ++ echoed lines

abbrev pub rest_echoed : List ℕ → List (List ℕ) → List ℕ
rest_echoed header [] = []
rest_echoed header (first ∷ rest) = output_of session_replay fresh_session (header ∷ first ∷ []) ++ echoed rest

abbrev pub echoes : List ℕ → List ℕ
echoes input = let lines = lines_of input in rest_echoed (first_line lines) (later_lines lines)

-- ---- the programs
abbrev pub engine : Table → Event → Outcome
engine table event = handle table event

abbrev pub replay : List ℕ → List ℕ
replay input = replay_of session_replay fresh_session input

-- ---- what a program gives of a schedule: the numbers returned, the woken numbers, and the table
abbrev pub returned_by : (Table → Event → Outcome) → Table → List Event → List ℕ
returned_by program table [] = []
returned_by program table (event ∷ rest) =
    let outcome = program table event in reply_returned outcome.reply ∷ returned_by program outcome.table rest

abbrev pub woken_by : (Table → Event → Outcome) → Table → List Event → List ℕ
woken_by program table [] = []
woken_by program table (event ∷ rest) = let outcome = program table event in reply_woken outcome.reply ∷ woken_by program outcome.table rest

abbrev pub left_by : (Table → Event → Outcome) → Table → List Event → Table
left_by program table [] = table
left_by program table (event ∷ rest) = left_by program (program table event).table rest

-- ---- the accident, on two threads and one object whose word is reserved: thread 1 enters and leaves, and so reserves it
abbrev pub two_threads : Table
two_threads = (table_of (sized_request 2 1 true))

abbrev pub reserving : List Event
reserving = Begin 1 1 1 0 ∷ Step 1 ∷ Begin 2 1 1 0 ∷ Step 1 ∷ Step 1 ∷ []

-- thread 1 enters again and has looked at the word, so that its store is next; thread 2 enters and cancels the reservation
abbrev pub cancelling : List Event
cancelling = Begin 1 1 1 0 ∷ Step 1 ∷ Begin 1 2 1 0 ∷ Step 2 ∷ Step 2 ∷ []

-- thread 2 takes the object, and thread 1 its next step
abbrev pub colliding : List Event
colliding = Step 2 ∷ Step 1 ∷ []

abbrev pub reserved : Table
reserved = left_by engine two_threads reserving

abbrev pub cancelled : Table
cancelled = left_by engine reserved cancelling

-- 000003 is no lock word, so the table is not sound
abbrev pub unsound : Table
unsound = set_object two_threads 1 (with_word (object_at two_threads 1) 0x000003)

-- ---- a timed wait that runs out: one thread enters and waits for one tick
abbrev pub running_out : List Event
running_out = Begin 1 1 1 0 ∷ Step 1 ∷ Begin timed_wait 1 1 1 ∷ Step 1 ∷ Step 1 ∷ Step 1 ∷ Step 1 ∷ Tick ∷ Step 1 ∷ []

abbrev pub one_thread : Table
one_thread = (table_of (sized_request 1 1 false))

-- ---- a replay: `L 1 2 0`, `E 1 2` and `S 1`
abbrev pub enter_second : List ℕ
enter_second = 76 ∷ 32 ∷ 49 ∷ 32 ∷ 50 ∷ 32 ∷ 48 ∷ 10 ∷ 69 ∷ 32 ∷ 49 ∷ 32 ∷ 50 ∷ 10 ∷ 83 ∷ 32 ∷ 49 ∷ 10 ∷ []

-- eight zeros and a newline: nobody was unparked
abbrev pub nobody : List ℕ
nobody = 48 ∷ 48 ∷ 48 ∷ 48 ∷ 48 ∷ 48 ∷ 48 ∷ 48 ∷ 10 ∷ []

pub record ProgramExamples : Type 0 where
  -- the enter finishes with its first step; the exit's first step goes on, and its store finishes
  pub reserves : returned_by engine two_threads reserving ≡ 0 ∷ 1 ∷ 0 ∷ 0 ∷ 1 ∷ []
  -- nothing finishes; thread 1 was at its store, in 2, and is sent back to its look, 1
  pub cancels : returned_by engine reserved cancelling ≡ 0 ∷ 0 ∷ 0 ∷ 0 ∷ 0 ∷ []
  pub sent_back : phase_number_at cancelled 1 ≡ 1
  -- thread 2 is inside, alone: thread 1's step does not finish its enter, and goes to 4
  pub one_inside : returned_by engine cancelled colliding ≡ 1 ∷ 0 ∷ []
  pub goes_in : phase_number_at (left_by engine cancelled colliding) 1 ≡ 4
  pub owned_by_second : ownership_at (left_by engine cancelled colliding) 1 ≡ record { thread = 2; depth = 1 }
  -- the accident: with stores that are not sent back thread 1's step finishes its enter, and both threads are inside
  pub two_inside : returned_by stale_stores (left_by stale_stores reserved cancelling) colliding ≡ 1 ∷ 1 ∷ []
  -- 11, for a begin too
  pub refused : returned_by engine unsound (Begin 1 1 1 0 ∷ Step 1 ∷ []) ≡ 11 ∷ 11 ∷ []
  -- the wait parks with its fourth step, and is told when it resumes that its limit ran out
  pub runs_out : returned_by engine one_thread running_out ≡ 0 ∷ 1 ∷ 0 ∷ 0 ∷ 0 ∷ 0 ∷ 2 ∷ 0 ∷ 1 ∷ []
  pub told : woken_by engine one_thread running_out ≡ 0 ∷ 0 ∷ 0 ∷ 0 ∷ 0 ∷ 0 ∷ 0 ∷ 0 ∷ 1 ∷ []
  -- `0 1 0 000000 00000000` and `1 0 0 000100 00000000`
  pub replays : replay enter_second
      ≡ (48 ∷ 32 ∷ 49 ∷ 32 ∷ 48 ∷ 32 ∷ 48 ∷ 48 ∷ 48 ∷ 48 ∷ 48 ∷ 48 ∷ 32 ∷ nobody)
      ++ (49 ∷ 32 ∷ 48 ∷ 32 ∷ 48 ∷ 32 ∷ 48 ∷ 48 ∷ 48 ∷ 49 ∷ 48 ∷ 48 ∷ 32 ∷ nobody)
