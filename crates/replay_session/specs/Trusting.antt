-- What a line does where it is known whether the session's table is sound. No line changes that (replay_stream/proofs/SoundSession.antt), so a run over many lines
-- tests once and not at every event.
use Rattle.std.specs.Prelude.{ℕ, Bool, true, false}
use Rattle.lock_table.specs.Access.{thread_at}
use Rattle.lock_table.specs.Phase.{phase_number}
use Rattle.lock_table.specs.declared.phase.Phase.{Phase}
use Rattle.lock_table.specs.declared.record.Table.{Table}
use Rattle.lock_table.specs.Narrow.{narrow_of}
use Rattle.lock_soundness.specs.Sound.{sound_of}
use Rattle.lock_rules.specs.Gate.{event_thread, event_object}
use Rattle.lock_rules.specs.declared.event.Event.{Event}
use Rattle.lock_rules.specs.declared.event.Event.TheVariants.{Begin as BeginEvent, Step as StepEvent, Tick as TickEvent}
use Rattle.lock_engine.specs.Outcome.{reply_returned, reply_woken}
use Rattle.lock_engine.specs.Handle.{handle_trusting}
use Rattle.lock_engine.specs.declared.outcome.Reply.{Reply}
use Rattle.replay_lines.specs.declared.reading.Line.{Line}
use Rattle.replay_lines.specs.declared.reading.Line.TheVariants.{Header, Begin, Step, Tick, BadHeader, Malformed}
use Rattle.replay_text.specs.declared.answer.Answer.{Answer}
use Rattle.replay_text.specs.declared.answer.Answer.TheVariants.{Silent, Alone}
use Rattle.replay_session.specs.Session.{malformed, staying, open_by, answer_with, after_event, after_tick}
use Rattle.replay_session.specs.declared.session.Stage.{Stage}
use Rattle.replay_session.specs.declared.session.Stage.TheVariants.{Opening, Running, Over}
use Rattle.replay_session.specs.declared.session.Session.{Session}
use Rattle.replay_session.specs.declared.reacting.Reaction.{Reaction}

-- the table is sound, if there is one yet
unfoldable pub sound_by : Stage → Table → Bool
sound_by Opening table = true
sound_by Running table = sound_of table
sound_by Over table = true

abbrev pub session_sound : Session → Bool
session_sound session = sound_by session.stage session.table

-- an event of a thread, and what it prints
abbrev pub event_known : Table → Event → Bool → Reaction
event_known table event issound =
    after_event (handle_trusting table event issound) (event_thread event) (event_object event (thread_at table (event_thread event)).object)

-- the event of a thread that a line asks for, its numbers as the records hold them; other lines ask for none
unfoldable pub line_event : Line → Event
line_event (Header threads objects reserved) = StepEvent 0
line_event (Begin operation thread object limit) = BeginEvent operation (narrow_of thread) (narrow_of object) limit
line_event (Step thread) = StepEvent (narrow_of thread)
line_event Tick = StepEvent 0
line_event BadHeader = StepEvent 0
line_event Malformed = StepEvent 0

unfoldable pub run_by : Table → Line → Bool → Reaction
run_by table (Header threads objects reserved) issound = staying Running table (Alone malformed)
run_by table (Begin operation thread object limit) issound = event_known table (BeginEvent operation (narrow_of thread) (narrow_of object) limit) issound
run_by table (Step thread) issound = event_known table (StepEvent (narrow_of thread)) issound
run_by table Tick issound = after_tick (handle_trusting table TickEvent issound)
run_by table BadHeader issound = staying Running table (Alone malformed)
run_by table Malformed issound = staying Running table (Alone malformed)

unfoldable pub react_by : Stage → Table → Line → Bool → Reaction
react_by Opening table line issound = open_by table line
react_by Running table line issound = run_by table line issound
react_by Over table line issound = staying Over table Silent

abbrev pub react_trusting : Session → Line → Bool → Reaction
react_trusting session line issound = react_by session.stage session.table line issound

-- whether a line is an event of a thread in a running session
unfoldable pub is_thread_event : Line → Bool
is_thread_event (Header threads objects reserved) = false
is_thread_event (Begin operation thread object limit) = true
is_thread_event (Step thread) = true
is_thread_event Tick = false
is_thread_event BadHeader = false
is_thread_event Malformed = false

unfoldable pub runs_thread_event : Stage → Line → Bool
runs_thread_event Opening line = false
runs_thread_event Running line = is_thread_event line
runs_thread_event Over line = false

-- what an event prints, by the records of its turn and whom it unparked
abbrev pub turn_answer : Reply → Phase → ℕ → ℕ → Answer
turn_answer reply phase word unparked = answer_with (reply_returned reply) (phase_number phase) (reply_woken reply) word unparked
