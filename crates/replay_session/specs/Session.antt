-- The session of a replay and what each line does to it (document 01, "The replay program"), by the engine's own begin, step and tick.
use Rattle.std.specs.Prelude.{ℕ, Bool, true, false, leb, Result, Ok, Err}
use Rattle.laws.specs.Choice.{pick}
use Rattle.lock_table.specs.Access.{thread_at, object_at}
use Rattle.lock_table.specs.Phase.{phase_number}
use Rattle.lock_table.specs.Fresh.{sized_request, no_table, fresh_of, refusal_returned}
use Rattle.lock_table.specs.declared.record.Table.{Table}
use Rattle.lock_table.specs.declared.fresh_table.FreshRefusal.{FreshRefusal}
use Rattle.lock_rules.specs.Numbers.{first_refusal}
use Rattle.lock_engine.specs.Outcome.{reply_returned, reply_woken}
use Rattle.lock_engine.specs.Handle.{begin, step, tick_event}
use Rattle.lock_engine.specs.declared.outcome.Outcome.{Outcome}
use Rattle.replay_lines.specs.declared.reading.Line.{Line}
use Rattle.replay_lines.specs.declared.reading.Line.TheVariants.{Header, Begin, Step, Tick, BadHeader, Malformed}
use Rattle.replay_text.specs.Text.{answer_text}
use Rattle.replay_text.specs.declared.answer.Answer.{Answer}
use Rattle.replay_text.specs.declared.answer.Answer.TheVariants.{Silent, Alone, Ticked, Accepted}
use Rattle.replay_parts.specs.Replay.{Replay}
use Rattle.replay_session.specs.declared.session.Stage.{Stage}
use Rattle.replay_session.specs.declared.session.Stage.TheVariants.{Opening, Running, Over}
use Rattle.replay_session.specs.declared.session.Session.{Session}
use Rattle.replay_session.specs.declared.reacting.Reaction.{Reaction}

-- 21: a malformed line, or a header that is missing or not of its form. The other numbers are the engine's own
abbrev pub malformed : ℕ
malformed = 21

abbrev pub fresh_session : Session
fresh_session = record { stage = Opening; table = no_table }

abbrev pub staying : Stage → Table → Answer → Reaction
staying stage table answer = record { session = record { stage = stage; table = table }; answer = answer }

-- a good header prints nothing; one with bad sizes the fresh table's number, 22, and ends the run
unfoldable pub opened_by : Result Table FreshRefusal → Reaction
opened_by (Ok table) = staying Running table Silent
opened_by (Err refusal) = staying Over no_table (Alone (refusal_returned refusal))

unfoldable pub open_by : Table → Line → Reaction
open_by table (Header threads objects reserved) = opened_by (fresh_of (sized_request threads objects reserved))
open_by table (Begin operation thread object limit) = staying Over table (Alone malformed)
open_by table (Step thread) = staying Over table (Alone malformed)
open_by table Tick = staying Over table (Alone malformed)
open_by table BadHeader = staying Over table (Alone malformed)
open_by table Malformed = staying Over table (Alone malformed)

abbrev pub phase_of : Table → ℕ → ℕ
phase_of table thread = phase_number (thread_at table thread).phase

abbrev pub word_of : Table → ℕ → ℕ
word_of table object = (object_at table object).word

-- a refused event, a tick too, prints its number alone; else what is printed of an accepted one
unfoldable pub answer_from : ℕ → ℕ → Answer → Answer
answer_from first number accepted = pick (leb first number) (Alone number) accepted

-- of an event of a thread: returned, phase, woken, word and whom it unparked
abbrev pub answer_with : ℕ → ℕ → ℕ → ℕ → ℕ → Answer
answer_with number phase woken word unparked = answer_from first_refusal number (Accepted number phase woken word unparked)

-- of a tick: returned and whom it unparked
abbrev pub tick_answer : ℕ → ℕ → Answer
tick_answer number unparked = answer_from first_refusal number (Ticked number unparked)

abbrev pub after_event : Outcome → ℕ → ℕ → Reaction
after_event outcome thread object =
    staying Running outcome.table
    (answer_with (reply_returned outcome.reply) (phase_of outcome.table thread) (reply_woken outcome.reply) (word_of outcome.table object) outcome.unparked)

abbrev pub after_tick : Outcome → Reaction
after_tick outcome = staying Running outcome.table (tick_answer (reply_returned outcome.reply) outcome.unparked)

abbrev pub begun_by : Table → ℕ → ℕ → ℕ → ℕ → Reaction
begun_by table thread operation object limit = after_event (begin table thread operation object limit) thread object

-- the object of the operation that the thread was in, also when it has just finished
abbrev pub stepped_by : Table → ℕ → Reaction
stepped_by table thread = after_event (step table thread) thread (thread_at table thread).object

unfoldable pub run_of : Table → Line → Reaction
run_of table (Header threads objects reserved) = staying Running table (Alone malformed)
run_of table (Begin operation thread object limit) = begun_by table thread operation object limit
run_of table (Step thread) = stepped_by table thread
run_of table Tick = after_tick (tick_event table)
run_of table BadHeader = staying Running table (Alone malformed)
run_of table Malformed = staying Running table (Alone malformed)

unfoldable pub react_at_stage : Stage → Table → Line → Reaction
react_at_stage Opening table line = open_by table line
react_at_stage Running table line = run_of table line
react_at_stage Over table line = staying Over table Silent

abbrev pub react_of : Session → Line → Reaction
react_of session line = react_at_stage session.stage session.table line

-- the end of the input: a header that never came is missing
unfoldable pub closing_by : Stage → Table → Reaction
closing_by Opening table = staying Over table (Alone malformed)
closing_by Running table = staying Running table Silent
closing_by Over table = staying Over table Silent

abbrev pub closing_of : Session → Reaction
closing_of session = closing_by session.stage session.table

-- a bad header has ended the run
unfoldable pub over_by : Stage → Bool
over_by Opening = false
over_by Running = false
over_by Over = true

abbrev pub session_over : Session → Bool
session_over session = over_by session.stage

-- the replay of the sessions
abbrev pub session_replay : Replay Session
session_replay = record {
  next = λ session line. (react_of session line).session;
  prints = λ session line. answer_text (react_of session line).answer;
  closing = λ session. answer_text (closing_of session).answer;
}
