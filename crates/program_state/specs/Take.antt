-- What a line does to a program's state, and what is printed at the end of the input. The replay answers each line (document 01, "The replay
-- program"); the report answers none, and counts (document 02, L4).
use Rattle.std.specs.Prelude.{ℕ, ◌+◌, Bool, true, List, [], ltb}
use Rattle.laws.specs.Choice.{pick, either}
use Rattle.lock_table.specs.Access.{thread_at, object_at}
use Rattle.lock_table.specs.declared.record.Table.{Table}
use Rattle.lock_rules.specs.declared.event.Event.TheVariants.{Step as StepEvent}
use Rattle.replay_lines.specs.Grammar.{is_header}
use Rattle.replay_lines.specs.declared.reading.Line.{Line}
use Rattle.replay_lines.specs.declared.reading.Line.TheVariants.{Header, Begin, Step, Tick, BadHeader, Malformed}
use Rattle.replay_text.specs.Text.{answer_text}
use Rattle.replay_text.specs.declared.answer.Answer.{Answer}
use Rattle.replay_text.specs.declared.answer.Answer.TheVariants.{Silent, Alone, Ticked, Accepted}
use Rattle.replay_parts.specs.Replay.{Replay}
use Rattle.replay_session.specs.Session.{fresh_session, react_of, closing_of, session_over}
use Rattle.replay_session.specs.declared.session.Stage.{Stage}
use Rattle.replay_session.specs.declared.session.Stage.TheVariants.{Opening, Running, Over}
use Rattle.replay_session.specs.declared.session.Session.{Session}
use Rattle.replay_session.specs.declared.reacting.Reaction.{Reaction}
use Rattle.report_tally.specs.Way.{way_finished}
use Rattle.report_tally.specs.Tally.{most_lines, tallied}
use Rattle.report_tally.specs.Rows.{report_text}
use Rattle.report_tally.specs.declared.tally.Tally.{Tally}
use Rattle.program_state.specs.State.{with_session, with_tally}
use Rattle.program_state.specs.declared.state.State.{State}

-- what a line makes of a state, and what is printed of it
pub record Took : Type 0 where
  pub state : State
  pub answer : Answer

-- 24: a run holds more lines than it may
abbrev pub too_many_lines : ℕ
too_many_lines = 24

abbrev pub took : State → Answer → Took
took state answer = record { state = state; answer = answer }

-- the number that an event returned, by what the replay prints of it; of a line with no such number the answer is not used
unfoldable pub returned_in : Answer → ℕ
returned_in Silent = 0
returned_in (Alone number) = number
returned_in (Ticked returned unparked) = returned
returned_in (Accepted returned phase woken word unparked) = returned

-- a step of a thread adds the enter that it finished, by what the thread was at and its object's word before
abbrev pub step_tally : Tally → Table → ℕ → ℕ → Tally
step_tally tally table thread number =
    let own = thread_at table thread in
    tallied tally own.object (way_finished (StepEvent thread) own (object_at table own.object).word number)

-- what a line adds to which the session answered this number: only steps finish enters
unfoldable pub line_tally : Tally → Table → Line → ℕ → Tally
line_tally tally table (Header threads objects reserved) number = tally
line_tally tally table (Begin operation thread object limit) number = tally
line_tally tally table (Step thread) number = step_tally tally table thread number
line_tally tally table Tick number = tally
line_tally tally table BadHeader number = tally
line_tally tally table Malformed number = tally

-- and only in a running session
unfoldable pub stage_tally : Tally → Stage → Table → Line → ℕ → Tally
stage_tally tally Opening table line number = tally
stage_tally tally Running table line number = line_tally tally table line number
stage_tally tally Over table line number = tally

-- the tally with one line more
abbrev pub one_line : Tally → Tally
one_line tally =
    record { lines = tally.lines + 1; largest = tally.largest; printed = tally.printed; all = tally.all; objects = tally.objects }

-- with the objects of a good header; a bad one has none
abbrev pub with_objects : Tally → ℕ → Tally
with_objects tally objects =
    record {
      lines = tally.lines;
      largest = pick (ltb tally.largest objects) objects tally.largest;
      printed = tally.printed;
      all = tally.all;
      objects = tally.objects;
    }

-- with its lines full: the counter stops there
abbrev pub filled : Tally → Tally
filled tally =
    record { lines = most_lines + 1; largest = tally.largest; printed = tally.printed; all = tally.all; objects = tally.objects }

abbrev pub printed : Tally → Tally
printed tally = record { lines = tally.lines; largest = tally.largest; printed = true; all = tally.all; objects = tally.objects }

-- more lines were read than a run may hold
abbrev pub is_full : Tally → Bool
is_full tally = ltb most_lines tally.lines

-- "24 when a run has more, in place of the whole report": of the first line that is too many
unfoldable pub excess_answer : ℕ → Answer
excess_answer lines = pick (ltb most_lines lines) Silent (Alone too_many_lines)

abbrev pub excess_line : State → Took
excess_line state = took (with_tally state (filled state.tally)) (excess_answer state.tally.lines)

-- what a line does, by what lines do to a session
module _ (react : Session → Line → Reaction) (state : State) (line : Line) where
  -- the replay prints what the session answers
  abbrev pub replay_line : Took
  replay_line = let reaction = react state.session line in took (with_session state reaction.session) reaction.answer

  -- "every line beginning with `L` is a header": it ends the schedule before it and opens another, if it is good
  abbrev pub header_line : Took
  header_line =
      let opened = (react fresh_session line).session in
      took (record { reporting = state.reporting; session = opened; tally = with_objects state.tally opened.table.objectcount }) Silent

  -- another line is counted, and the enter that it finished
  abbrev pub counted_line : Took
  counted_line =
      let session = state.session in
      let reaction = react session line in
      took (
      record {
        reporting = state.reporting;
        session = reaction.session;
        tally = stage_tally (one_line state.tally) session.stage session.table line (returned_in reaction.answer);
      }
      ) Silent

  abbrev pub report_line : Took
  report_line = pick (is_header line) header_line (pick (ltb state.tally.lines most_lines) counted_line (excess_line state))

  unfoldable pub take_with : Took
  take_with = pick state.reporting report_line replay_line

abbrev pub take_line : State → Line → Took
take_line state line = take_with react_of state line

-- the end of the input: the report is printed once, unless 24 was
abbrev pub report_end : Tally → List ℕ
report_end tally = pick (either tally.printed (is_full tally)) [] (report_text tally)

unfoldable pub closing_text : State → List ℕ
closing_text state = pick state.reporting (report_end state.tally) (answer_text (closing_of state.session).answer)

unfoldable pub closed_state : State → State
closed_state state =
    pick state.reporting (with_tally state (printed state.tally)) (with_session state (closing_of state.session).session)

-- the run has ended before its input: a bad header of the replay, too many lines of the report
unfoldable pub state_over : State → Bool
state_over state = pick state.reporting (is_full state.tally) (session_over state.session)

-- a program, by what it prints of lines and of their end
abbrev pub program : Replay State
program = record {
  next = λ state line. (take_line state line).state;
  prints = λ state line. answer_text (take_line state line).answer;
  closing = closing_text;
}
