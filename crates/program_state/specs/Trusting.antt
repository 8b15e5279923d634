-- What a line does where it is known whether the session's table is sound: to the session and to the tally's two numbers. Of a line that is no
-- event of a thread in a running session that is all it does (proofs/Parts.antt).
use Rattle.std.specs.Prelude.{ℕ, ◌+◌, Bool, ltb}
use Rattle.laws.specs.Choice.{pick, both, either}
use Rattle.lock_table.specs.declared.record.Table.{Table}
use Rattle.replay_lines.specs.Grammar.{is_header}
use Rattle.replay_lines.specs.declared.reading.Line.{Line}
use Rattle.replay_text.specs.declared.answer.Answer.{Answer}
use Rattle.replay_text.specs.declared.answer.Answer.TheVariants.{Silent}
use Rattle.replay_session.specs.Session.{fresh_session}
use Rattle.replay_session.specs.Trusting.{react_trusting, runs_thread_event}
use Rattle.replay_session.specs.declared.session.Stage.{Stage}
use Rattle.replay_session.specs.declared.session.Session.{Session}
use Rattle.replay_session.specs.declared.reacting.Reaction.{Reaction}
use Rattle.report_tally.specs.Tally.{most_lines}
use Rattle.program_state.specs.Take.{excess_answer}

-- what lines do to a session, for `take_with`
abbrev pub knowing : Bool → Session → Line → Reaction
knowing issound session line = react_trusting session line issound

-- what a line does to the session: a header of the report opens another, and a line too many leaves it
unfoldable pub line_reaction : Bool → ℕ → Stage → Table → Line → Bool → Reaction
line_reaction reporting lines stage table line issound =
    let session : Session = record { stage = stage; table = table } in
    pick reporting
    (pick (is_header line) (knowing issound fresh_session line)
    (pick (ltb lines most_lines) (knowing issound session line) (record { session = session; answer = Silent })))
    (knowing issound session line)

-- what is printed of it: the report prints no answer of a session
unfoldable pub line_answer : Bool → ℕ → Line → Answer → Answer
line_answer reporting lines line answer =
    pick reporting (pick (is_header line) Silent (pick (ltb lines most_lines) Silent (excess_answer lines))) answer

-- the counter stops one line behind the most that a run may hold
unfoldable pub one_further : ℕ → ℕ
one_further lines = pick (ltb lines most_lines) (lines + 1) (most_lines + 1)

-- the report counts the lines that are no headers
unfoldable pub lines_after : Bool → ℕ → Line → ℕ
lines_after reporting lines line = pick reporting (pick (is_header line) lines (one_further lines)) lines

-- and keeps the most objects that a header's table has
unfoldable pub largest_after : Bool → ℕ → Line → ℕ → ℕ
largest_after reporting largest line objects =
    pick reporting (pick (is_header line) (pick (ltb largest objects) objects largest) largest) largest

-- a header of the report opens another session, whose table is sound if it has one
unfoldable pub sound_after : Bool → Line → Bool → Bool
sound_after reporting line issound = pick reporting (either issound (is_header line)) issound

-- a line is an event of a thread in a running session, which the report still counts
unfoldable pub runs_in_place : Bool → ℕ → Stage → Line → Bool
runs_in_place reporting lines stage line =
    pick reporting (both (ltb lines most_lines) (runs_thread_event stage line)) (runs_thread_event stage line)
