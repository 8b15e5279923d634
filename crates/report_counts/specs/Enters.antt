-- The enters that the lines of an input finish (document 02, L4), "counted from the events and not from the figures": steps that returned 1 of a
-- thread whose operation is enter. Nothing here knows of the report's figures, its tally or its state. A way only chooses which of the enters are
-- counted, and the choice of all, `any`, ignores it.
use Rattle.std.specs.Prelude.{ℕ, ◌+◌, max, Bool, false, List, [], ◌∷◌, eqb}
use Rattle.laws.specs.Choice.{pick, both, within}
use Rattle.laws.specs.Count.{one_if}
use Rattle.lock_table.specs.Limits.{thread_limit, object_limit}
use Rattle.lock_table.specs.Access.{thread_at, object_at}
use Rattle.lock_table.specs.declared.record.Table.{Table}
use Rattle.lock_engine.specs.Outcome.{reply_returned}
use Rattle.lock_engine.specs.Handle.{step}
use Rattle.replay_lines.specs.Bytes.{letter_L}
use Rattle.replay_lines.specs.Grammar.{read_line}
use Rattle.replay_lines.specs.LineText.{begins_with}
use Rattle.replay_lines.specs.declared.reading.Line.{Line}
use Rattle.replay_lines.specs.declared.reading.Line.TheVariants.{Header, Begin, Step, Tick, BadHeader, Malformed}
use Rattle.replay_session.specs.Session.{fresh_session, react_of}
use Rattle.replay_session.specs.declared.session.Stage.{Stage}
use Rattle.replay_session.specs.declared.session.Stage.TheVariants.{Opening, Running, Over}
use Rattle.replay_session.specs.declared.session.Session.{Session}
use Rattle.report_tally.specs.Way.{is_enter, finished_number, way_of}
use Rattle.report_tally.specs.declared.way.Way.{Way}

-- "every line beginning with `L` is a header": it opens a session of its own
abbrev pub session_behind : Session → List ℕ → Session
session_behind session line =
    pick (begins_with letter_L line) (react_of fresh_session (read_line line)).session (react_of session (read_line line)).session

-- a step of a thread whose operation is enter returned 1
abbrev pub step_enters : Table → ℕ → Bool
step_enters table thread =
    both (is_enter (thread_at table thread).operation) (eqb (reply_returned (step table thread).reply) finished_number)

-- which enters are counted, by their object and their way
abbrev pub Chosen : Type 0
Chosen = ℕ → Way → Bool

unfoldable pub line_enters : Chosen → Table → Line → Bool
line_enters chosen table (Header threads objects reserved) = false
line_enters chosen table (Begin operation thread object limit) = false
line_enters chosen table (Step thread) =
    let own = thread_at table thread in
    both (step_enters table thread) (chosen own.object (way_of own.phase (object_at table own.object).word))
line_enters chosen table Tick = false
line_enters chosen table BadHeader = false
line_enters chosen table Malformed = false

-- "Lines .. under no good header add no enter"
unfoldable pub stage_enters : Chosen → Stage → Table → Line → Bool
stage_enters chosen Opening table line = false
stage_enters chosen Running table line = line_enters chosen table line
stage_enters chosen Over table line = false

abbrev pub enters_here : Chosen → Session → List ℕ → Bool
enters_here chosen session line = pick (begins_with letter_L line) false (stage_enters chosen session.stage session.table (read_line line))

-- how many of the lines finished an enter that is chosen
unfoldable pub enters : Chosen → Session → List (List ℕ) → ℕ
enters chosen session [] = 0
enters chosen session (line ∷ lines) = one_if (enters_here chosen session line) + enters chosen (session_behind session line) lines

-- "the 60,000 lines, headers not counted"
abbrev pub counted : List ℕ → ℕ
counted line = pick (begins_with letter_L line) 0 1

unfoldable pub lines_counted : List (List ℕ) → ℕ
lines_counted [] = 0
lines_counted (line ∷ lines) = counted line + lines_counted lines

-- "a good header" is of its form, with 1 to 32 threads and 1 to 64 objects: those objects, and 0 of every other line
unfoldable pub good_objects : Line → ℕ
good_objects (Header threads objects reserved) = pick (both (within 1 thread_limit threads) (within 1 object_limit objects)) objects 0
good_objects (Begin operation thread object limit) = 0
good_objects (Step thread) = 0
good_objects Tick = 0
good_objects BadHeader = 0
good_objects Malformed = 0

abbrev pub opened_objects : List ℕ → ℕ
opened_objects line = good_objects (read_line line)

-- "the largest N in a good header"
unfoldable pub largest_objects : List (List ℕ) → ℕ
largest_objects [] = 0
largest_objects (line ∷ lines) = max (opened_objects line) (largest_objects lines)
