-- A run of scripts over a table in bytes: the dispatcher's on the table that the bytes say. On bytes that are no table it is 11, and all stays.
use Rattle.std.specs.Prelude.{ℕ, ◌+◌, ◌*◌, ◌≡◌, ◌≢◌, List}
use Rattle.laws.specs.Choice.{pick}
use Rattle.event_bytes.specs.Answer.{returned_in}
use Rattle.table_bytes.specs.Reading.{AreBytes, is_table, table_of}
use Rattle.table_bytes.specs.Writing.{bytes_of}
use Rattle.dispatch_rules.specs.Dispatch.{dispatch_returned}
use Rattle.dispatch_rules.specs.declared.ScriptCursor.{ScriptCursor}
use Rattle.dispatch_rules.specs.declared.Dispatched.{Dispatched}
use Rattle.lock_dispatch.specs.Lent.{dispatch, cursors_after, trace_after}
use Rattle.lock_engine_c.specs.Calls.{not_sound}

-- the steps of an answer begin at bit 8
abbrev pub steps_unit : ℕ
steps_unit = 256

-- the returned number in bits 0 to 7, the number of steps above it
abbrev pub run_answer : Dispatched → ℕ
run_answer done = dispatch_returned done.answer + done.steps * steps_unit

-- what a run answers, and the slices after it
abbrev pub dispatched_answer : List ℕ → ℕ → List ℕ → List ScriptCursor → ℕ
dispatched_answer bytes quantum scripts lent = pick (is_table bytes) (run_answer (dispatch (table_of bytes) quantum scripts lent)) not_sound

abbrev pub dispatched_bytes : List ℕ → ℕ → List ℕ → List ScriptCursor → List ℕ
dispatched_bytes bytes quantum scripts lent = pick (is_table bytes) (bytes_of (dispatch (table_of bytes) quantum scripts lent).table) bytes

abbrev pub dispatched_cursors : List ℕ → ℕ → List ℕ → List ScriptCursor → List ScriptCursor
dispatched_cursors bytes quantum scripts lent = pick (is_table bytes) (cursors_after (table_of bytes) quantum scripts lent) lent

abbrev pub dispatched_trace : List ℕ → ℕ → List ℕ → List ScriptCursor → List ℕ → List ℕ
dispatched_trace bytes quantum scripts lent trace = pick (is_table bytes) (trace_after (table_of bytes) quantum scripts lent trace) trace

-- A call that returns another number than 0 leaves every byte of the table, every record and the trace.
abbrev pub RefusedRunLeaves : Type 0
RefusedRunLeaves =
    (bytes : List ℕ) → AreBytes bytes → (quantum : ℕ) (scripts : List ℕ) (lent : List ScriptCursor) (trace : List ℕ)
    → returned_in (dispatched_answer bytes quantum scripts lent) ≢ 0
    → (dispatched_bytes bytes quantum scripts lent ≡ bytes) × (dispatched_cursors bytes quantum scripts lent ≡ lent)
    × (dispatched_trace bytes quantum scripts lent trace ≡ trace)
