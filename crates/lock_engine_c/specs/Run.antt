-- A run: many events in one call. Each gets the bytes that the one before left, and answers as a call of its own would.
use Rattle.std.specs.Prelude.{ℕ, ◌/◌, List, [], ◌∷◌, ltb, length}
use Rattle.laws.specs.Choice.{pick}
use Rattle.lock_rules.specs.declared.event.Event.{Event}
use Rattle.event_bytes.specs.Encoding.{event_size, events_from}
use Rattle.lock_engine.specs.Handle.{handle}
use Rattle.table_bytes.specs.Reading.{is_table, table_of}
use Rattle.lock_engine_c.specs.Calls.{event_answer, event_bytes}

-- how many events are run: as many as there are whole ones, and as there is room for answers
unfoldable pub run_count : ℕ → ℕ → ℕ
run_count events answers = pick (ltb answers (events / event_size)) answers (events / event_size)

abbrev pub run_events : List ℕ → List ℕ → List Event
run_events events answers = events_from (run_count (length events) (length answers)) events 0

-- one event on bytes: what it answers, and the bytes that it leaves
abbrev pub handle_answer : List ℕ → Event → ℕ
handle_answer bytes event = event_answer (is_table bytes) (handle (table_of bytes) event)

abbrev pub handle_bytes : List ℕ → Event → List ℕ
handle_bytes bytes event = event_bytes (is_table bytes) bytes (handle (table_of bytes) event)

unfoldable pub run_answers : List ℕ → List Event → List ℕ
run_answers bytes [] = []
run_answers bytes (event ∷ rest) = handle_answer bytes event ∷ run_answers (handle_bytes bytes event) rest

unfoldable pub run_bytes : List ℕ → List Event → List ℕ
run_bytes bytes [] = bytes
run_bytes bytes (event ∷ rest) = run_bytes (handle_bytes bytes event) rest
