-- What each exported call that changes a table answers and makes of the bytes: the engine's begin, step, tick and fresh table on the table that the bytes say.
use Rattle.std.specs.Prelude.{ℕ, ◌≤◌, ◌<◌, ◌≡◌, Bool, true, false, not, List, eqb, length, Result, Ok, Err}
use Rattle.laws.specs.Choice.{pick, either}
use Rattle.lock_rules.specs.Numbers.{first_refusal, refusal_number, returned_of}
use Rattle.lock_rules.specs.Gate.{event_thread, event_object}
use Rattle.lock_rules.specs.declared.event.Event.{Event}
use Rattle.lock_rules.specs.declared.event.Refusal.TheVariants.{NotSound}
use Rattle.lock_rules.specs.declared.Answer.{Answer}
use Rattle.lock_rules.specs.declared.Answer.TheVariants.{GoneOn, Finished, Parked, NotOwner, TooDeep, NoRule}
use Rattle.lock_table.specs.Access.{thread_at, object_at}
use Rattle.lock_table.specs.Fresh.{sized_request, fresh_of, fresh_returned}
use Rattle.lock_table.specs.declared.fresh_table.FreshRefusal.{FreshRefusal}
use Rattle.lock_table.specs.declared.record.Table.{Table}
use Rattle.lock_soundness.specs.Sound.{sound_of}
use Rattle.event_bytes.specs.Answer.{set_unit, packed_of, returned_in}
use Rattle.lock_engine.specs.Outcome.{reply_returned, reply_woken}
use Rattle.lock_work.specs.Work.{work_stays}
use Rattle.lock_engine.specs.Handle.{turn_with, work_done_of, begin, step, tick_event}
use Rattle.lock_engine.specs.declared.turning.Turn.{Turn}
use Rattle.lock_engine.specs.declared.outcome.Reply.{Reply}
use Rattle.lock_engine.specs.declared.outcome.Reply.TheVariants.{Accepted, Refused, Answered}
use Rattle.lock_engine.specs.declared.outcome.Outcome.{Outcome}
use Rattle.table_bytes.specs.Layout.{table_size}
use Rattle.table_bytes.specs.Reading.{table_of}
use Rattle.table_bytes.specs.Writing.{bytes_of, kept_over, write_thread, write_object, idled_bytes}

-- the library's version, 0.5.0 in three bytes
abbrev pub version : ℕ
version = 1280

-- bytes that are no table are refused as the engine refuses a table that is not sound
abbrev pub not_sound : ℕ
not_sound = refusal_number NotSound

abbrev pub outcome_answer : Outcome → ℕ
outcome_answer outcome = packed_of (reply_returned outcome.reply) (reply_woken outcome.reply) outcome.commits outcome.unparked

-- an event: on bytes that are no table 11, and the bytes stay
abbrev pub event_answer : Bool → Outcome → ℕ
event_answer istable outcome = pick istable (outcome_answer outcome) not_sound

abbrev pub event_bytes : Bool → List ℕ → Outcome → List ℕ
event_bytes istable bytes outcome = pick istable (bytes_of outcome.table) bytes

-- what a refused event leaves: every byte; but 18 and 19 make the thread idle, and leave every byte of all other records
abbrev pub left_bytes : ℕ → List ℕ → ℕ → List ℕ
left_bytes number bytes thread = pick (either (eqb number (returned_of NotOwner)) (eqb number (returned_of TooDeep))) (idled_bytes bytes thread) bytes

-- refused, an event leaves these bytes, and its answer carries no set
abbrev pub RefusedTo : List ℕ → List ℕ → ℕ → Type 0
RefusedTo left after answer = first_refusal ≤ returned_in answer → (after ≡ left) × (answer < set_unit)

-- an event of the thread on these bytes, what it left and what it answered
abbrev pub RefusedLeaves : List ℕ → ℕ → List ℕ → ℕ → Type 0
RefusedLeaves before thread after answer = RefusedTo (left_bytes (returned_in answer) before thread) after answer

-- which replies go with a table that may have changed: all but the refusals before any rule and 20
unfoldable pub answer_changes : Answer → Bool
answer_changes GoneOn = true
answer_changes (Finished woken) = true
answer_changes Parked = true
answer_changes NotOwner = true
answer_changes TooDeep = true
answer_changes NoRule = false

unfoldable pub reply_changes : Reply → Bool
reply_changes Accepted = true
reply_changes (Refused refusal) = false
reply_changes (Answered answer) = answer_changes answer

-- the bytes after a run as the code makes them: it writes over them, and not where nothing changed
unfoldable pub stored_over : Bool → List ℕ → Table → List ℕ
stored_over changed bytes table = pick changed (kept_over bytes table) bytes

-- an event by its turn: the object that it is about, and what it makes of the two records
abbrev pub event_number : Table → Event → ℕ
event_number table event = event_object event (thread_at table (event_thread event)).object

abbrev pub event_turn : Table → Event → Turn
event_turn table event =
    turn_with table event (sound_of table) (thread_at table (event_thread event)) (object_at table (event_number table event))

-- the bytes after a turn: both records are stored, where the reply says that they may have changed, or the whole table where there was more work
unfoldable pub store_turn : List ℕ → Table → ℕ → ℕ → Turn → Bool → List ℕ
store_turn bytes table thread number turn changed =
    pick (work_stays turn.work)
    (pick changed (write_object (write_thread bytes thread turn.own) number turn.object) bytes)
    (kept_over bytes (work_done_of table thread number turn).table)

abbrev pub event_over : Bool → List ℕ → Table → Event → List ℕ
event_over istable bytes table event =
    let turn = event_turn table event in
    pick istable (store_turn bytes table (event_thread event) (event_number table event) turn (reply_changes turn.reply)) bytes

-- the engine's begin, step and tick on the table that the bytes say
abbrev pub begun_on : List ℕ → ℕ → ℕ → ℕ → ℕ → Outcome
begun_on bytes thread operation object limit = begin (table_of bytes) thread operation object limit

abbrev pub stepped_on : List ℕ → ℕ → Outcome
stepped_on bytes thread = step (table_of bytes) thread

abbrev pub ticked_on : List ℕ → Outcome
ticked_on bytes = tick_event (table_of bytes)

-- a fresh table: 11 where the bytes are not as many as a table has, then 22; both leave the bytes
abbrev pub fresh_on : ℕ → ℕ → ℕ → Result Table FreshRefusal
fresh_on threads objects reserved = fresh_of (sized_request threads objects (not (eqb reserved 0)))

abbrev pub has_size : List ℕ → Bool
has_size bytes = eqb (length bytes) table_size

unfoldable pub made_bytes : List ℕ → Result Table FreshRefusal → List ℕ
made_bytes bytes (Ok table) = bytes_of table
made_bytes bytes (Err refusal) = bytes

abbrev pub fresh_answer : Bool → Result Table FreshRefusal → ℕ
fresh_answer fits made = pick fits (fresh_returned made) not_sound

abbrev pub fresh_bytes : Bool → List ℕ → Result Table FreshRefusal → List ℕ
fresh_bytes fits bytes made = pick fits (made_bytes bytes made) bytes

-- the same as the code does it
unfoldable pub keep_made : List ℕ → Result Table FreshRefusal → List ℕ
keep_made bytes (Ok table) = kept_over bytes table
keep_made bytes (Err refusal) = bytes
