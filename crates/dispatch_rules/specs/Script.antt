-- Scripts: operations that the kiosk lends, two bytes for each, and for each thread where its own are and how far it has come.
use Rattle.std.specs.Prelude.{ℕ, ◌+◌, ◌*◌, ◌/◌, Bool, true, false, List, ltb, leb, length, get_or, set}
use Rattle.laws.specs.Choice.{both, within}
use Rattle.laws.specs.Every.{all_below}
use Rattle.lock_rules.specs.declared.event.Event.{Event}
use Rattle.lock_rules.specs.declared.event.Event.TheVariants.{Begin}
use Rattle.lock_rules.specs.declared.event.ThreadStatus.{ThreadStatus}
use Rattle.lock_rules.specs.declared.event.ThreadStatus.TheVariants.{Idle, Ready, Parked}
use Rattle.lock_table.specs.Place.{thread_place}
use Rattle.lock_table.specs.declared.record.Table.{Table}
use Rattle.dispatch_rules.specs.declared.ScriptCursor.{ScriptCursor}

-- what a dispatcher changes: a table, and the cursors of the scripts of its threads
pub record Scripted : Type 0 where
  pub table : Table
  pub cursors : List ScriptCursor

-- an operation's number and its object
abbrev pub operation_size : ℕ
operation_size = 2

-- "a script of operations 1 to 5"
abbrev pub script_operations : ℕ
script_operations = 5

-- the number of the operation at a place of those lent, and its object; places count from 0
abbrev pub operation_at : List ℕ → ℕ → ℕ
operation_at scripts place = get_or scripts (place * operation_size) 0

abbrev pub object_of : List ℕ → ℕ → ℕ
object_of scripts place = get_or scripts (place * operation_size + 1) 0

abbrev pub no_cursor : ScriptCursor
no_cursor = record { start = 0; length = 0; cursor = 0 }

-- a thread's cursor
abbrev pub cursor_at : List ScriptCursor → ℕ → ScriptCursor
cursor_at cursors thread = get_or cursors (thread_place thread) no_cursor

abbrev pub set_cursor : List ScriptCursor → ℕ → ScriptCursor → List ScriptCursor
set_cursor cursors thread cursor = set cursors (thread_place thread) cursor

-- the place of the next operation, and its begin; no operation of a script has a limit
abbrev pub next_place : ScriptCursor → ℕ
next_place cursor = cursor.start + cursor.cursor

abbrev pub next_begin : List ℕ → ℕ → ScriptCursor → Event
next_begin scripts thread cursor =
    Begin (operation_at scripts (next_place cursor)) thread (object_of scripts (next_place cursor)) 0

abbrev pub moved_on : ScriptCursor → ScriptCursor
moved_on cursor = record { start = cursor.start; length = cursor.length; cursor = cursor.cursor + 1 }

-- the thread is idle and its cursor is before its script's end, so that it begins the next operation
unfoldable pub begins : ThreadStatus → ScriptCursor → Bool
begins Idle cursor = ltb cursor.cursor cursor.length
begins Ready cursor = false
begins Parked cursor = false

-- "an unparked thread with work left"
unfoldable pub has_work : ThreadStatus → ScriptCursor → Bool
has_work Idle cursor = ltb cursor.cursor cursor.length
has_work Ready cursor = true
has_work Parked cursor = false

-- how many operations are lent; half a one is none
abbrev pub operations_lent : List ℕ → ℕ
operations_lent scripts = length scripts / operation_size

-- an operation 1 to 5 on an object 1..N
abbrev pub operation_known : List ℕ → ℕ → ℕ → Bool
operation_known scripts objects place = both (within 1 script_operations (operation_at scripts place)) (within 1 objects (object_of scripts place))

-- a script is among the operations lent, its cursor is not past its end, and all of it is known, also before the cursor
unfoldable pub script_known : List ℕ → ℕ → ScriptCursor → Bool
script_known scripts objects cursor =
    both (leb (cursor.start + cursor.length) (operations_lent scripts))
    (both (leb cursor.cursor cursor.length) (all_below cursor.length (λ i. operation_known scripts objects (cursor.start + i))))
