-- What the core makes of a thread's record and its cursor before a step.
use Rattle.std.specs.Prelude.{ℕ, Bool, List, ltb}
use Rattle.laws.specs.Choice.{pick}
use Rattle.lock_table.specs.Operation.{operation_from}
use Rattle.lock_table.specs.declared.record.ThreadRecord.{ThreadRecord}
use Rattle.lock_engine.specs.Turn.{begun}
use Rattle.dispatch_rules.specs.Script.{operation_at, object_of, next_place, moved_on}
use Rattle.dispatch_rules.specs.declared.ScriptCursor.{ScriptCursor}

-- the record with the next operation begun, where it begins
unfoldable pub record_ready : Bool → List ℕ → ThreadRecord → ScriptCursor → ThreadRecord
record_ready begins scripts own cursor =
    pick begins (begun own (operation_from (operation_at scripts (next_place cursor))) (object_of scripts (next_place cursor)) 0) own

unfoldable pub cursor_after : Bool → ScriptCursor → ScriptCursor
cursor_after begins cursor = pick begins (pick (ltb cursor.cursor cursor.length) (moved_on cursor) cursor) cursor
