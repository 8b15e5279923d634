-- Records that are lent: copied into an array for a run, and back after it.
use Rattle.std.specs.Prelude.{ℕ, zero, suc, ◌≡◌, ◌≢◌, List, Ok, nat_lt, length, replicate, slice_index_or, slice_set}
use Rattle.laws.specs.Choice.{pick}
use Rattle.lock_table.specs.Limits.{thread_limit}
use Rattle.lock_table.specs.declared.record.Table.{Table}
use Rattle.dispatch_rules.specs.declared.ScriptCursor.{ScriptCursor}
use Rattle.dispatch_rules.specs.Script.{Scripted}
use Rattle.dispatch_rules.specs.declared.Dispatched.{Dispatched}
use Rattle.dispatch_rules.specs.Script.{no_cursor}
use Rattle.dispatch_rules.specs.Dispatch.{scripted, dispatched, run_scripts, traced}

-- `to` with its first places as in `from`
abbrev pub copied : ℕ → List ScriptCursor → List ScriptCursor → List ScriptCursor
copied zero from to = to
copied (suc i) from to = slice_set (copied i from to) i (slice_index_or from i no_cursor)

-- as many of the records lent as a table can have threads
unfoldable pub fitting : ℕ → ℕ
fitting lent = pick (nat_lt thread_limit lent) thread_limit lent

abbrev pub no_cursors : List ScriptCursor
no_cursors = replicate thread_limit no_cursor

-- the array that a run gets, and the records lent after a run that came to these cursors
abbrev pub loaded : List ScriptCursor → List ScriptCursor
loaded lent = copied (fitting (length lent)) lent no_cursors

abbrev pub stored : List ScriptCursor → List ScriptCursor → List ScriptCursor
stored lent cursors = copied (fitting (length lent)) cursors lent

-- what a run starts from
abbrev pub lent_world : List ScriptCursor → Table → Scripted
lent_world lent table = scripted table (loaded lent)

-- what a run of the records lent gives back, and the slices after it
abbrev pub dispatch : Table → ℕ → List ℕ → List ScriptCursor → Dispatched
dispatch table quantum scripts lent = (run_scripts scripts quantum (length lent) (lent_world lent table)).dispatched

abbrev pub cursors_after : Table → ℕ → List ℕ → List ScriptCursor → List ScriptCursor
cursors_after table quantum scripts lent = stored lent (run_scripts scripts quantum (length lent) (lent_world lent table)).cursors

abbrev pub trace_after : Table → ℕ → List ℕ → List ScriptCursor → List ℕ → List ℕ
trace_after table quantum scripts lent trace = traced 0 trace (dispatched scripts quantum (length lent) (lent_world lent table)).steps

-- refused, a run leaves the table, the records and the trace as they were
abbrev pub RefusedLeavesSlice : Type 0
RefusedLeavesSlice =
    (table : Table) (quantum : ℕ) (scripts : List ℕ) (lent : List ScriptCursor) (trace : List ℕ)
    → let done = dispatch table quantum scripts lent in
    done.answer ≢ Ok tt
    → (done.table ≡ table) × (done.steps ≡ 0) × (cursors_after table quantum scripts lent ≡ lent) × (trace_after table quantum scripts lent trace ≡ trace)
