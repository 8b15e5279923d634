-- A run of the scripts, what refuses it, and what it gives back.
use Rattle.std.specs.Prelude.{ℕ, zero, suc, ◌+◌, ◌*◌, ◌-◌, Bool, true, false, List, [], ◌∷◌, Result, Ok, Err, eqb, length, set}
use Rattle.laws.specs.Choice.{pick, both, within}
use Rattle.laws.specs.Every.{all_up_to}
use Rattle.event_bytes.specs.Answer.{free_unit, packed_of}
use Rattle.lock_rules.specs.Numbers.{refusal_number}
use Rattle.lock_rules.specs.declared.event.Refusal.TheVariants.{NotSound as UnsoundTable}
use Rattle.lock_table.specs.declared.record.Table.{Table}
use Rattle.lock_soundness.specs.Sound.{sound_of}
use Rattle.lock_engine.specs.Outcome.{reply_returned, reply_woken}
use Rattle.lock_engine.specs.declared.outcome.Reply.{Reply}
use Rattle.round_robin.specs.Dispatch.{Ran, Step, still, run}
use Rattle.dispatch_rules.specs.Script.{cursor_at, script_known}
use Rattle.dispatch_rules.specs.Attempt.{Shown, attempt}
use Rattle.dispatch_rules.specs.declared.ScriptCursor.{ScriptCursor}
use Rattle.dispatch_rules.specs.Script.{Scripted}
use Rattle.dispatch_rules.specs.declared.DispatchRefusal.{DispatchRefusal}
use Rattle.dispatch_rules.specs.declared.DispatchRefusal.TheVariants.{NotSound, QuantumOutOfRange, ScriptUnknown}
use Rattle.dispatch_rules.specs.declared.ScriptRun.{ScriptRun}

-- a run goes on to its end, or is refused
abbrev pub DispatchAnswer : Type 0
DispatchAnswer = Result (Unit {0}) DispatchRefusal

-- "25 when q is not 1 to 100"
abbrev pub quantum_limit : ℕ
quantum_limit = 100

-- the operations that these threads have still to begin
unfoldable pub operations_left : ℕ → List ScriptCursor → ℕ
operations_left zero cursors = 0
operations_left (suc n) cursors = let cursor = cursor_at cursors (suc n) in operations_left n cursors + (cursor.length - cursor.cursor)

-- A run takes no more steps than this: so many for an operation that is still to begin, and for a thread. That they are enough on every sound table is
-- a theorem, not a definition.
abbrev pub step_weight : ℕ
step_weight = 205

abbrev pub most_steps : ℕ → List ScriptCursor → ℕ
most_steps threads cursors = step_weight * (operations_left threads cursors + threads)

-- every run takes fewer steps than this, 2 to the 56th
abbrev pub steps_room : ℕ
steps_room = 0x100000000000000

abbrev pub scripted : Table → List ScriptCursor → Scripted
scripted table cursors = record { table = table; cursors = cursors }

-- the run: rounds until one is without a step
abbrev pub rounds_of : List ℕ → ℕ → Scripted → Ran Scripted Shown
rounds_of scripts quantum world =
    let threads = world.table.threadcount in
    run (attempt scripts) quantum threads (suc (most_steps threads world.cursors)) world

-- "the slice has not T records, a cursor lies past its script's end .., or a script holds an unknown operation or object"
abbrev pub scripts_known : List ℕ → ℕ → Table → List ScriptCursor → Bool
scripts_known scripts lent table cursors =
    both (eqb lent table.threadcount) (all_up_to table.threadcount (λ n. script_known scripts table.objectcount (cursor_at cursors n)))

-- "Before anything runs .. : 11, then 25 .., then 26"
abbrev pub first_answer : Bool → Bool → Bool → DispatchAnswer
first_answer issound isquantum areknown =
    pick issound (pick isquantum (pick areknown (Ok tt) (Err ScriptUnknown)) (Err QuantumOutOfRange)) (Err NotSound)

abbrev pub dispatch_answer : List ℕ → ℕ → ℕ → Scripted → DispatchAnswer
dispatch_answer scripts quantum lent world =
    first_answer (sound_of world.table) (within 1 quantum_limit quantum) (scripts_known scripts lent world.table world.cursors)

-- document 02's number for the answer
unfoldable pub dispatch_returned : DispatchAnswer → ℕ
dispatch_returned (Ok ended) = 0
dispatch_returned (Err NotSound) = refusal_number UnsoundTable
dispatch_returned (Err QuantumOutOfRange) = 25
dispatch_returned (Err ScriptUnknown) = 26

-- refused, nothing runs
unfoldable pub run_answered : DispatchAnswer → List ℕ → ℕ → Scripted → Ran Scripted Shown
run_answered (Ok ended) scripts quantum world = rounds_of scripts quantum world
run_answered (Err refusal) scripts quantum world = still world

-- a run by `lent` records, of which those of the threads are the cursors
abbrev pub dispatched : List ℕ → ℕ → ℕ → Scripted → Ran Scripted Shown
dispatched scripts quantum lent world = run_answered (dispatch_answer scripts quantum lent world) scripts quantum world

abbrev pub run_scripts : List ℕ → ℕ → ℕ → Scripted → ScriptRun
run_scripts scripts quantum lent world =
    let ran = dispatched scripts quantum lent world in
    record {
      cursors = ran.world.cursors;
      dispatched = record { table = ran.world.table; answer = dispatch_answer scripts quantum lent world; steps = length ran.steps };
    }

-- An entry of the trace: the step's answer as one number, in bit 17 whether the thread began its operation just before, in bits 24 to 31 the thread.
abbrev pub is_begun : {A : Type 0} → List A → Bool
is_begun [] = false
is_begun (event ∷ rest) = true

abbrev pub thread_unit : ℕ
thread_unit = 0x1000000

unfoldable pub trace_entry : ℕ → Bool → Reply → Bool → ℕ → ℕ
trace_entry thread begun reply commits unparked =
    packed_of (reply_returned reply) (reply_woken reply) commits unparked + pick begun free_unit 0 + thread * thread_unit

abbrev pub entry_of : Step Scripted Shown → ℕ
entry_of step =
    let outcome = step.shows.outcome in trace_entry step.thread (is_begun step.shows.begun) outcome.reply outcome.commits outcome.unparked

-- an entry for each step, from this place on and as far as there is room: a place past the end is not set
unfoldable pub traced : ℕ → List ℕ → List (Step Scripted Shown) → List ℕ
traced place trace [] = trace
traced place trace (step ∷ steps) = traced (suc place) (set trace place (entry_of step)) steps
