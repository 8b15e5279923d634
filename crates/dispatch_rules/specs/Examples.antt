-- Examples of the dispatcher's definitions: what counts as a step, what ends a turn, what refuses a run, which scripts are known, and an entry of the trace.
use Rattle.std.specs.Prelude.{◌≡◌, true, false, List, [], ◌∷◌, ℕ, Ok, Err}
use Rattle.laws.specs.Choice.{within}
use Rattle.lock_rules.specs.declared.Answer.TheVariants.{Parked}
use Rattle.lock_engine.specs.Outcome.{reply_returned}
use Rattle.step_bounds.specs.SixSteps.{is_step}
use Rattle.lock_engine.specs.declared.outcome.Reply.TheVariants.{Answered}
use Rattle.dispatch_rules.specs.Script.{Scripted, script_known}
use Rattle.dispatch_rules.specs.Attempt.{attempt, goes_on}
use Rattle.dispatch_rules.specs.Dispatch.{quantum_limit, first_answer, dispatch_returned, trace_entry}
use Rattle.dispatch_rules.specs.declared.ScriptCursor.{ScriptCursor}
use Rattle.dispatch_rules.specs.declared.DispatchRefusal.TheVariants.{NotSound, QuantumOutOfRange, ScriptUnknown}

abbrev pub cursor_of : ℕ → ℕ → ℕ → ScriptCursor
cursor_of start length cursor = record { start = start; length = length; cursor = cursor }

-- an enter and an exit of object 1
abbrev pub two_operations : List ℕ
two_operations = 1 ∷ 1 ∷ 2 ∷ 1 ∷ []

pub record Examples : Type 0 where
  -- a step is what counts as a thread's own: 18 and 19 are, 20 is none
  pub counts :
      (scripts : List ℕ) (thread : ℕ) (world : Scripted)
      → let tried = attempt scripts thread world in
      tried.stepped ≡ is_step (reply_returned tried.shows.outcome.reply)
  pub steps : (is_step 18 ≡ true) × (is_step 19 ≡ true) × (is_step 20 ≡ false)
  -- a park ends the turn, a refusal by a rule does not
  pub park_ends : goes_on 2 ≡ false
  pub refusal_goes_on : goes_on 18 ≡ true
  -- 11, then 25, then 26
  pub sound_first : first_answer false false false ≡ Err NotSound
  pub quantum_second : first_answer true false false ≡ Err QuantumOutOfRange
  pub scripts_third : first_answer true true false ≡ Err ScriptUnknown
  pub numbers :
      (dispatch_returned (Ok tt) ≡ 0) × (dispatch_returned (Err NotSound) ≡ 11) × (dispatch_returned (Err QuantumOutOfRange) ≡ 25)
      × (dispatch_returned (Err ScriptUnknown) ≡ 26)
  pub quanta : (within 1 quantum_limit 0 ≡ false) × (within 1 quantum_limit 1 ≡ true) × (within 1 quantum_limit 100 ≡ true) × (within 1 quantum_limit 101 ≡ false)
  -- a cursor may be at its script's end, and not past it
  pub at_end : script_known two_operations 1 (cursor_of 0 2 2) ≡ true
  pub past_end : script_known two_operations 1 (cursor_of 0 2 3) ≡ false
  -- a script is among the operations lent, and half an operation is none
  pub too_long : script_known two_operations 1 (cursor_of 1 2 0) ≡ false
  pub half_lent : script_known (1 ∷ 1 ∷ 2 ∷ []) 1 (cursor_of 1 1 0) ≡ false
  -- all of it is looked at, also before the cursor; operation 6 is unknown, and so is an object that the table has not
  pub timed_wait_unknown : script_known (6 ∷ 1 ∷ 2 ∷ 1 ∷ []) 1 (cursor_of 0 2 2) ≡ false
  pub object_unknown : script_known (1 ∷ 2 ∷ 2 ∷ 1 ∷ []) 1 (cursor_of 0 2 2) ≡ false
  -- thread 3 began, parked by a committing step, and unparked thread 32
  pub entry : trace_entry 3 true (Answered Parked) true 0x80000000 ≡ 0x8000000003030002
