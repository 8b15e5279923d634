-- The refusals of document 01 ("Returned first") and document 02, as ordered lists of a number and when it applies. They speak of a table's records and
-- of the rules, and not of the code's gate: that this gives the same is proved.
use Rattle.std.specs.Prelude.{ℕ, Bool, true, false, not, List, [], ◌∷◌, eqb, Option, Some, None}
use Rattle.laws.specs.Choice.{both, either, within}
use Rattle.lock_word.specs.Read.{read_word}
use Rattle.lock_word.specs.Depth.{depth_limit}
use Rattle.lock_word.specs.Ticks.{tick_limit}
use Rattle.lock_word.specs.declared.reading.LockWord.{LockWord}
use Rattle.lock_rules.specs.Operations.{operation_limit, timed_wait}
use Rattle.lock_rules.specs.Rules.{decide}
use Rattle.lock_rules.specs.declared.event.Event.{Event}
use Rattle.lock_rules.specs.declared.event.Event.TheVariants.{Begin, Step, Tick}
use Rattle.lock_rules.specs.declared.Doing.{Doing}
use Rattle.lock_rules.specs.declared.ThreadState.{ThreadState}
use Rattle.lock_rules.specs.declared.ThreadState.TheVariants.{Idle, Running, Queued, Contending, Waiting}
use Rattle.lock_rules.specs.declared.Effect.{Effect}
use Rattle.lock_table.specs.Limits.{thread_limit, object_limit}
use Rattle.lock_table.specs.Operation.{operation_number}
use Rattle.lock_table.specs.Access.{thread_at, object_at, phase_number_at}
use Rattle.lock_table.specs.Ownership.{ownership_at}
use Rattle.lock_table.specs.Fresh.{ranks_fit}
use Rattle.lock_table.specs.declared.fresh_table.FreshRequest.{FreshRequest}
use Rattle.lock_table.specs.declared.record.Monitor.{Monitor}
use Rattle.lock_table.specs.declared.record.ObjectRecord.{ObjectRecord}
use Rattle.lock_table.specs.declared.record.Table.{Table}
use Rattle.lock_perform.specs.State.{read_thread}
use Rattle.lock_perform.specs.Sight.{sight_at}
use Rattle.lock_soundness.specs.Sound.{sound_of}
use Rattle.step_bounds.specs.SixSteps.{is_parked_phase}
use Rattle.dispatch_rules.specs.Dispatch.{quantum_limit, scripts_known}
use Rattle.dispatch_rules.specs.Claims.{RunInput}
use Rattle.lock_refusals.specs.Rows.{Row, row}

-- thread n's operation by its number, and the object that it is on
abbrev pub operation_at : Table → ℕ → ℕ
operation_at table n = operation_number (thread_at table n).operation

abbrev pub home_number : Table → ℕ → ℕ
home_number table n = (thread_at table n).object

-- 18: "exit, wait, notify: not the owner". An exit, a wait, timed or not, or either notify is in phase 1, and the object's owner by its word is not the thread.
abbrev pub not_the_owner : ℕ → ℕ → ℕ → ℕ → Bool
not_the_owner thread operation phase owner = both (within 2 operation_limit operation) (both (eqb phase 1) (not (eqb owner thread)))

-- 19: "enter at depth 65,535". An enter is in phase 4, and the thread is holder at that depth.
abbrev pub too_deep : ℕ → ℕ → ℕ → Monitor → Bool
too_deep thread operation phase monitor =
    both (eqb operation 1) (both (eqb phase 4) (both (eqb monitor.holder thread) (eqb monitor.depth depth_limit)))

-- 20: "the step has no rule", by the rules, for what the thread is doing and what it sees of its object
abbrev pub unruled : Option Effect → Bool
unruled None = true
unruled (Some effect) = false

abbrev pub no_rule_seeing : Table → ℕ → ObjectRecord → Doing → Option LockWord → Bool
no_rule_seeing table thread object doing None = false
no_rule_seeing table thread object doing (Some word) = unruled (decide thread (sight_at table object word) doing)

abbrev pub no_rule : Table → ℕ → ObjectRecord → ThreadState → Bool
no_rule table thread object Idle = false
no_rule table thread object (Running doing) = no_rule_seeing table thread object doing (read_word object.word)
no_rule table thread object (Queued carried) = false
no_rule table thread object Contending = false
no_rule table thread object (Waiting suspension) = false

-- "then its rule"
abbrev pub rule_rows : Table → ℕ → List Row
rule_rows table thread =
    let phase = phase_number_at table thread in
    let operation = operation_at table thread in
    let home = home_number table thread in
    row 18 (not_the_owner thread operation phase (ownership_at table home).thread)
    ∷ row 19 (too_deep thread operation phase (object_at table home).monitor)
    ∷ row 20 (no_rule table thread (object_at table home) (read_thread (thread_at table thread)))
    ∷ []

-- "Order: 11, 12; begin then 17, 13, 14", and 23 after 14 (document 02, L1): the table is not sound; the thread is not in 1..T; the operation is not 1..6; the
-- object is not in 1..N; the thread is not idle; the limit of a timed wait is not 1 to 65,535
abbrev pub begin_refusals : Table → ℕ → ℕ → ℕ → ℕ → List Row
begin_refusals table operation thread object limit =
    row 11 (not (sound_of table))
    ∷ row 12 (not (within 1 table.threadcount thread))
    ∷ row 17 (not (within 1 operation_limit operation))
    ∷ row 13 (not (within 1 table.objectcount object))
    ∷ row 14 (not (eqb (phase_number_at table thread) 0))
    ∷ row 23 (both (eqb operation timed_wait) (not (within 1 tick_limit limit)))
    ∷ []

-- "11, 12; .. step then 15, 16, then its rule": after 12, the thread is idle; it is parked, in 5, 8 or 14
abbrev pub step_refusals : Table → ℕ → List Row
step_refusals table n =
    row 11 (not (sound_of table))
    ∷ row 12 (not (within 1 table.threadcount n))
    ∷ row 15 (eqb (phase_number_at table n) 0)
    ∷ row 16 (is_parked_phase (phase_number_at table n))
    ∷ rule_rows table n

-- a tick names no thread and no object
abbrev pub tick_refusals : Table → List Row
tick_refusals table = row 11 (not (sound_of table)) ∷ []

abbrev pub refusals : Table → Event → List Row
refusals table (Begin operation thread object limit) = begin_refusals table operation thread object limit
refusals table (Step thread) = step_refusals table thread
refusals table Tick = tick_refusals table

-- "fresh table: T or N out of range"; "27 when a rank is above 3, after 22" (document 02, L8), of the threads up to T
abbrev pub fresh_refusals : FreshRequest → List Row
fresh_refusals request =
    row 22 (either (not (within 1 thread_limit request.threads)) (not (within 1 object_limit request.objects)))
    ∷ row 27 (not (ranks_fit request))
    ∷ []

-- a run of the dispatcher: "11, then 25 when q is not 1 to 100, then 26 when the slice has not T records, .." (document 02, L6); which scripts are known is
-- said in dispatch_rules, as what is sound in lock_soundness
abbrev pub dispatch_refusals : RunInput → Table → List Row
dispatch_refusals given table =
    row 11 (not (sound_of table))
    ∷ row 25 (not (within 1 quantum_limit given.quantum))
    ∷ row 26 (not (scripts_known given.scripts given.lent table given.cursors))
    ∷ []
