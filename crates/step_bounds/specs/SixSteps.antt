-- Six steps as one type (document 02, L5): "in every schedule from a fresh table a thread takes at most six steps of its own from beginning an operation,
-- or from being unparked, until it finishes, is refused or parks". A schedule may end anywhere, so what holds at the end of each holds all along.
use Rattle.std.specs.Prelude.{ℕ, ◌+◌, ◌≤◌, Bool, not, List, [], ◌∷◌, eqb}
use Rattle.laws.specs.Choice.{pick, both, either}
use Rattle.lock_rules.specs.{RunQueue.own_event, Numbers.returned_of}
use Rattle.lock_rules.specs.declared.Answer.TheVariants.{GoneOn, Finished, Parked, NotOwner, TooDeep}
use Rattle.lock_rules.specs.declared.event.Event.{Event}
use Rattle.lock_rules.specs.declared.event.Event.TheVariants.{Begin, Step, Tick}
use Rattle.lock_table.specs.{Access.phase_number_at, Fresh.InRange, Fresh.table_of}
use Rattle.lock_table.specs.declared.{fresh_table.FreshRequest.FreshRequest, record.Table.Table}
use Rattle.lock_engine.specs.{Outcome.reply_returned, Handle.handle}

-- what a step of its own returns: 0, 1, 2, 18 or 19; with any other number the thread took none
abbrev pub is_step : ℕ → Bool
is_step returned =
    either (eqb returned (returned_of GoneOn)) (either (eqb returned (returned_of (Finished 0))) (either (eqb returned (returned_of Parked))
    (either (eqb returned (returned_of NotOwner)) (eqb returned (returned_of TooDeep)))))

-- the count after an event of the thread's own (`own_event`: of begins those that are accepted): a begin starts it again
abbrev pub own_steps : Event → ℕ → ℕ → ℕ
own_steps (Begin number thread object limit) returned steps = 0
own_steps (Step thread) returned steps = pick (is_step returned) (steps + 1) steps
own_steps Tick returned steps = steps

-- the phases of parked threads; who is in one of them before an event and in none after is unparked by it
abbrev pub is_parked_phase : ℕ → Bool
is_parked_phase phase = either (eqb phase 5) (either (eqb phase 8) (eqb phase 14))

-- What is kept of thread n after an event: here the count, in Starts.antt its start too. Being unparked starts it again, by the phase that the thread is
-- left in; else the thread's own events change it.
abbrev pub kept_after : {A : Type 0} → (ℕ → A) → (Event → ℕ → A → A) → ℕ → Event → ℕ → ℕ → ℕ → A → A
kept_after unparked own n event returned before after kept =
    pick (both (is_parked_phase before) (not (is_parked_phase after))) (unparked after) (pick (own_event event returned n) (own event returned kept) kept)

-- along a schedule, from what each event returned and from the tables before and after it
abbrev pub along : {A : Type 0} → (ℕ → A) → (Event → ℕ → A → A) → ℕ → A → Table → List Event → A
along unparked own n kept table [] = kept
along unparked own n kept table (event ∷ rest) =
    let outcome = handle table event in
    let before = phase_number_at table n in
    let after = phase_number_at outcome.table n in
    along unparked own n (kept_after unparked own n event (reply_returned outcome.reply) before after kept) outcome.table rest

abbrev pub steps_taken : ℕ → Table → List Event → ℕ
steps_taken n table events = along (λ after. 0) own_steps n 0 table events

-- so many at most, in every schedule from any fresh table, of every thread
abbrev pub AtMost : ℕ → Type 0
AtMost most = (request : FreshRequest) → InRange request → (events : List Event) (n : ℕ) → steps_taken n (table_of request) events ≤ most

abbrev pub step_limit : ℕ
step_limit = 6

abbrev pub SixSteps : Type 0
SixSteps = AtMost step_limit
