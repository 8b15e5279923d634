-- The gate refuses with the first of the list that applies: by every outcome of every test, so that what counts is the number that comes out, and not how the
-- lists are written.
use Prim.Native.Nat.{ℕ}
use mathlib.Core.Path.{◌≡◌, refl}
use mathlib.Core.List.{List, []}
use lib.Dec.{eqb}
use Rattle.laws.specs.Choice.{within}
use Rattle.laws.proofs.Choice.{split}
use Rattle.lock_word.specs.Ticks.{tick_limit}
use Rattle.lock_rules.specs.Numbers.{refusal_number}
use Rattle.lock_rules.specs.Operations.{operation_limit, timed_wait}
use Rattle.lock_rules.specs.Gate.{GateRow, first_refusing, is_idle, is_parked, gate_rows, event_thread}
use Rattle.std.specs.Prelude.{Result, Ok, Err}
use Rattle.lock_rules.specs.declared.event.Refusal.{Refusal}
use Rattle.lock_rules.specs.declared.event.{Event.Event}
use Rattle.lock_rules.specs.declared.event.Event.TheVariants.{Begin, Step, Tick}
use Rattle.lock_table.specs.{Phase.phase_number, Access.thread_at}
use Rattle.lock_table.specs.declared.phase.Phase.{Phase}
use Rattle.lock_table.specs.declared.phase.Phase.TheVariants.{Idle, Look, Store, Cancel, GoIn, Queued, Check, Try, Contending, Test, Tell}
use Rattle.lock_table.specs.declared.phase.Phase.TheVariants.{Leave, Inflate, GiveUp, Waiting, Resume}
use Rattle.lock_table.specs.declared.record.Table.{Table}
use Rattle.lock_soundness.specs.Sound.{sound_of}
use Rattle.lock_gate.specs.Status.{thread_status}
use Rattle.lock_refusals.specs.Rows.{Row}
use Rattle.step_bounds.specs.SixSteps.{is_parked_phase}
use Rattle.lock_refusals.specs.Refusals.{rule_rows, refusals}
use Rattle.lock_refusals.proofs.Rows.{first_applies}

-- what comes behind the gate: a step's refusals by its rule
abbrev pub behind_gate : Table → Event → List Row
behind_gate table (Begin operation thread object limit) = []
behind_gate table (Step thread) = rule_rows table thread
behind_gate table Tick = []

-- what the gate asks of a thread's status, by the number of its phase
pub record StatusSo (phase : Phase) : Type 0 where
  pub idle : eqb (phase_number phase) 0 ≡ is_idle (thread_status phase)
  pub parked : is_parked_phase (phase_number phase) ≡ is_parked (thread_status phase)

status_so : (phase : Phase) → StatusSo phase
unfolding phase_number thread_status
status_so Idle = record { idle = refl; parked = refl }
status_so Look = record { idle = refl; parked = refl }
status_so Store = record { idle = refl; parked = refl }
status_so Cancel = record { idle = refl; parked = refl }
status_so GoIn = record { idle = refl; parked = refl }
status_so (Queued onward) = record { idle = refl; parked = refl }
status_so Check = record { idle = refl; parked = refl }
status_so Try = record { idle = refl; parked = refl }
status_so Contending = record { idle = refl; parked = refl }
status_so Test = record { idle = refl; parked = refl }
status_so Tell = record { idle = refl; parked = refl }
status_so Leave = record { idle = refl; parked = refl }
status_so Inflate = record { idle = refl; parked = refl }
status_so GiveUp = record { idle = refl; parked = refl }
status_so Waiting = record { idle = refl; parked = refl }
status_so Resume = record { idle = refl; parked = refl }

-- the gate's rows of an event on a table
abbrev pub gate_rows_of : Table → Event → List GateRow
gate_rows_of table event =
    gate_rows (sound_of table) table.threadcount table.objectcount event (thread_status (thread_at table (event_thread event)).phase)

-- the number of what the gate says, or the first of those behind it
abbrev pub by_gate_number : Result (Unit {0}) Refusal → ℕ → ℕ
by_gate_number (Ok _) rest = rest
by_gate_number (Err refusal) rest = refusal_number refusal

pub first_by_gate : (table : Table) (event : Event)
    → first_applies (refusals table event) ≡ by_gate_number (first_refusing (gate_rows_of table event)) (first_applies (behind_gate table event))
unfolding refusal_number
first_by_gate table (Begin operation thread object limit) =
    let phase = (thread_at table thread).phase in
    rw (status_so phase).idle
    (split (sound_of table) (λ s. rw s
    (split (within 1 table.threadcount thread) (λ t. rw t
    (split (within 1 operation_limit operation) (λ p. rw p
    (split (within 1 table.objectcount object) (λ o. rw o
    (split (is_idle (thread_status phase)) (λ i. rw i
    (split (eqb operation timed_wait) (λ w. rw w
    (split (within 1 tick_limit limit) (λ l. rw l refl) (λ l. rw l refl)))
    (λ w. rw w refl)))
    (λ i. rw i refl)))
    (λ o. rw o refl)))
    (λ p. rw p refl)))
    (λ t. rw t refl)))
    (λ s. rw s refl))
first_by_gate table (Step thread) =
    let phase = (thread_at table thread).phase in
    rw ((status_so phase).idle, (status_so phase).parked)
    (split (sound_of table) (λ s. rw s
    (split (within 1 table.threadcount thread) (λ t. rw t
    (split (is_idle (thread_status phase)) (λ i. rw i refl) (λ i. rw i
    (split (is_parked (thread_status phase)) (λ p. rw p refl) (λ p. rw p refl)))))
    (λ t. rw t refl)))
    (λ s. rw s refl))
first_by_gate table Tick = split (sound_of table) (λ s. rw s refl) (λ s. rw s refl)
