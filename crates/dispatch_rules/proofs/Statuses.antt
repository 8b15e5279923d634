-- The status of a thread: another's event keeps it, unless the thread is parked, and who is ready can take a step.
use Prim.Native.Nat.{ℕ}
use mathlib.Core.Path.{◌≡◌, refl, sym, ap, ◌∙◌}
use mathlib.Core.Logic.{◌≢◌}
use mathlib.Core.Bool.{Bool, true, false}
use lib.Dec.{T}
use borrow.Author.Tests.{ne_eqb}
use Rattle.laws.specs.Choice.{pick}
use Rattle.laws.proofs.Choice.{false≢true}
use Rattle.lock_rules.specs.Gate.{is_idle, is_parked, event_thread}
use Rattle.lock_rules.specs.RunQueue.{own_event}
use Rattle.lock_rules.specs.declared.event.{Event.Event, ThreadStatus.ThreadStatus}
use Rattle.lock_rules.specs.declared.event.Event.TheVariants.{Begin, Step, Tick}
use Rattle.lock_rules.specs.declared.event.ThreadStatus.TheVariants.{Idle, Ready}
use Rattle.lock_rules.specs.declared.ThreadState.{ThreadState}
use Rattle.lock_rules.proofs.Each.{each_state}
use Rattle.lock_rules.proofs.Status.{unparked, unfinished, Runs}
use Rattle.lock_rules.proofs.TableKinds.{status_of}
use Rattle.lock_rules.proofs.Tables.{turn}
use Rattle.lock_rules.proofs.Unparks.{turn_turned}
use Rattle.lock_table.specs.Access.{thread_at}
use Rattle.lock_table.specs.WellTyped.{WellTyped}
use Rattle.lock_table.specs.declared.record.Table.{Table}
use Rattle.lock_gate.specs.Status.{thread_status}
use Rattle.lock_soundness.specs.Sound.{sound_of}
use Rattle.lock_engine.specs.Handle.{handle}
use Rattle.lock_records.specs.Unparked.{CanStep}
use Rattle.lock_records.proofs.Readings.{state_is}
use Rattle.lock_records.proofs.Parking.{so_runs}
use Rattle.lock_schedule.proofs.EngineKind.{status_read, event_is_turn}
use Rattle.lock_schedule.proofs.Theorem.{sound_kept}
use Rattle.lock_schedule.proofs.Interpreter.{told}
use Rattle.step_measure.proofs.Theorem.{read}

-- the gate's status of a thread
abbrev pub status_at : Table → ℕ → ThreadStatus
status_at t n = thread_status (thread_at t n).phase

-- what it says of a state, and what says it
unparked_status : (state : ThreadState) → is_parked (status_of state) ≡ false → T (unparked state)
unparked_status = each_state _ (search, search, λ carried e. false≢true (sym e), λ e. false≢true (sym e), λ saved e. false≢true (sym e))

status_by : (state : ThreadState) → T (unparked state) → status_of state ≡ pick (unfinished state) Ready Idle
status_by = each_state _ (search, search, λ carried free. absurd free, λ free. absurd free, λ saved free. absurd free)

ready_runs : (state : ThreadState) → status_of state ≡ Ready → Runs state
ready_runs =
    each_state _ (
      λ e. false≢true (sym (ap is_idle e)),
      λ doing e. (tt, tt),
      λ carried e. false≢true (sym (ap is_parked e)),
      λ e. false≢true (sym (ap is_parked e)),
      λ saved e. false≢true (sym (ap is_parked e)),
    )

-- an event of another thread does not count for this one
not_own : (event : Event) (returned n : ℕ) → n ≢ event_thread event → own_event event returned n ≡ false
unfolding own_event
not_own (Begin operation thread object limit) returned n away = rw (ne_eqb n thread away) refl
not_own (Step thread) returned n away = ne_eqb n thread away
not_own Tick returned n away = refl

module _ (t : Table) (typed : WellTyped t) (sound : sound_of t ≡ true) (n : ℕ) where
  pub status_kept : (event : Event) → n ≢ event_thread event → is_parked (status_at t n) ≡ false → status_at (handle t event).table n ≡ status_at t n
  status_kept event away free =
      let threads = t.threadcount in
      let objects = t.objectcount in
      let (lists, represents, fine) = read t typed sound in
      let one = told threads objects t lists represents fine event (event_is_turn t sound event) in
      let after = (turn threads objects lists event).table in
      let before_is : status_at t n ≡ status_of (lists.threads n).state = status_read t sound n ∙ ap status_of (state_is threads objects t lists represents fine n) in
      let after_is : status_at (handle t event).table n ≡ status_of (after.threads n).state =
      status_read (handle t event).table (sound_kept t typed sound event) n ∙ ap status_of (state_is threads objects (handle t event).table after one.represents one.sound n) in
      let was = unparked_status (lists.threads n).state (rw before_is at free) in
      let (is, same) = (turn_turned threads objects lists fine n event).other (not_own event _ n away) was in
      after_is ∙ (status_by (after.threads n).state is ∙ (ap (λ (busy : Bool). pick busy Ready Idle) same ∙ (sym (status_by (lists.threads n).state was) ∙ sym before_is)))

  pub ready_steps : status_at t n ≡ Ready → CanStep t n
  ready_steps ready =
      let threads = t.threadcount in
      let objects = t.objectcount in
      let (lists, represents, fine) = read t typed sound in
      so_runs threads objects t lists represents fine n
      (ready_runs (lists.threads n).state (ap status_of (sym (state_is threads objects t lists represents fine n)) ∙ (sym (status_read t sound n) ∙ ready)))
