-- What a step says that finished an enter: the table is sound, and the thread is ready for a step of its enter, on an object of the table.
use Prim.Native.Nat.{ℕ, ◌≤◌}
use mathlib.Core.Path.{◌≡◌, refl, sym, ap, subst}
use mathlib.Core.Logic.{◌≢◌}
use mathlib.Core.Bool.{true}
use native.Mathlib.Omega.{arith}
use borrow.Author.Tests.{eqb-true}
use Rattle.laws.proofs.Choice.{both_first, both_second, false≢true}
use Rattle.lock_rules.specs.Gate.{is_idle}
use Rattle.std.specs.Prelude.{Result}
use Rattle.lock_rules.specs.declared.event.Refusal.{Refusal}
use Rattle.lock_rules.specs.declared.event.Event.TheVariants.{Step}
use Rattle.lock_rules.specs.declared.event.Refusal.TheVariants.{NotSound}
use Rattle.lock_rules.specs.declared.event.ThreadStatus.TheVariants.{Ready}
use Rattle.lock_rules.proofs.Gating.{by_gate}
use Rattle.lock_table.specs.Limits.{object_limit}
use Rattle.lock_table.specs.Phase.{phase_number}
use Rattle.lock_table.specs.Access.{thread_at, object_at}
use Rattle.lock_table.specs.declared.operation.Operation.{Operation}
use Rattle.lock_table.specs.declared.operation.Operation.TheVariants.{Idle as NoOperation, Enter, Exit, Wait, Notify, NotifyAll, TimedWait}
use Rattle.lock_table.specs.declared.phase.Phase.{Phase}
use Rattle.lock_table.specs.declared.phase.Phase.TheVariants.{Idle, Look, Store, Cancel, GoIn, Queued, Check, Try, Contending, Test, Tell}
use Rattle.lock_table.specs.declared.phase.Phase.TheVariants.{Leave, Inflate, GiveUp, Waiting, Resume}
use Rattle.lock_table.specs.declared.record.{ThreadRecord.ThreadRecord, Table.Table}
use Rattle.lock_gate.specs.Status.{thread_status}
use Rattle.lock_soundness.specs.Sound.{uses_phase, sound_of}
use Rattle.lock_soundness.proofs.Reading.{sound_reads}
use Rattle.lock_engine.specs.Outcome.{reply_returned}
use Rattle.lock_engine.specs.Turn.{step_turn, open_turn, gate_turn}
use Rattle.lock_engine.specs.Handle.{waiters_of, trusted, handle_trusting, handle, step}
use Rattle.lock_engine.proofs.Narrow.{sizes}
use Rattle.report_tally.specs.Way.{is_enter, finished_number}
use Rattle.report_tally.proofs.RefusalOther.{refusal_other}
use Rattle.report_counts.specs.Enters.{step_enters}
use Rattle.report_counts.specs.Report.{ObjectNumber}

enter_only : (operation : Operation) → is_enter operation ≡ true → operation ≡ Enter
unfolding is_enter
enter_only NoOperation other = false≢true other
enter_only Enter is = refl
enter_only Exit other = false≢true other
enter_only Wait other = false≢true other
enter_only Notify other = false≢true other
enter_only NotifyAll other = false≢true other
enter_only TimedWait other = false≢true other

-- a thread that is ready is not idle
ready_busy : (phase : Phase) → thread_status phase ≡ Ready → phase_number phase ≢ 0
unfolding thread_status phase_number
ready_busy Idle ready = false≢true (ap is_idle (sym ready))
ready_busy Look ready = omega arith
ready_busy Store ready = omega arith
ready_busy Cancel ready = omega arith
ready_busy GoIn ready = omega arith
ready_busy (Queued onward) ready = omega arith
ready_busy Check ready = omega arith
ready_busy Try ready = omega arith
ready_busy Contending ready = omega arith
ready_busy Test ready = omega arith
ready_busy Tell ready = omega arith
ready_busy Leave ready = omega arith
ready_busy Inflate ready = omega arith
ready_busy GiveUp ready = omega arith
ready_busy Waiting ready = omega arith
ready_busy Resume ready = omega arith

module _ (table : Table) (thread : ℕ) where
  abbrev own : ThreadRecord
  own = thread_at table thread

  -- what a step of this thread returns that the gate lets through
  abbrev pub turn_returned : ℕ
  turn_returned =
      let object = object_at table own.object in reply_returned (step_turn thread own object (waiters_of table object)).reply

  -- a step that returned 1 was let through
  pub record LetThrough : Type 0 where
    pub sound : sound_of table ≡ true
    pub low : 1 ≤ thread
    pub high : thread ≤ table.threadcount
    pub ready : thread_status own.phase ≡ Ready
    pub returned : turn_returned ≡ finished_number

  pub let_through : reply_returned (step table thread).reply ≡ finished_number → LetThrough
  unfolding handle handle_trusting gate_turn open_turn reply_returned
  let_through =
      by_gate (trusted table (sound_of table)) table.threadcount table.objectcount
      (λ (gated : Result (Unit {0}) Refusal).
      let object = object_at table own.object in
      reply_returned (gate_turn gated (Step thread) own object (waiters_of table object)).reply ≡ finished_number → LetThrough)
      (λ unsound is. absurd (refusal_other NotSound is)) (λ refusal sound high is. absurd (refusal_other refusal is)) (Step thread)
      (thread_status own.phase)
      (λ sound (low, high, ready) is.
      record { sound = both_first (sound_of table) _ sound; low = low; high = high; ready = ready; returned = is })

  -- what a sound table says of a thread that is ready
  pub record Entering : Type 0 where
    pub enters : own.operation ≡ Enter
    pub uses : uses_phase Enter (phase_number own.phase) ≡ true
    pub object_low : 1 ≤ own.object
    pub object_high : own.object ≤ table.objectcount
    pub objects : table.objectcount ≤ object_limit
    pub returned : turn_returned ≡ finished_number

  pub entering : step_enters table thread ≡ true → Entering
  entering finishes =
      let enters = enter_only own.operation (both_first (is_enter own.operation) _ finishes) in
      let through = let_through (eqb-true _ finished_number (both_second (is_enter own.operation) _ finishes)) in
      let fits = (sound_reads table through.sound).threads thread through.low through.high in
      let ((low, high), allowed) = fits.operation (ready_busy own.phase through.ready) in
      let uses = both_first (uses_phase own.operation (phase_number own.phase)) _ allowed in
      record {
        enters = enters;
        uses = subst (λ (operation : Operation). uses_phase operation (phase_number own.phase) ≡ true) enters uses;
        object_low = low;
        object_high = high;
        objects = (sizes table through.sound).1;
        returned = through.returned;
      }

  -- an enter finishes on an object of the table
  pub entered_known : step_enters table thread ≡ true → own.object ≤ table.objectcount
  entered_known finishes = (entering finishes).object_high

  pub entered_object : step_enters table thread ≡ true → ObjectNumber own.object
  entered_object finishes = let e = entering finishes in (e.object_low, omega (arith, e.object_high, e.objects))
