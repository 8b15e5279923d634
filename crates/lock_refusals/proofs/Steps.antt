-- An event is refused with the first of document 01's list that applies, and leaves what it says then.
use Prim.Native.Nat.{ℕ}
use mathlib.Core.Path.{◌≡◌, refl, sym, ap, ◌∙◌, subst}
use mathlib.Core.Logic.{◌≢◌}
use mathlib.Core.Bool.{true, false}
use native.Mathlib.Omega.{arith}
use borrow.Author.Tests.{le-leb}
use Rattle.laws.specs.Choice.{pick, within}
use Rattle.laws.proofs.Choice.{split, false≢true}
use Rattle.lock_word.specs.Read.{read_word}
use Rattle.std.specs.Prelude.{Option, Some, None, Result}
use Rattle.lock_word.specs.declared.reading.LockWord.{LockWord}
use Rattle.lock_rules.specs.{Numbers.refusal_number, Rules.decide}
use Rattle.lock_rules.specs.Gate.{is_idle, is_parked, gate, event_thread, event_object}
use Rattle.lock_rules.specs.declared.event.Refusal.{Refusal}
use Rattle.lock_rules.specs.declared.event.{Event.Event}
use Rattle.lock_rules.specs.declared.event.Event.TheVariants.{Begin, Step, Tick}
use Rattle.lock_rules.specs.declared.event.ThreadStatus.TheVariants.{Ready}
use Rattle.lock_rules.specs.declared.event.Refusal.TheVariants.{NotSound}
use Rattle.lock_rules.specs.declared.{Doing.Doing, ThreadState.ThreadState}
use Rattle.lock_rules.specs.declared.ThreadState.TheVariants.{Idle, Running, Queued, Contending, Waiting}
use Rattle.lock_rules.proofs.Gating.{Passed, by_gate}
use Rattle.lock_rules.proofs.TableKinds.{status_of}
use Rattle.lock_table.specs.Limits.{thread_limit, object_limit}
use Rattle.lock_table.specs.{Operation.operation_number, Phase.phase_number, WellTyped.WellTyped, Record.activity}
use Rattle.lock_table.specs.Access.{thread_at, object_at}
use Rattle.lock_table.specs.declared.record.{ThreadRecord.ThreadRecord, Activity.Activity, Table.Table}
use Rattle.lock_table.specs.Ownership.{ownership_in, ownership_at}
use Rattle.lock_perform.specs.State.{doing_activity, write_activity, read_thread}
use Rattle.lock_perform.specs.Sight.{sight_at}
use Rattle.lock_soundness.specs.Sound.{sound_of}
use Rattle.sound_records.proofs.Reading.{WordFits}
use Rattle.lock_soundness.proofs.Reading.{sound_reads}
use Rattle.lock_engine.specs.Outcome.{reply_returned}
use Rattle.lock_engine.specs.Turn.{word_turn, state_turn, step_turn, open_turn, gate_turn, refused}
use Rattle.lock_gate.specs.Status.{thread_status}
use Rattle.lock_engine.specs.Handle.{waiters_of, outcome_of, handle_trusting, handle}
use Rattle.lock_engine.specs.declared.outcome.Outcome.{Outcome}
use Rattle.lock_engine.proofs.Refused.{refused_stays, handle_shut}
use Rattle.lock_engine.proofs.Narrow.{sizes}
use Rattle.lock_records.proofs.ReadBack.{IsWritten, state_back}
use Rattle.lock_records.proofs.EveryNumber.{written_at}
use Rattle.lock_schedule.proofs.EngineKind.{status_read, home_inside}
use Rattle.lock_refusals.specs.Refusals.{no_rule_seeing, no_rule, rule_rows, refusals}
use Rattle.lock_refusals.proofs.Rows.{first_applies}
use Rattle.lock_refusals.proofs.GateRows.{behind_gate, by_gate_number, first_by_gate}
use Rattle.lock_refusals.proofs.StepEnds.{rule_refusals, decide_ends}
use Rattle.lock_refusals.proofs.Ended.{Ended, refuse_ended, action_ended}

module _ (table : Table) (typed : WellTyped table) (sound : sound_of table ≡ true) (thread : ℕ) (some : thread ≢ 0) where
  abbrev own : ThreadRecord
  own = thread_at table thread

  abbrev home : ℕ
  home = own.object

  -- a step's refusals by its rule, for a thread in this state whose record is `written`
  abbrev from_rule : Activity → ThreadState → ℕ
  from_rule written state =
      first_applies
      (rule_refusals thread (operation_number written.operation) (phase_number written.phase) (ownership_at table home).thread
      (object_at table home).monitor (no_rule table thread (object_at table home) state))

  -- a thread that can take a step, by its object's word
  word_ended : (doing : Doing) (decoded : Option LockWord) → WordFits table.threadcount home decoded
      → let written = doing_activity thread home doing in
      let object = object_at table home in
      Ended table (Step thread) (outcome_of table thread home (word_turn thread own object (waiters_of table object) doing decoded))
      (first_applies
      (rule_refusals thread (operation_number written.operation) (phase_number written.phase) (ownership_in decoded object.monitor).thread
      object.monitor (no_rule_seeing table thread object doing decoded)))
  unfolding word_turn
  word_ended doing None never = absurd never
  word_ended doing (Some word) fits =
      action_ended table thread word (decide thread (sight_at table (object_at table home) word) doing) _
      (decide_ends table (object_at table home) word thread some (typed.depths home) home doing)

  -- its record is the state that it is read as, written
  ready_ended : (state : ThreadState) → read_thread own ≡ state → status_of state ≡ Ready
      → let object = object_at table home in
      Ended table (Step thread)
      (outcome_of table thread home
      (pick (within 1 object_limit home) (state_turn thread own object (waiters_of table object) state) (refused own object NotSound)))
      (from_rule (activity own) state)
  unfolding state_turn write_activity
  ready_ended Idle is ready = false≢true (ap is_idle (sym ready))
  ready_ended (Running doing) is ready =
      let read : IsWritten table.objectcount thread own = written_at table (sound_reads table sound) thread in
      let back : read.state ≡ Running doing = sym (state_back table.objectcount thread own read) ∙ is in
      let written : activity own ≡ doing_activity thread home doing = ap activity read.written ∙ ap (write_activity thread home) back in
      let (low, high) = read.home (rw back tt) in
      rw (home_inside table sound thread (rw is tt))
      (subst (λ (shape : Activity). Ended table (Step thread)
      (outcome_of table thread home
      (word_turn thread own (object_at table home) (waiters_of table (object_at table home)) doing (read_word (object_at table home).word)))
      (from_rule shape (Running doing))) (sym written)
      (word_ended doing (read_word (object_at table home).word) ((sound_reads table sound).objects home low high).word))
  ready_ended (Queued carried) is ready = false≢true (ap is_parked (sym ready))
  ready_ended Contending is ready = false≢true (ap is_parked (sym ready))
  ready_ended (Waiting suspension) is ready = false≢true (ap is_parked (sym ready))

  step_ended : thread_status own.phase ≡ Ready
      → let object = object_at table home in
      Ended table (Step thread) (outcome_of table thread home (step_turn thread own object (waiters_of table object))) (first_applies (rule_rows table thread))
  unfolding step_turn
  step_ended ready = ready_ended (read_thread own) refl (sym (status_read table sound thread) ∙ ready)

module _ (table : Table) (typed : WellTyped table) where
  -- what the gate lets through
  open_ended : sound_of table ≡ true → (event : Event)
      → Passed table.threadcount table.objectcount event (thread_status (thread_at table (event_thread event)).phase)
      → let own = thread_at table (event_thread event) in
      let number = event_object event own.object in
      let object = object_at table number in
      Ended table event (outcome_of table (event_thread event) number (open_turn event own object (waiters_of table object)))
      (first_applies (behind_gate table event))
  unfolding open_turn reply_returned
  open_ended sound (Begin operation thread object limit) passed = record { refused = refl; left = λ high. absurd (omega (arith, high)); nobody = λ high. absurd (omega (arith, high)) }
  open_ended sound (Step thread) (low, high, ready) = step_ended table typed sound thread (λ none. omega (arith, none, low)) ready
  open_ended sound Tick passed = record { refused = refl; left = λ high. absurd (omega (arith, high)); nobody = λ high. absurd (omega (arith, high)) }

  -- on a sound table
  sound_ended : sound_of table ≡ true → (event : Event)
      → Ended table event (handle_trusting table event true)
      (by_gate_number (gate true table.threadcount table.objectcount event (thread_status (thread_at table (event_thread event)).phase))
      (first_applies (behind_gate table event)))
  unfolding handle_trusting gate_turn
  sound_ended sound event =
      let own = thread_at table (event_thread event) in
      let number = event_object event own.object in
      let object = object_at table number in
      rw (le-leb table.threadcount thread_limit (sizes table sound).0)
      (by_gate true table.threadcount table.objectcount
      (λ (gated : Result (Unit {0}) Refusal). Ended table event (outcome_of table (event_thread event) number (gate_turn gated event own object (waiters_of table object)))
      (by_gate_number gated (first_applies (behind_gate table event))))
      (λ unsound. false≢true (sym unsound))
      (λ refusal is high. subst (λ (outcome : Outcome). Ended table event outcome (refusal_number refusal))
      (sym (refused_stays table (event_thread event) number refusal)) (refuse_ended table event refusal))
      event (thread_status own.phase) (λ is. open_ended sound event))

  -- and on any other, where 11 comes first
  pub event_ended : (event : Event) → Ended table event (handle table event) (first_applies (refusals table event))
  unfolding handle
  event_ended event =
      rw (first_by_gate table event)
      (split (sound_of table) (λ sound. rw sound (sound_ended sound event))
      (λ unsound. rw (unsound, handle_shut table event false NotSound refl) (refuse_ended table event NotSound)))
