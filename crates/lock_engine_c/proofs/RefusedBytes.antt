-- A refused event leaves the caller's bytes as they were, all of them, whether they are a table or not; but for 18 and 19, which make the thread idle.
-- So the code need not write them, and what it makes of them is what the contract says.
use Prim.Native.Nat.{ℕ, ◌≤◌, ◌<◌, ◌+◌, ◌-◌, ◌%◌}
use mathlib.Core.Path.{◌≡◌, refl, sym, ap, ◌∙◌}
use mathlib.Core.Bool.{Bool, true, false}
use mathlib.Core.List.{List}
use native.Mathlib.Omega.{arith}
use lib.Dec.{eqb, ltb}
use borrow.Author.Tests.{ne_eqb}
use Rattle.laws.specs.Choice.{either}
use Rattle.laws.proofs.Choice.{split, by_test, false≢true}
use Rattle.laws.proofs.Sequence.{tabulate_every}
use Rattle.lock_rules.specs.Numbers.{refusal_number}
use Rattle.lock_rules.proofs.RefusalNumbers.{of_gate}
use Rattle.lock_rules.specs.Gate.{event_thread}
use Rattle.lock_rules.specs.declared.event.{Event.Event, Refusal.Refusal}
use Rattle.lock_rules.specs.declared.event.Event.TheVariants.{Begin, Step, Tick}
use Rattle.lock_rules.specs.declared.Answer.TheVariants.{GoneOn, Finished, Parked, NotOwner, TooDeep, NoRule}
use Rattle.lock_table.specs.Limits.{object_limit}
use Rattle.lock_word.specs.Depth.{depth_limit}
use Rattle.lock_table.specs.Record.{no_object, idle}
use Rattle.lock_table.specs.Access.{thread_at, object_at, set_thread}
use Rattle.lock_table.specs.{Narrow.narrow_of, WellTyped.WellTyped}
use Rattle.lock_table.specs.declared.record.{ObjectRecord.ObjectRecord, Table.Table}
use Rattle.lock_engine.specs.Outcome.{reply_returned, reply_woken}
use Rattle.lock_work.specs.Work.{work_stays}
use Rattle.lock_engine.specs.Handle.{work_done_of, handle_trusting, handle}
use Rattle.lock_engine.proofs.Full.{full_thread}
use Rattle.lock_engine.proofs.Narrow.{narrow_begin, narrow_step}
use Rattle.lock_engine.specs.declared.outcome.{Reply.Reply, Outcome.Outcome}
use Rattle.lock_engine.specs.declared.outcome.Reply.TheVariants.{Accepted, Refused, Answered}
use Rattle.lock_refusals.specs.Demand.{returned, left_by, Leaves}
use Rattle.lock_refusals.proofs.Theorem.{demand_one}
use Rattle.lock_refusals.proofs.Interpreter.{refused_carry_none}
use Rattle.table_bytes.specs.Layout.{object_start}
use Rattle.table_bytes.specs.Reading.{AreBytes, object_from, enough, table_of, is_table}
use Rattle.table_bytes.specs.Writing.{bytes_of, write_thread}
use Rattle.table_bytes.proofs.Written.{kept_is, table_long}
use Rattle.table_bytes.proofs.SameBytes.{bytes_back}
use Rattle.table_bytes.proofs.Enough.{enough_bytes}
use Rattle.table_bytes.proofs.SetRecords.{thread_written, object_written}
use Rattle.lock_engine_c.proofs.FullTables.{read_full}
use Rattle.event_bytes.specs.Answer.{set_unit, packed_of, returned_in}
use Rattle.lock_engine_c.specs.Calls.{RefusedTo, outcome_answer, event_answer, event_bytes, left_bytes, RefusedLeaves, begun_on, ticked_on}
use Rattle.lock_engine_c.specs.Calls.{stepped_on, answer_changes, reply_changes, event_number, event_turn, store_turn, event_over}

abbrev DepthFits : ObjectRecord → Type 0
DepthFits object = object.monitor.depth ≤ depth_limit

-- bytes say no depth above 16 bits
pub read_well_typed : (bytes : List ℕ) → AreBytes bytes → WellTyped (table_of bytes)
unfolding object_at
read_well_typed bytes small =
    let said = enough bytes in
    let fits = enough_bytes bytes small in
    let depth : (place : ℕ) → DepthFits (object_from said place) = λ place.
    let low = fits (object_start place + 6) in
    let high = fits (object_start place + 7) in omega (arith, low, high) in
    record {
      threads = (read_full bytes).threads;
      objects = (read_full bytes).objects;
      depths = λ o.
          by_test DepthFits (eqb o 0) (λ none. omega arith)
          (λ some. by_test DepthFits (ltb object_limit o) (λ past. omega arith)
          (λ inside. tabulate_every object_limit (object_from said) DepthFits depth no_object (omega arith) (o - 1)));
    }

-- a reply that goes with no change is a refusal, and not 18 or 19; every number fits a byte
refused_plainly : (refusal : Refusal) → let number = refusal_number refusal in (11 ≤ number) × (either (eqb number 18) (eqb number 19) ≡ false)
refused_plainly refusal =
    let numbers = of_gate refusal in
    (numbers.high, rw (ne_eqb (refusal_number refusal) 18 numbers.owner, ne_eqb (refusal_number refusal) 19 numbers.shallow) refl)

unchanged_number : (reply : Reply) → reply_changes reply ≡ false
    → let number = reply_returned reply in (11 ≤ number) × (either (eqb number 18) (eqb number 19) ≡ false)
unfolding reply_changes answer_changes reply_returned
unchanged_number Accepted same = false≢true (sym same)
unchanged_number (Refused refusal) same = refused_plainly refusal
unchanged_number (Answered GoneOn) same = false≢true (sym same)
unchanged_number (Answered (Finished woken)) same = false≢true (sym same)
unchanged_number (Answered Parked) same = false≢true (sym same)
unchanged_number (Answered NotOwner) same = false≢true (sym same)
unchanged_number (Answered TooDeep) same = false≢true (sym same)
unchanged_number (Answered NoRule) same = (omega arith, refl)

-- so a reply that goes with no change goes with the same table
pub unchanged_same : (table : Table) → WellTyped table → (event : Event) → reply_changes (handle table event).reply ≡ false → (handle table event).table ≡ table
unchanged_same table typed event unchanged =
    let (refused, ordinary) = unchanged_number (handle table event).reply unchanged in
    at event ordinary ((demand_one table typed event).1 refused)
  where
    at : (kind : Event) → let outcome = handle table event in
        either (eqb (returned outcome) 18) (eqb (returned outcome) 19) ≡ false → outcome.table ≡ left_by (returned outcome) table kind → outcome.table ≡ table
    at (Begin operation thread object limit) ordinary same = same
    at (Step thread) ordinary same = rw ordinary at same
    at Tick ordinary same = same

number_small : (reply : Reply) → reply_returned reply < 256
unfolding reply_returned
number_small Accepted = omega arith
number_small (Refused refusal) = (of_gate refusal).small
number_small (Answered GoneOn) = omega arith
number_small (Answered (Finished woken)) = omega arith
number_small (Answered Parked) = omega arith
number_small (Answered NotOwner) = omega arith
number_small (Answered TooDeep) = omega arith
number_small (Answered NoRule) = omega arith

packed_number : (returned woken : ℕ) (commits : Bool) (unparked : ℕ) → returned < 256 → packed_of returned woken commits unparked % 256 ≡ returned
unfolding packed_of
packed_number returned woken true unparked small = omega (arith, small)
packed_number returned woken false unparked small = omega (arith, small)

outcome_number : (outcome : Outcome) → returned_in (outcome_answer outcome) ≡ returned outcome
outcome_number outcome =
    packed_number (returned outcome) (reply_woken outcome.reply) outcome.commits outcome.unparked (number_small outcome.reply)

-- a refusal goes with the woken number 0, and its number alone lies below the set
refused_woken : (reply : Reply) → 11 ≤ reply_returned reply → reply_woken reply ≡ 0
unfolding reply_returned reply_woken
refused_woken Accepted high = refl
refused_woken (Refused refusal) high = refl
refused_woken (Answered GoneOn) high = refl
refused_woken (Answered (Finished woken)) high = absurd (omega (arith, high))
refused_woken (Answered Parked) high = refl
refused_woken (Answered NotOwner) high = refl
refused_woken (Answered TooDeep) high = refl
refused_woken (Answered NoRule) high = refl

packed_alone : (returned : ℕ) (commits : Bool) → returned < 256 → packed_of returned 0 commits 0 < set_unit
unfolding packed_of
packed_alone returned true small = omega (arith, small)
packed_alone returned false small = omega (arith, small)

module _ (bytes : List ℕ) (small : AreBytes bytes) where
  abbrev table : Table
  table = table_of bytes

  left : (event : Event) → Leaves table event (handle table event)
  left event = (demand_one table (read_well_typed bytes small) event).1

  -- what the code writes is what the contract says
  turn_stored : is_table bytes ≡ true → (event : Event)
      → let turn = event_turn table event in
      store_turn bytes table (event_thread event) (event_number table event) turn (reply_changes turn.reply) ≡ bytes_of (handle table event).table
  unfolding store_turn handle handle_trusting
  turn_stored known event =
      let turn = event_turn table event in
      let number = event_number table event in
      let own = thread_written bytes table (sym (bytes_back bytes small known)) (event_thread event) (read_full bytes).threads turn.own in
      let full = full_thread (event_thread event) turn.own (read_full bytes) in
      split (work_stays turn.work)
      (λ stay. rw stay (split (reply_changes turn.reply)
      (λ changed. rw changed (object_written (write_thread bytes (event_thread event) turn.own) (set_thread table (event_thread event) turn.own) own number full.objects turn.object))
      (λ unchanged. rw unchanged (rw stay at (sym (ap bytes_of (unchanged_same table (read_well_typed bytes small) event unchanged) ∙ bytes_back bytes small known))))))
      (λ work. rw work (kept_is bytes (work_done_of table (event_thread event) number turn).table (table_long bytes known)))

  pub event_stored : (event : Event) → event_over (is_table bytes) bytes table event ≡ event_bytes (is_table bytes) bytes (handle table event)
  event_stored event = split (is_table bytes) (λ known. rw known (turn_stored known event)) (λ unknown. rw unknown refl)

  pub refused_left : (thread : ℕ) → let outcome = handle table (Step thread) in
      11 ≤ returned_in (event_answer (is_table bytes) outcome)
      → event_bytes (is_table bytes) bytes outcome ≡ left_bytes (returned_in (event_answer (is_table bytes) outcome)) bytes thread
  unfolding refusal_number
  refused_left thread =
      let outcome = handle table (Step thread) in
      split (is_table bytes)
      (λ known. rw known (rw (outcome_number outcome) (λ refused. ap bytes_of (left (Step thread) refused) ∙ kinds known (returned outcome))))
      (λ unknown. rw unknown (λ refused. refl))
    where
      kinds : is_table bytes ≡ true → (number : ℕ) → bytes_of (left_by number table (Step thread)) ≡ left_bytes number bytes thread
      kinds known number =
          split (either (eqb number 18) (eqb number 19))
          (λ ends. rw ends (sym (thread_written bytes table (sym (bytes_back bytes small known)) thread (read_full bytes).threads (idle (thread_at table thread)))))
          (λ other. rw other (bytes_back bytes small known))

  -- the answer of a refused event carries no set
  pub refused_alone : (event : Event) → let answer = event_answer (is_table bytes) (handle table event) in 11 ≤ returned_in answer → answer < set_unit
  unfolding refusal_number
  refused_alone event =
      let outcome = handle table event in
      split (is_table bytes)
      (λ known. rw known (rw (outcome_number outcome) (λ refused. rw (refused_carry_none table (read_well_typed bytes small) event refused, refused_woken outcome.reply refused)
      (packed_alone (returned outcome) outcome.commits (number_small outcome.reply)))))
      (λ unknown. rw unknown (λ refused. omega arith))

  -- an outcome that leaves the table where it is refused, with neither 18 nor 19
  left_whole : (outcome : Outcome) → (11 ≤ returned outcome → outcome.table ≡ table)
      → 11 ≤ returned_in (event_answer (is_table bytes) outcome) → event_bytes (is_table bytes) bytes outcome ≡ bytes
  left_whole outcome leaves =
      split (is_table bytes)
      (λ known. rw known (rw (outcome_number outcome) (λ refused. ap bytes_of (leaves refused) ∙ bytes_back bytes small known)))
      (λ unknown. rw unknown (λ refused. refl))

  -- both, of a refused event
  both_so : {left after : List ℕ} {answer : ℕ} → (11 ≤ returned_in answer → after ≡ left) → (11 ≤ returned_in answer → answer < set_unit) → RefusedTo left after answer
  both_so leaves alone refused = (leaves refused, alone refused)

  -- what the calls promise, from what their code answers and writes of the numbers made narrow
  pub begin_promised : (thread operation object limit answer : ℕ) (after : List ℕ)
      → let narrowed = Begin (narrow_of operation) (narrow_of thread) (narrow_of object) limit in
      let outcome = begun_on bytes thread operation object limit in
      answer ≡ event_answer (is_table bytes) (handle table narrowed) → after ≡ event_over (is_table bytes) bytes table narrowed
      → (after ≡ event_bytes (is_table bytes) bytes outcome) × RefusedTo bytes after answer
  begin_promised thread operation object limit answer after answers stores =
      let outcome = begun_on bytes thread operation object limit in
      let same = narrow_begin table thread operation object limit in
      let answered : answer ≡ event_answer (is_table bytes) outcome = answers ∙ ap (event_answer (is_table bytes)) same in
      let written : after ≡ event_bytes (is_table bytes) bytes outcome =
      stores ∙ event_stored (Begin (narrow_of operation) (narrow_of thread) (narrow_of object) limit) ∙ ap (event_bytes (is_table bytes) bytes) same in (
        written,
        both_so (rw (answered, written) (left_whole outcome (left (Begin operation thread object limit))))
            (rw answers (refused_alone (Begin (narrow_of operation) (narrow_of thread) (narrow_of object) limit))),
      )

  pub step_promised : (thread answer : ℕ) (after : List ℕ) → let outcome = stepped_on bytes thread in
      answer ≡ event_answer (is_table bytes) (handle table (Step (narrow_of thread))) → after ≡ event_over (is_table bytes) bytes table (Step (narrow_of thread))
      → (after ≡ event_bytes (is_table bytes) bytes outcome) × RefusedLeaves bytes thread after answer
  step_promised thread answer after answers stores =
      let outcome = stepped_on bytes thread in
      let same = narrow_step table thread in
      let answered : answer ≡ event_answer (is_table bytes) outcome = answers ∙ ap (event_answer (is_table bytes)) same in
      let written : after ≡ event_bytes (is_table bytes) bytes outcome =
      stores ∙ event_stored (Step (narrow_of thread)) ∙ ap (event_bytes (is_table bytes) bytes) same in
      (written, both_so (rw (answered, written) (refused_left thread)) (rw answers (refused_alone (Step (narrow_of thread)))))

  pub tick_promised : (answer : ℕ) (after : List ℕ) → let outcome = ticked_on bytes in
      answer ≡ event_answer (is_table bytes) outcome → after ≡ event_over (is_table bytes) bytes table Tick
      → (after ≡ event_bytes (is_table bytes) bytes outcome) × RefusedTo bytes after answer
  tick_promised answer after answers stores =
      let outcome = ticked_on bytes in
      let written : after ≡ event_bytes (is_table bytes) bytes outcome = stores ∙ event_stored Tick in
      (written, both_so (rw (answers, written) (left_whole outcome (left Tick))) (rw answers (refused_alone Tick)))
