-- A run as its loop carries it out: one table, tested for soundness once and changed event by event, in place of the bytes that each event leaves.
use Prim.Native.Nat.{ℕ, suc, ◌+◌, ◌-◌, ◌*◌, ◌/◌, ◌≤◌, ◌<◌}
use mathlib.Core.Path.{◌≡◌, refl, sym, ap, ◌∙◌, subst}
use mathlib.Core.Bool.{Bool, true, false}
use mathlib.Core.List.{List, [], ◌∷◌, append_assoc}
use native.Mathlib.Omega.{arith}
use native.Mathlib.Numerals.{add-one}
use Rattle.std.specs.Prelude.{min}
use lib.Dec.{ltb}
use lib.ListN.{length, set, take, drop}
use lib.Seq.{set_split, paste-zero}
use Rattle.laws.specs.Choice.{pick, both, either}
use Rattle.laws.proofs.Choice.{split, both_first, both_second, false≢true, Below, below}
use Rattle.lock_rules.specs.Numbers.{refusal_number}
use Rattle.lock_rules.specs.declared.event.Event.{Event}
use Rattle.lock_rules.specs.declared.event.Refusal.TheVariants.{NotSound}
use Rattle.event_bytes.specs.Encoding.{event_size, event_at, events_from}
use Rattle.event_bytes.proofs.Encoding.{events_next, events_end}
use Rattle.lock_table.specs.WellTyped.{WellTyped}
use Rattle.lock_table.specs.declared.record.Table.{Table}
use Rattle.lock_soundness.specs.Sound.{sound_of}
use Rattle.lock_engine.specs.Handle.{handle_trusting, handle}
use Rattle.lock_engine.specs.Outcome.{reply_returned, reply_woken}
use Rattle.lock_engine.specs.declared.outcome.Outcome.{Outcome}
use Rattle.lock_engine.proofs.Refused.{refusing, handle_shut}
use Rattle.lock_schedule.proofs.Theorem.{sound_kept, well_typed_kept}
use Rattle.table_bytes.specs.{Rows.overwritten, Writing.bytes_of}
use Rattle.table_bytes.specs.Reading.{AreBytes, table_of, is_table}
use Rattle.table_bytes.proofs.{Parts.overwritten_next, SameBytes.bytes_back}
use Rattle.table_bytes.proofs.Written.{kept_is, table_long}
use Rattle.table_bytes.proofs.ReadBack.{bytes_table, read_back}
use Rattle.event_bytes.specs.Answer.{packed_of}
use Rattle.lock_engine_c.specs.Calls.{not_sound, outcome_answer, event_answer, event_bytes, reply_changes, stored_over}
use Rattle.lock_engine_c.specs.Run.{run_count, run_events, handle_answer, handle_bytes, run_answers, run_bytes}
use Rattle.lock_engine_c.proofs.RefusedBytes.{read_well_typed, unchanged_same}

-- there are as many events and as much room
pub count_is : (events answers : ℕ) → min (events / event_size) answers ≡ run_count events answers
unfolding run_count
count_is events answers = at (ltb answers (events / event_size)) (below answers (events / event_size))
  where
    at : (less : Bool) → Below less answers (events / event_size) → min (events / event_size) answers ≡ pick less answers (events / event_size)
    at true less = omega (arith, less)
    at false more = omega (arith, more)

-- an answer stored
answer_stored : (done answer : ℕ) (rest answers : List ℕ) → done < length answers
    → overwritten done (answer ∷ rest) answers ≡ overwritten (done + 1) rest (set answers done answer)
answer_stored done answer rest answers room =
    let one : set answers done answer ≡ overwritten done (answer ∷ []) answers =
    set_split answers done answer room ∙ rw (add-one done) (sym (append_assoc (take done answers) (answer ∷ []) (drop (suc done) answers))) in
    sym (ap (overwritten (done + 1) rest) one ∙ overwritten_next done (answer ∷ []) rest answers (omega (arith, room)))

-- a table that is not sound refuses every event
refuses : (table : Table) (event : Event) → handle_trusting table event false ≡ refusing table NotSound
refuses table event = handle_shut table event false NotSound refl

refusing_answer : (table : Table) → outcome_answer (refusing table NotSound) ≡ not_sound
unfolding packed_of reply_returned reply_woken refusal_number
refusing_answer table = refl

module _ (bytes : List ℕ) where
  -- the bytes as they would be now
  abbrev pub bytes_now : Table → List ℕ
  bytes_now table = pick (is_table bytes) (bytes_of table) bytes

  table_now : (table : Table) → is_table bytes ≡ true → bytes_now table ≡ bytes_of table
  table_now table known = ap (λ (b : Bool). pick b (bytes_of table) bytes) known

  same_now : (table : Table) → is_table bytes ≡ false → bytes_now table ≡ bytes
  same_now table unknown = ap (λ (b : Bool). pick b (bytes_of table) bytes) unknown

  -- one event, trusted as the run trusts the table
  module _ (table : Table) (typed : WellTyped table) (event : Event) where
    abbrev trusted : Bool
    trusted = both (is_table bytes) (sound_of table)

    abbrev outcome : Outcome
    outcome = handle_trusting table event trusted

    refused : trusted ≡ false → outcome ≡ refusing table NotSound
    refused unsound = ap (handle_trusting table event) unsound ∙ refuses table event

    no_table : is_table bytes ≡ false → outcome ≡ refusing table NotSound
    no_table unknown = refused (ap (λ (b : Bool). both b (sound_of table)) unknown)

    handled : is_table bytes ≡ true → outcome ≡ handle table event
    unfolding handle
    handled known = ap (λ (b : Bool). handle_trusting table event (both b (sound_of table))) known

    back : table_of (bytes_of table) ≡ table
    back = read_back table typed.threads typed.objects

    pub answer_is : outcome_answer outcome ≡ handle_answer (bytes_now table) event
    answer_is =
        split (is_table bytes)
        (λ known. ap outcome_answer (handled known)
        ∙ sym (ap (λ (b : List ℕ). handle_answer b event) (table_now table known) ∙ (λ j. event_answer (bytes_table table j) (handle (back j) event))))
        (λ unknown. ap outcome_answer (no_table unknown) ∙ refusing_answer table
        ∙ sym (ap (λ (b : List ℕ). handle_answer b event) (same_now table unknown) ∙ ap (λ (b : Bool). event_answer b (handle (table_of bytes) event)) unknown))

    pub bytes_are : bytes_now outcome.table ≡ handle_bytes (bytes_now table) event
    bytes_are =
        split (is_table bytes)
        (λ known. table_now outcome.table known ∙ ap (λ (o : Outcome). bytes_of o.table) (handled known)
        ∙ sym (ap (λ (b : List ℕ). handle_bytes b event) (table_now table known) ∙ (λ j. event_bytes (bytes_table table j) (bytes_of table) (handle (back j) event))))
        (λ unknown. same_now outcome.table unknown
        ∙ sym (ap (λ (b : List ℕ). handle_bytes b event) (same_now table unknown) ∙ ap (λ (b : Bool). event_bytes b bytes (handle (table_of bytes) event)) unknown))

    pub trusted_after : trusted ≡ both (is_table bytes) (sound_of outcome.table)
    trusted_after =
        split trusted
        (λ yes.
        let known = both_first (is_table bytes) (sound_of table) yes in
        let sound = both_second (is_table bytes) (sound_of table) yes in
        yes ∙ sym (λ j. both (known j) ((ap (λ (o : Outcome). sound_of o.table) (handled known) ∙ sound_kept table typed sound event) j)))
        (λ unsound. ap (λ (o : Outcome). both (is_table bytes) (sound_of o.table)) (sym (refused unsound)))

    pub whole_after : WellTyped outcome.table
    whole_after =
        split trusted
        (λ yes.
        let known = both_first (is_table bytes) (sound_of table) yes in
        let sound = both_second (is_table bytes) (sound_of table) yes in
        subst (λ (o : Outcome). WellTyped o.table) (sym (handled known)) (well_typed_kept table typed sound event))
        (λ unsound. subst (λ (o : Outcome). WellTyped o.table) (sym (refused unsound)) typed)

    pub unchanged_after : reply_changes outcome.reply ≡ false → outcome.table ≡ table
    unchanged_after =
        split (is_table bytes)
        (λ known. subst (λ (o : Outcome). reply_changes o.reply ≡ false → o.table ≡ table) (sym (handled known)) (unchanged_same table typed event))
        (λ unknown none. ap (λ (o : Outcome). o.table) (no_table unknown))

    pub none_changes : is_table bytes ≡ false → reply_changes outcome.reply ≡ false
    unfolding reply_changes
    none_changes unknown = ap (λ (o : Outcome). reply_changes o.reply) (no_table unknown)

  module _ (events first : List ℕ) where
    abbrev count : ℕ
    count = run_count (length events) (length first)

    -- the events that are left, from the bytes as they would be now, give what the whole run gives
    pub record Running (issound : Bool) (table : Table) (changed : Bool) (done : ℕ) (answers : List ℕ) : Type 0 where
      pub typed : WellTyped table
      pub sound_is : issound ≡ both (is_table bytes) (sound_of table)
      pub unchanged : changed ≡ false → table ≡ table_of bytes
      pub no_table : is_table bytes ≡ false → changed ≡ false
      pub bytes_left : run_bytes bytes (run_events events first) ≡ run_bytes (bytes_now table) (events_from (count - done) events (done * event_size))
      pub answers_left : overwritten 0 (run_answers bytes (run_events events first)) first
          ≡ overwritten done (run_answers (bytes_now table) (events_from (count - done) events (done * event_size))) answers

    first_bytes : AreBytes bytes → bytes ≡ bytes_now (table_of bytes)
    first_bytes small =
        split (is_table bytes) (λ known. sym (table_now (table_of bytes) known ∙ bytes_back bytes small known)) (λ unknown. sym (same_now (table_of bytes) unknown))

    pub run_starts : {issound : Bool} {table : Table} → AreBytes bytes → table ≡ table_of bytes → issound ≡ both (is_table bytes) (sound_of table)
        → Running issound table false 0 first
    run_starts {issound} {table} small read sound =
        let all : count ≡ count - 0 = omega arith in
        let bytes_same : bytes ≡ bytes_now table = first_bytes small ∙ ap bytes_now (sym read) in
        record {
          typed = subst WellTyped (sym read) (read_well_typed bytes small);
          sound_is = sound;
          unchanged = λ none. read;
          no_table = λ unknown. refl;
          bytes_left = λ j. run_bytes (bytes_same j) (events_from (all j) events 0);
          answers_left = λ j. overwritten 0 (run_answers (bytes_same j) (events_from (all j) events 0)) first;
        }

    module _ {issound : Bool} {table : Table} {changed : Bool} {done : ℕ} {answers : List ℕ}
        (running : Running issound table changed done answers) where
      pub run_goes_on : {event : Event} {outcome : Outcome} {answer : ℕ} {changes : Bool} → done < count → done < length answers
          → event ≡ event_at events (done * event_size) → outcome ≡ handle_trusting table event issound → answer ≡ outcome_answer outcome
          → changes ≡ either changed (reply_changes outcome.reply)
          → Running issound outcome.table changes (done + 1) (set answers done answer)
      unfolding run_bytes run_answers
      run_goes_on {event} {outcome} {answer} {changes} more room is gave answered changes_are =
          let before = running.typed in
          let same : outcome ≡ handle_trusting table event (both (is_table bytes) (sound_of table)) = gave ∙ ap (handle_trusting table event) running.sound_is in
          let fewer : count - done - 1 ≡ count - (done + 1) = omega arith in
          let after_it : done * event_size + event_size ≡ (done + 1) * event_size = omega arith in
          let next : events_from (count - done) events (done * event_size) ≡ event ∷ events_from (count - (done + 1)) events ((done + 1) * event_size) =
          events_next (omega (arith, more)) events (done * event_size) ∙ λ j. sym is j ∷ events_from (fewer j) events (after_it j) in
          let after : handle_bytes (bytes_now table) event ≡ bytes_now outcome.table =
          sym (bytes_are table before event) ∙ ap (λ (o : Outcome). bytes_now o.table) (sym same) in
          let said : handle_answer (bytes_now table) event ≡ answer =
          sym (answer_is table before event) ∙ ap outcome_answer (sym same) ∙ sym answered in
          record {
            typed = subst (λ (o : Outcome). WellTyped o.table) (sym same) (whole_after table before event);
            sound_is = running.sound_is ∙ trusted_after table before event ∙ ap (λ (o : Outcome). both (is_table bytes) (sound_of o.table)) (sym same);
            unchanged = λ none. stays same changes_are none;
            no_table = λ unknown. changes_are
                ∙ (λ j. either (running.no_table unknown j) ((ap (λ (o : Outcome). reply_changes o.reply) same ∙ none_changes table before event unknown) j));
            bytes_left = running.bytes_left ∙ ap (run_bytes (bytes_now table)) next
                ∙ ap (λ (b : List ℕ). run_bytes b (events_from (count - (done + 1)) events ((done + 1) * event_size))) after;
            answers_left = running.answers_left ∙ ap (λ (es : List Event). overwritten done (run_answers (bytes_now table) es) answers) next
                ∙ (λ j. overwritten done (said j ∷ run_answers (after j) (events_from (count - (done + 1)) events ((done + 1) * event_size))) answers)
                ∙ answer_stored done answer (run_answers (bytes_now outcome.table) (events_from (count - (done + 1)) events ((done + 1) * event_size))) answers room;
          }
        where
          stays : outcome ≡ handle_trusting table event (both (is_table bytes) (sound_of table)) → changes ≡ either changed (reply_changes outcome.reply)
              → changes ≡ false → outcome.table ≡ table_of bytes
          stays same are none = at_first changed (reply_changes outcome.reply) (sym are ∙ none) refl refl
            where
              at_first : (x y : Bool) → either x y ≡ false → changed ≡ x → reply_changes outcome.reply ≡ y → outcome.table ≡ table_of bytes
              at_first false false e cx cy =
                  ap (λ (o : Outcome). o.table) same
                  ∙ unchanged_after table running.typed event (sym (ap (λ (o : Outcome). reply_changes o.reply) same) ∙ cy) ∙ running.unchanged cx
              at_first false true e cx cy = false≢true (sym e)
              at_first true y e cx cy = false≢true (sym e)

      pub run_ends : AreBytes bytes → count ≤ done → (stored_over changed bytes table ≡ run_bytes bytes (run_events events first))
          × (answers ≡ overwritten 0 (run_answers bytes (run_events events first)) first)
      unfolding run_bytes run_answers stored_over
      run_ends small all =
          let none : events_from (count - done) events (done * event_size) ≡ [] = events_end (omega (arith, all)) events (done * event_size) in
          let now : bytes_now table ≡ run_bytes bytes (run_events events first) = sym (running.bytes_left ∙ ap (run_bytes (bytes_now table)) none) in (
            bytes_stored ∙ now,
            paste-zero answers done [] ∙ sym (running.answers_left ∙ ap (λ (es : List Event). overwritten done (run_answers (bytes_now table) es) answers) none),
          )
        where
          bytes_stored : stored_over changed bytes table ≡ bytes_now table
          bytes_stored =
              split (is_table bytes)
              (λ known. rw known (split changed (λ yes. rw yes (kept_is bytes table (table_long bytes known)))
              (λ same. rw same (sym (ap bytes_of (running.unchanged same) ∙ bytes_back bytes small known)))))
              (λ unknown. rw (unknown, running.no_table unknown) refl)
