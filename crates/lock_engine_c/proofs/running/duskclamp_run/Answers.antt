-- What is still to run gives what the whole run gives: before the loop, after an event, and at the end.
use Rattle.std.proofs.Common.{ℕ, List, [], get_or, ◌/◌, ◌≡◌, ◌∙◌, ap, sym, length, arith, rules}
use Rattle.event_bytes.specs.Encoding.{event_size, event_at}
use Rattle.event_bytes.proofs.Chunks.{chunk_event}
use Rattle.lock_engine_c.specs.Run.{run_count}
use Rattle.laws.specs.Choice.{both, either}
use Rattle.lock_engine.specs.declared.outcome.Outcome.{Outcome}
use Rattle.table_bytes.specs.Reading.{AreBytes, is_table}
use Rattle.lock_soundness.specs.Sound.{sound_of}
use Rattle.lock_engine_c.proofs.Runs.{count_is, run_starts, run_goes_on, run_ends}
use Rattle.lock_engine_c.proofs.running.duskclamp_run.Goals as goal
use Rattle.lock_engine_c.proofs.running.duskclamp_run.Goals.{then-is_table, else-is_table}

pub loop-done-init : goal.loop-done-init
loop-done-init c =
    let given = c.args in
    let small : AreBytes given.bytes.now = search rules in
    let count : c.min-count.result ≡ run_count (length given.events.now) (length given.answers.now) =
    (rw c.as_chunks.ensures.front_len at c.min-count.ensures) ∙ count_is (length given.events.now) (length given.answers.now) in
    let issound : c.if-is_table.issound ≡ both (is_table given.bytes.now) (sound_of c.read_table-table.result) =
    elim c.if-is_table.branch [
      | then-is_table w ↦ rw (sym c.is_table.ensures ∙ w.if-is_table.true) (w.issound-is ∙ w.sound-issound.ensures)
      | else-is_table w ↦ rw (sym c.is_table.ensures ∙ w.if-is_table.false) (w.issound-is ∙ w.if-is_table.false)
    ] in
    record {
      small = small;
      count_is = count;
      room = omega (arith, c.min-count.ensures);
      running = run_starts given.bytes.now given.events.now given.answers.now small c.read_table-table.ensures
          issound;
    }

pub loop-done-preserved : goal.loop-done-preserved
loop-done-preserved c =
    let loop = c.loop-done in
    let kept = loop.invariant in
    let test = c.loop-done-test.true in
    let made = c.handle_in_place-made in
    let outcome : Outcome =
    record { table = made.new.table; reply = made.result.reply; commits = made.result.commits; unparked = made.result.unparked } in
    record {
      small = kept.small;
      count_is = kept.count_is;
      room = kept.room;
      running = run_goes_on _ _ _ kept.running {outcome = outcome} (omega (arith, kept.count_is, test)) (omega (arith, kept.room, loop.auto.answers, test))
          (c.event_of-event.ensures ∙ ap (λ (chunks : List (List ℕ)). event_at (get_or chunks loop.done []) 0) c.as_chunks.ensures.front
          ∙ chunk_event (length c.args.events.now / event_size) c.args.events.now loop.done [] (omega (arith, test, rw c.as_chunks.ensures.front_len at c.min-count.ensures)))
          (λ j. record {
            table = made.ensures.table j;
            reply = (made.ensures.done j).reply;
            commits = (made.ensures.done j).commits;
            unparked = (made.ensures.done j).unparked;
          })
          (simp (c.packed.ensures.value, c.woken.ensures, c.returned.ensures))
          (λ j. either loop.changed (c.reply_changes-changed.ensures j));
    }

pub returns : goal.returns
returns c =
    let kept = c.loop-done.invariant in
    let (bytes, answers) = run_ends _ _ _ kept.running kept.small (omega (arith, kept.count_is, c.loop-done-test.false)) in
    record { value = kept.count_is; answers_after = answers; bytes_after = c.store.ensures ∙ bytes }
