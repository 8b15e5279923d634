use Rattle.std.proofs.Common.{take, inl, inr, refl, sym, ◌∙◌, arith}
use Rattle.replay_text.specs.Text.{answer_text}
use Rattle.lock_engine.specs.declared.outcome.Outcome.{Outcome}
use Rattle.replay_lines.specs.Grammar.{read_line}
use Rattle.replay_lines.proofs.Lines.{line_fits, line_length, rest_shorter}
use Rattle.replay_parts.proofs.Turn.{going_first, going_stops}
use Rattle.program_state.proofs.OwnedState.{state_well_typed}
use Rattle.replay_stream.specs.Stream.{joined}
use Rattle.replay_stream.proofs.SoundSession.{well_typed_by}
use Rattle.replay_stream.proofs.NoEvent.{picked_some, picked_none}
use Rattle.replay_stream.proofs.StateInPlace.{EventDone, replayed, reported, lines_left, sound_stays}
use Rattle.replay_stream.proofs.Turned.{taken_by_parts, next_line, next_silent}
use Rattle.replay_stream.proofs.feeding.take_lines.Goals as goal
use Rattle.replay_stream.proofs.feeding.take_lines.Goals.{else-loop-out-test, then-loop-out-test+then-end-eq0}

pub loop-out-init : goal.loop-out-init
loop-out-init c = (
  going_first _ _ _ _,
  c.session_sound-issound.ensures,
  well_typed_by c.args.start.session.stage (state_well_typed c.args.start _ c.well_formed.0),
)

-- the loop stops for want of room, or of a whole line
pub returns : goal.returns
returns c =
    rw (c.progressed.ensures, c.joined.ensures)
    (λ last goes_on.
    going_stops c.loop-out.invariant.0
    (elim c.loop-out-test.branch [
      | else-loop-out-test w ↦ inl w.loop-out-test.false
      | then-loop-out-test+then-end-eq0 w ↦ inr (sym w.line_end-end.ensures ∙ w.if-end-eq0.true)
    ])
    c.requires goes_on)

pub slice_bounds-read_line-end : goal.slice_bounds-read_line-end
slice_bounds-read_line-end c = line_length c.line_end-end.result c.loop-out.rest.now c.line_end-end.ensures

pub slice_bounds-rest-count : goal.slice_bounds-rest-count
slice_bounds-rest-count c = line_fits c.line_end-end.result c.loop-out.rest.now c.line_end-end.ensures

pub slice_bounds-rest-start : goal.slice_bounds-rest-start
slice_bounds-rest-start c = line_fits c.line_end-end.result c.loop-out.rest.now c.line_end-end.ensures

-- the rest is shorter behind a line that was read
pub loop-out-smaller-in_default : goal.loop-out-smaller-in_default
loop-out-smaller-in_default c = rest_shorter c.line_end-end.result c.loop-out.rest.now c.line_end-end.ensures c.if-end-eq0.false

pub loop-out-smaller-then-reporting : goal.loop-out-smaller-then-reporting
loop-out-smaller-then-reporting c = rest_shorter c.line_end-end.result c.loop-out.rest.now c.line_end-end.ensures c.if-end-eq0.false

pub loop-out-smaller : goal.loop-out-smaller
loop-out-smaller c = rest_shorter c.line_end-end.result c.loop-out.rest.now c.line_end-end.ensures c.if-end-eq0.false

-- a line that is no event of a thread to be carried out in place
pub loop-out-preserved-in_default : goal.loop-out-preserved-in_default
loop-out-preserved-in_default c =
    let gave =
    taken_by_parts (joined c.args.start.reporting c.loop-out.stage c.loop-out.table c.loop-out.tally) c.loop-out.issound
    (picked_none _ _ (sym c.in_default.is ∙ c.event_in_place.ensures)) c.read_line-line.ensures
    c.line_reaction-reaction.ensures c.line_answer-said.ensures c.lines_after.ensures c.largest_after.ensures in
    next_line c.loop-out.invariant c.line_end-end.ensures c.if-end-eq0.false gave c.loop-out-test.true c.put_answer-wrote.ensures
    c.put_answer-wrote.auto.out (rw c.read_line-line.ensures at c.sound_after-issound.ensures)

-- the report has lines left to count
pub overflow_add-tally : goal.overflow_add-tally
overflow_add-tally c =
    let made = c.handle_in_place-done in
    let asked = picked_some _ _ (sym c.in-Some.is ∙ c.event_in_place.ensures) in
    let outcome : Outcome =
    record { table = made.new.table; reply = made.result.reply; commits = made.result.commits; unparked = made.result.unparked } in
    let done : EventDone c.loop-out.stage c.loop-out.table c.read_line-line.result (read_line (take c.line_end-end.result c.loop-out.rest.now))
    c.in-Some.event c.loop-out.issound c.event_thread-thread.result c.event_object-number.result outcome =
    record {
      carried = record {
        thread_is = c.event_thread-thread.ensures;
        number_is = rw c.thread_at-own.ensures at c.event_object-number.ensures;
        outcome_is = λ j. record {
          table = made.ensures.table j;
          reply = (made.ensures.done j).reply;
          commits = (made.ensures.done j).commits;
          unparked = (made.ensures.done j).unparked;
        };
      };
      read = c.read_line-line.ensures;
      asks = asked.1;
    } in
    let runs = asked.0 in
    let left = lines_left done c.loop-out.tally c.if-reporting.true runs in
    omega (arith, left)

-- it has counted the event
pub loop-out-preserved-then-reporting : goal.loop-out-preserved-then-reporting
unfolding answer_text
loop-out-preserved-then-reporting c =
    let made = c.handle_in_place-done in
    let asked = picked_some _ _ (sym c.in-Some.is ∙ c.event_in_place.ensures) in
    let outcome : Outcome =
    record { table = made.new.table; reply = made.result.reply; commits = made.result.commits; unparked = made.result.unparked } in
    let done : EventDone c.loop-out.stage c.loop-out.table c.read_line-line.result (read_line (take c.line_end-end.result c.loop-out.rest.now))
    c.in-Some.event c.loop-out.issound c.event_thread-thread.result c.event_object-number.result outcome =
    record {
      carried = record {
        thread_is = c.event_thread-thread.ensures;
        number_is = rw c.thread_at-own.ensures at c.event_object-number.ensures;
        outcome_is = λ j. record {
          table = made.ensures.table j;
          reply = (made.ensures.done j).reply;
          commits = (made.ensures.done j).commits;
          unparked = (made.ensures.done j).unparked;
        };
      };
      read = c.read_line-line.ensures;
      asks = asked.1;
    } in
    let runs = asked.0 in
    rw (
      c.with_enter-tally.ensures,
      c.with_enter.ensures,
      c.way_finished-way.ensures,
      c.thread_at-own.ensures,
      c.object_at-word.ensures,
      c.from.ensures,
      c.returned.ensures,
      c.object_place-home.ensures,
    )
    (next_silent c.loop-out.invariant c.line_end-end.ensures c.if-end-eq0.false (reported done c.loop-out.tally c.if-reporting.true runs) refl
    (sound_stays done c.loop-out.tally _ runs))

-- the replay has printed it
pub loop-out-preserved : goal.loop-out-preserved
loop-out-preserved c =
    let made = c.handle_in_place-done in
    let asked = picked_some _ _ (sym c.in-Some.is ∙ c.event_in_place.ensures) in
    let outcome : Outcome =
    record { table = made.new.table; reply = made.result.reply; commits = made.result.commits; unparked = made.result.unparked } in
    let done : EventDone c.loop-out.stage c.loop-out.table c.read_line-line.result (read_line (take c.line_end-end.result c.loop-out.rest.now))
    c.in-Some.event c.loop-out.issound c.event_thread-thread.result c.event_object-number.result outcome =
    record {
      carried = record {
        thread_is = c.event_thread-thread.ensures;
        number_is = rw c.thread_at-own.ensures at c.event_object-number.ensures;
        outcome_is = λ j. record {
          table = made.ensures.table j;
          reply = (made.ensures.done j).reply;
          commits = (made.ensures.done j).commits;
          unparked = (made.ensures.done j).unparked;
        };
      };
      read = c.read_line-line.ensures;
      asks = asked.1;
    } in
    let runs = asked.0 in
    next_line c.loop-out.invariant c.line_end-end.ensures c.if-end-eq0.false
    (replayed done c.loop-out.tally c.if-reporting.false runs c.event_answer.ensures) c.loop-out-test.true
    c.put_answer-wrote-else-reporting.ensures c.put_answer-wrote-else-reporting.auto.out (sound_stays done c.loop-out.tally _ runs)
