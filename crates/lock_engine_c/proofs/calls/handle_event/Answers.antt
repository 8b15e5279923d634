-- On a table, the answer is that of the event's turn on what the bytes say: nobody is unparked, or those that the work unparked.
use Rattle.std.proofs.Common.{◌≡◌, ◌∙◌, sym}
use Rattle.laws.specs.Choice.{pick}
use Rattle.lock_work.specs.Work.{work_stays}
use Rattle.lock_engine.specs.Handle.{work_done_of}
use Rattle.lock_engine_c.proofs.EventTurns.{turn_answers}
use Rattle.lock_engine_c.proofs.calls.handle_event.Goals as goal
use Rattle.lock_engine_c.proofs.calls.handle_event.Goals.{After-packed, then-work_stays+then-reply_changes, then-work_stays+else-reply_changes, else-work_stays}

unparks : (c : After-packed) → let turn = c.turn_with-turn.result in
    c.if-work_stays.unparked
    ≡ pick (work_stays turn.work) 0 (work_done_of c.read_table-table.result c.event_thread-thread.result c.event_object-number.result turn).unparked
unparks c =
    let stays = sym c.work_stays.ensures in
    elim c.if-work_stays.branch [
      | then-work_stays+then-reply_changes w ↦ w.unparked-is ∙ simp (stays ∙ w.if-work_stays.true)
      | then-work_stays+else-reply_changes w ↦ w.unparked-is ∙ simp (stays ∙ w.if-work_stays.true)
      | else-work_stays w ↦ w.unparked-is ∙ simp (w.work_done-unparked.ensures.unparked, stays ∙ w.if-work_stays.false)
    ]

pub returns-clause-value : goal.returns-clause-value
returns-clause-value c =
    let answers =
    turn_answers c.args.event c.read_table-table.ensures c.event_thread-thread.ensures c.read_thread-own.ensures c.event_object-number.ensures
    c.read_object-object.ensures c.sound-issound.ensures c.turn_with-turn.ensures in
    simp (c.packed.ensures.value, c.woken.ensures, c.returned.ensures, sym c.is_table.ensures, c.if-not-is_table.false, unparks c) answers
