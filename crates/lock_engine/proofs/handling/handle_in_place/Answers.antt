-- What is left in the table's place, and given back beside it, is the outcome as defined.
use Rattle.std.proofs.Common.{◌∙◌, sym, ap}
use Rattle.lock_work.specs.WorkDone.{WorkDone}
use Rattle.lock_engine.specs.Handle.{done_of}
use Rattle.lock_engine.specs.declared.outcome.{Outcome.Outcome}
use Rattle.lock_engine.proofs.InPlace.{Taken, stored_so, worked_so}
use Rattle.lock_engine.proofs.handling.handle_in_place.Goals as goal

pub returns-then-work_stays : goal.returns-then-work_stays
returns-then-work_stays c =
    let taken : Taken c.args.table.now c.args.event c.args.issound c.event_thread-thread.result c.thread_place-place.result c.event_object-number.result
    c.object_place-home.result c.turn_with-turn.result = record {
      thread_is = c.event_thread-thread.ensures;
      place_is = c.thread_place-place.ensures;
      number_is = c.event_object-number.ensures;
      home_is = c.object_place-home.ensures;
      turn_is = c.turn_with-turn.ensures;
    } in
    let stored = stored_so taken (sym c.work_stays.ensures ∙ c.if-work_stays.true) in
    record { table = ap (λ (o : Outcome). o.table) stored; done = ap done_of stored }

pub returns-else-work_stays : goal.returns-else-work_stays
returns-else-work_stays c =
    let taken : Taken c.args.table.now c.args.event c.args.issound c.event_thread-thread.result c.thread_place-place.result c.event_object-number.result
    c.object_place-home.result c.turn_with-turn.result = record {
      thread_is = c.event_thread-thread.ensures;
      place_is = c.thread_place-place.ensures;
      number_is = c.event_object-number.ensures;
      home_is = c.object_place-home.ensures;
      turn_is = c.turn_with-turn.ensures;
    } in
    let done : WorkDone = record { table = c.work_done-unparked.new.table; unparked = c.work_done-unparked.result } in
    let worked = worked_so taken (sym c.work_stays.ensures ∙ c.if-work_stays.false) {done = done}
    (λ j. record { table = c.work_done-unparked.ensures.table j; unparked = c.work_done-unparked.ensures.unparked j }) in
    record { table = ap (λ (o : Outcome). o.table) worked; done = ap done_of worked }
