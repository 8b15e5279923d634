-- Where somebody waits, what the object's turn leaves is its tick as defined.
use Rattle.std.proofs.Common.{◌∙◌, ◌+◌, ◌<◌, refl, ap}
use Rattle.lock_table.specs.Limits.{object_limit}
use Rattle.lock_perform.specs.Parting.{PartedChain}
use Rattle.lock_perform.specs.Queueing.{JoinedChain}
use Rattle.lock_work.specs.Tick.{tick_waited, behind, tick_to}
use Rattle.lock_work.specs.WorkDone.{WorkDone}
use Rattle.lock_work.proofs.InPlace.{waited_in_place, tick_skips, tick_takes}
use Rattle.lock_work.proofs.ticking.tick.Goals as goal

pub loop-done-init : goal.loop-done-init
unfolding tick_to
loop-done-init c = refl

pub loop-done-preserved-then-waiting-eq0 : goal.loop-done-preserved-then-waiting-eq0
loop-done-preserved-then-waiting-eq0 c =
    let loop = c.loop-done in
    loop.invariant
    ∙ tick_skips c.args.table.now loop.done c.loop-done-test.true
    (rw (ap (λ (done : WorkDone). done.table) loop.invariant, c.from-home.ensures) at c.if-waiting-eq0.true)

pub loop-done-preserved : goal.loop-done-preserved
loop-done-preserved c =
    let loop = c.loop-done in
    let table = c.args.table.now in
    let small : loop.done < object_limit = c.loop-done-test.true in
    let so_far : WorkDone = record { table = loop.table; unparked = loop.unparked } in
    let parted : PartedChain = record { table = c.part_waiters-parting.new.table; parting = c.part_waiters-parting.result } in
    let joined : JoinedChain = record { table = c.queue-first.new.table; first = c.queue-first.result } in
    rw c.from-home.ensures
    (ap (behind so_far)
    (waited_in_place loop.table loop.done small {parted = parted} {joined = joined} (rw c.from-home.ensures refl)
    (λ j. record { table = c.part_waiters-parting.ensures.table j; parting = c.part_waiters-parting.ensures.parting j })
    (λ j. record { table = c.queue-first.ensures.table j; first = c.queue-first.ensures.first j }) c.move_to_entry-monitor.ensures c.handing-work.ensures
    c.touched.ensures c.thread_place-place.ensures c.plan_at-planned.ensures c.with_monitor.ensures)
    ∙ (ap (λ (done : WorkDone). behind done (tick_waited done.table (loop.done + 1))) loop.invariant
    ∙ tick_takes table loop.done small (rw (ap (λ (done : WorkDone). done.table) loop.invariant, c.from-home.ensures) at c.if-waiting-eq0.false)))
