-- What is done before the threads join, and after it, is as defined.
use Rattle.std.proofs.Common.{◌≡◌, ◌∙◌, refl, sym, ap}
use borrow.Author.Tests.{eq-eqb, ne_eqb}
use lib.Dec.{eqb}
use Rattle.laws.specs.Choice.{pick}
use Rattle.lock_table.specs.Limits.{thread_limit}
use Rattle.lock_table.specs.Chain.{move_all}
use Rattle.lock_perform.specs.Queueing.{JoinedChain}
use Rattle.lock_work.specs.WorkDone.{WorkDone}
use Rattle.lock_work.proofs.Worked.{after_joining, work_in_place}
use Rattle.lock_work.proofs.settling.chains_done.Goals as goal
use Rattle.lock_work.proofs.settling.chains_done.Goals.{After-object_written, then-whole-ne0, else-whole-ne0, then-lets_out, else-lets_out}

-- the threads of a chain that moves whole changed, or not
moved_is : (c : After-object_written)
    → let whole = c.moved_whole-whole.result in
    c.if-whole-ne0.table ≡ pick (eqb whole 0) c.args.table.now (move_all thread_limit c.args.table.now whole)
moved_is c =
    elim c.if-whole-ne0.branch [
      | then-whole-ne0 w ↦ w.table-is ∙ (w.move_all.ensures ∙ rw (ne_eqb _ 0 w.if-whole-ne0.true) refl)
      | else-whole-ne0 w ↦ w.table-is ∙ rw (eq-eqb _ 0 w.if-whole-ne0.false) refl
    ]

-- exits let out, or not
outs : (c : After-object_written)
    → let carried = after_joining c.args.work
    (record { table = c.queue-first.new.table; monitor = c.join-joined.result; unparked = c.plan_at-planned.result.unparked }) in
    (c.if-lets_out.table ≡ carried.table) × (c.if-lets_out.out ≡ record { monitor = carried.monitor; threads = carried.unparked })
outs c =
    elim c.if-lets_out.branch [
      | then-lets_out w ↦
          rw (sym c.lets_out.ensures ∙ w.if-lets_out.true) (
            w.table-is ∙ w.part_exits-parting.ensures.table,
            w.out-is ∙ (w.let_out-out.ensures ∙ rw w.part_exits-parting.ensures.parting refl),
          )
      | else-lets_out w ↦ rw (sym c.lets_out.ensures ∙ w.if-lets_out.false) (w.table-is, w.out-is)
    ]

pub returns : goal.returns
returns c =
    let given = c.args in
    let joined : JoinedChain = record { table = c.queue-first.new.table; first = c.queue-first.result } in
    let done = work_in_place given.table.now given.thread given.number given.own given.object given.work {joined = joined}
    c.moved_whole-whole.ensures
    (moved_is c)
    c.touched.ensures
    c.thread_place-place.ensures
    c.plan_at-planned.ensures
    (rw (← c.first_in-begins.ensures) (λ j. record { table = c.queue-first.ensures.table j; first = c.queue-first.ensures.first j }))
    c.join-joined.ensures
    (outs c)
    c.thread_place-place-2.ensures
    c.own_written.ensures
    c.object_place-home.ensures
    c.object_written.ensures in
    record { table = ap (λ (d : WorkDone). d.table) done; unparked = ap (λ (d : WorkDone). d.unparked) done }
