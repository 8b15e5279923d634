-- What was done and what is left to run give what the whole run gives: before the loop, after a thread might take its step, and at the end.
use Rattle.std.proofs.Common.{ℕ, Bool, true, false, ◌≡◌, ◌+◌, ◌∙◌, refl, ap, set, arith}
use Rattle.std.specs.Int.{from_bool}
use Rattle.laws.specs.Choice.{pick}
use Rattle.laws.specs.Count.{one_if}
use Rattle.lock_table.proofs.OwnedTables.{owned_well_typed}
use Rattle.lock_engine.specs.declared.outcome.Outcome.{Outcome}
use Rattle.step_bounds.specs.SixSteps.{is_step}
use Rattle.dispatch_rules.specs.Attempt.{goes_on}
use Rattle.dispatch_rules.specs.Dispatch.{scripted}
use Rattle.dispatch_rules.specs.Script.{Scripted}
use Rattle.dispatch_core.specs.Position.{next_position}
use Rattle.dispatch_core.proofs.InPlace.{Readied, started_so, ready_so, stepped_so, goes_round, goes_less, run_over, counts_fit, run_begins, run_few}
use Rattle.dispatch_core.proofs.running.run_scripts.Goals as goal

-- one more step, or none
counted : (took : Bool) → from_bool took ≡ one_if took
counted true = refl
counted false = refl

pub loop-position-init : goal.loop-position-init
loop-position-init c =
    let given = c.args in
    let rounds = c.most_steps.ensures in
    let typed = owned_well_typed given.table _ c.well_formed.0 in
    rw c.first_position-position.ensures
    (run_begins given.scripts.now given.quantum given.lent (scripted given.table given.cursors) given.trace.now _ _
    typed c.well_formed.1.1.1.0.1.0.1 c.dispatch_answer-answer.ensures rounds.value rounds.small)

pub overflow_add-steps : goal.overflow_add-steps
overflow_add-steps c =
    let fits = counts_fit c.loop-position.invariant c.loop-position-test.true c.is_step-took.result in
    omega (arith, fits, c.from-steps.ensures, counted c.is_step-took.result)

pub loop-position-smaller : goal.loop-position-smaller
loop-position-smaller c =
    goes_less c.loop-position.invariant c.loop-position-test.true c.is_step-took.result c.goes_on.result c.next_position-position.ensures

pub loop-position-preserved : goal.loop-position-preserved
loop-position-preserved c =
    let loop = c.loop-position in
    let going = loop.invariant in
    let more = c.loop-position-test.true in
    let (some, alive) = going.alive more in
    let took = c.is_step-took.result in
    let done = c.handle_in_place-done in
    let outcome : Outcome =
    record { table = done.new.table; reply = done.result.reply; commits = done.result.commits; unparked = done.result.unparked } in
    let ready : Readied _ _ _ _ alive.good loop.position.thread alive.low alive.high c.thread_place-place.result c.thread_status.result
    c.begins-begun.result c.record_ready.result c.cursor_after.result =
    record {
      place_is = c.thread_place-place.ensures;
      status_is = c.thread_status.ensures;
      started_is = c.begins-begun.ensures;
      own_is = c.record_ready.ensures;
      moved_is = c.cursor_after.ensures;
    } in
    goes_round going more {outcome = outcome} (started_so _ _ _ _ _ _ _ _ ready)
    (stepped_so _ _ _ _ _ _ _ _ ready {outcome = outcome}
    (λ j. record {
      table = done.ensures.table j;
      reply = (done.ensures.done j).reply;
      commits = (done.ensures.done j).commits;
      unparked = (done.ensures.done j).unparked;
    }))
    (ap (λ (x : Scripted). scripted outcome.table x.cursors) (ready_so _ _ _ _ _ _ _ _ ready))
    c.is_step-took.ensures
    (c.put_entry.ensures ∙ ap (λ (n : ℕ). pick took (set loop.trace loop.steps n) loop.trace) c.trace_entry-entry.ensures)
    (ap (λ (n : ℕ). loop.steps + n) (c.from-steps.ensures ∙ counted took))
    (c.next_position-position.ensures ∙ ap (next_position _ _ loop.position took) c.goes_on.ensures)

pub returns-clause-value : goal.returns-clause-value
returns-clause-value c =
    let (world, steps, trace) = run_over c.loop-position.invariant c.loop-position-test.false in
    let answer = c.dispatch_answer-answer.ensures in
    λ j. record { cursors = (world j).cursors; dispatched = record { table = (world j).table; answer = answer j; steps = steps j } }

pub returns-clause-trace_after : goal.returns-clause-trace_after
returns-clause-trace_after c = (run_over c.loop-position.invariant c.loop-position-test.false).2

pub returns-clause-few : goal.returns-clause-few
returns-clause-few c =
    let given = c.args in
    let rounds = c.most_steps.ensures in
    let typed = owned_well_typed given.table _ c.well_formed.0 in
    let (world, steps, trace) = run_over c.loop-position.invariant c.loop-position-test.false in
    let few = run_few given.scripts.now given.quantum given.lent (scripted given.table given.cursors) _ _
    typed c.well_formed.1.1.1.0.1.0.1 refl rounds.value rounds.small in
    (omega (arith, steps, few.0), omega (arith, steps, few.1))
