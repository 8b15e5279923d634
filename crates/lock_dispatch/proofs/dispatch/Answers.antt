-- The records are copied in, and back.
use Prim.Native.Nat.{◌≤◌, ◌<◌}
use mathlib.Core.Path.{◌≡◌, ap, subst, ◌∙◌}
use mathlib.Core.List.{List}
use Rattle.std.proofs.Common.{rules}
use lib.ListN.{length}
use Rattle.dispatch_rules.specs.Dispatch.{most_steps, steps_room, scripted, dispatched, run_scripts, traced}
use Rattle.dispatch_rules.specs.declared.ScriptCursor.{ScriptCursor}
use Rattle.dispatch_rules.specs.declared.ScriptRun.{ScriptRun}
use Rattle.lock_dispatch.specs.Lent.{stored}
use Rattle.lock_dispatch.proofs.Copied.{loads, stores}
use Rattle.lock_dispatch.proofs.dispatch.Goals as goal

pub returns-clause-value : goal.returns-clause-value
returns-clause-value c =
    let given = c.args in
    let array_is = loads given.cursors.now (rw c.from.ensures at c.min-count.ensures) c.copy_from_slice.ensures.after in
    ap (λ (run : ScriptRun). run.dispatched) c.run_scripts-done.ensures.value
    ∙ ap (λ (array : List ScriptCursor). (run_scripts given.scripts.now given.quantum (length given.cursors.now) (scripted given.table array)).dispatched) array_is

pub returns-clause-cursors_after : goal.returns-clause-cursors_after
returns-clause-cursors_after c =
    let given = c.args in
    let array_is = loads given.cursors.now (rw c.from.ensures at c.min-count.ensures) c.copy_from_slice.ensures.after in
    let long : length c.run_scripts-done.result.cursors ≡ 32 = search rules in
    stores given.cursors.now c.run_scripts-done.result.cursors long (rw c.from.ensures at c.min-count.ensures) c.copy_from_slice-2.ensures.after
    ∙ ap (λ (run : ScriptRun). stored given.cursors.now run.cursors) c.run_scripts-done.ensures.value
    ∙ ap (λ (array : List ScriptCursor). stored given.cursors.now (run_scripts given.scripts.now given.quantum (length given.cursors.now) (scripted given.table array)).cursors) array_is

pub returns-clause-trace_after : goal.returns-clause-trace_after
returns-clause-trace_after c =
    let given = c.args in
    let array_is = loads given.cursors.now (rw c.from.ensures at c.min-count.ensures) c.copy_from_slice.ensures.after in
    c.run_scripts-done.ensures.trace_after
    ∙ ap (λ (array : List ScriptCursor). traced 0 given.trace.now (dispatched given.scripts.now given.quantum (length given.cursors.now) (scripted given.table array)).steps) array_is

pub returns-clause-few : goal.returns-clause-few
returns-clause-few c =
    let steps = c.run_scripts-done.result.dispatched.steps in
    let array_is = loads c.args.cursors.now (rw c.from.ensures at c.min-count.ensures) c.copy_from_slice.ensures.after in
    subst (λ (array : List ScriptCursor). (steps ≤ most_steps c.args.table.threadcount array) × (steps < steps_room)) array_is c.run_scripts-done.ensures.few
