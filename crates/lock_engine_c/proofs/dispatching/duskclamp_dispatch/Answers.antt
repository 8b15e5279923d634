-- What the calls give, together: the table's run, stored over the bytes and packed. On bytes that are no table, nothing is done.
use Prim.Native.Nat.{ℕ, ◌+◌, ◌*◌}
use mathlib.Core.Path.{◌≡◌, ap, ◌∙◌}
use mathlib.Core.Bool.{true}
use Rattle.std.proofs.Common.{rules}
use Rattle.lock_table.specs.declared.record.Table.{Table}
use Rattle.table_bytes.specs.Reading.{AreBytes, is_table}
use Rattle.lock_dispatch.specs.Lent.{dispatch, cursors_after, trace_after}
use Rattle.lock_engine_c.specs.Dispatch.{steps_unit}
use Rattle.lock_engine_c.proofs.RunBytes.{call_gives}
use Rattle.lock_engine_c.proofs.dispatching.duskclamp_dispatch.Goals as goal

pub returns : goal.returns
returns c =
    let given = c.args in
    let small : AreBytes given.bytes.now = search rules in
    let known : is_table given.bytes.now ≡ true = search rules in
    let read = c.read_table.ensures in
    let ran = c.dispatch-done.ensures in
    let (value, bytes, cursors, trace) =
    call_gives given.bytes.now given.quantum given.scripts.now given.cursors.now given.trace.now small known
    (ran.value ∙ ap (λ (table : Table). dispatch table given.quantum given.scripts.now given.cursors.now) read)
    (ran.cursors_after ∙ ap (λ (table : Table). cursors_after table given.quantum given.scripts.now given.cursors.now) read)
    (ran.trace_after ∙ ap (λ (table : Table). trace_after table given.quantum given.scripts.now given.cursors.now given.trace.now) read)
    (ap (λ (number : ℕ). number + c.dispatch-done.result.steps * steps_unit) (c.from-2.ensures ∙ c.dispatch_returned.ensures)) c.store.ensures in
    record { value = value; bytes_after = bytes; cursors_after = cursors; trace_after = trace }
