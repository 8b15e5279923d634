-- An empty record passes and marks nobody.
use Rattle.std.proofs.Common.{sym, ◌∙◌}
use Rattle.lock_soundness.specs.OnePass.{object_passes}
use Rattle.lock_soundness.proofs.OnePassTurns.{empty_object_turn}
use Rattle.lock_soundness.proofs.object_passes.Goals as goal

pub returns-then-empty_object : goal.returns-then-empty_object
unfolding object_passes
returns-then-empty_object c =
    let a = c.args in
    let turn = empty_object_turn a.table.now.threads a.table.now.threadcount a.table.now.objectcount a.number a.object a.met.now (sym c.empty_object.ensures ∙ c.if-empty_object.true) in
    record { value = turn.0; marks = turn.1 }
