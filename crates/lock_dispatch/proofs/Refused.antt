-- A refused run leaves the table, the records lent and the trace as they were.
use Prim.Native.Nat.{ℕ}
use mathlib.Core.Path.{◌≡◌, refl, ◌∙◌, ap}
use mathlib.Core.Logic.{◌≢◌}
use mathlib.Core.List.{List}
use lib.ListN.{length}
use Rattle.round_robin.specs.Dispatch.{Ran, still}
use Rattle.dispatch_rules.specs.Attempt.{Shown}
use Rattle.dispatch_rules.specs.Dispatch.{DispatchAnswer, run_answered, dispatch_answer, dispatched, traced}
use Rattle.std.proofs.Common.{Ok, Err}
use Rattle.dispatch_rules.specs.Script.{Scripted}
use Rattle.lock_dispatch.specs.Lent.{fitting, no_cursors, lent_world, stored, RefusedLeavesSlice}
use Rattle.lock_dispatch.proofs.Copied.{copied_back, fitting_fits}

refused_still : (answer : DispatchAnswer) (scripts : List ℕ) (quantum : ℕ) (world : Scripted) → answer ≢ Ok tt → run_answered answer scripts quantum world ≡ still world
unfolding run_answered
refused_still (Ok ended) scripts quantum world refused = absurd (refused refl)
refused_still (Err refusal) scripts quantum world refused = refl

pub refused_leaves_slice : RefusedLeavesSlice
unfolding traced
refused_leaves_slice table quantum scripts lent trace refused =
    let world : Scripted = lent_world lent table in
    let nothing : dispatched scripts quantum (length lent) world ≡ still world = refused_still (dispatch_answer scripts quantum (length lent) world) scripts quantum world refused
    in (
      ap (λ (ran : Ran Scripted Shown). ran.world.table) nothing,
      ap (λ (ran : Ran Scripted Shown). length ran.steps) nothing,
      ap (λ (ran : Ran Scripted Shown). stored lent ran.world.cursors) nothing
          ∙ copied_back (fitting (length lent)) lent no_cursors (fitting_fits (length lent)).0 (fitting_fits (length lent)).1,
      ap (λ (ran : Ran Scripted Shown). traced 0 trace ran.steps) nothing,
    )
