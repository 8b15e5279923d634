-- What was done and what is left to run give what the whole run gives.
use Rattle.dispatch_rules.specs.Dispatch.{scripted, dispatched}
use Rattle.dispatch_core.proofs.Measure.{ahead}
use Rattle.dispatch_core.proofs.InPlace.{Going}
use Rattle.dispatch_core.proofs.running.run_scripts.Given as goal

abbrev pub invariant-loop-position : goal.invariant-loop-position
invariant-loop-position l =
    Going l.scripts l.quantum l.threads l.initial.changed.objectcount
    (dispatched l.scripts l.quantum l.lent (scripted l.initial.changed l.initial.moved)) l.initial.trace l.trace (scripted l.changed l.moved) l.steps l.position

abbrev pub decreases-loop-position : goal.decreases-loop-position
decreases-loop-position l = ahead l.threads l.quantum l.position
