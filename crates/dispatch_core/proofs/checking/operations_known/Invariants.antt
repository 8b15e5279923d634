-- What is left to test decides.
use Rattle.std.proofs.Common.{◌≡◌, ◌+◌}
use Rattle.laws.specs.Every.{all_below}
use Rattle.dispatch_rules.specs.Script.{operation_known}
use Rattle.dispatch_core.proofs.checking.operations_known.Given as goal

abbrev pub invariant-loop-place : goal.invariant-loop-place
invariant-loop-place l =
    all_below l.length (λ i. operation_known l.scripts l.objects (l.start + i)) ≡ all_below l.place (λ i. operation_known l.scripts l.objects (l.start + i))
