-- What is left to test decides.
use Rattle.std.proofs.Common.{◌≡◌}
use Rattle.laws.specs.Every.{all_up_to}
use Rattle.dispatch_rules.specs.Script.{script_known, cursor_at}
use Rattle.dispatch_core.proofs.checking.each_known.Given as goal

abbrev pub invariant-loop-number : goal.invariant-loop-number
invariant-loop-number l =
    all_up_to l.threads (λ n. script_known l.scripts l.objects (cursor_at l.cursors n))
    ≡ all_up_to l.number (λ n. script_known l.scripts l.objects (cursor_at l.cursors n))
