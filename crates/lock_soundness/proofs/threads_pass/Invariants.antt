-- What is left to test decides.
use Rattle.std.proofs.Common.{◌≡◌}
use Rattle.laws.specs.Every.{all_up_to}
use Rattle.lock_table.specs.Limits.{thread_limit}
use Rattle.lock_soundness.specs.OnePass.{thread_turn}
use Rattle.lock_soundness.proofs.threads_pass.Given as goal

abbrev pub invariant-loop-number : goal.invariant-loop-number
invariant-loop-number l = all_up_to thread_limit (thread_turn l.table l.met) ≡ all_up_to l.number (thread_turn l.table l.met)
