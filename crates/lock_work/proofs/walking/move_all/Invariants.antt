-- What is left to walk gives what the whole walk gives.
use Rattle.std.proofs.Common.{◌≡◌, ◌-◌}
use Rattle.lock_table.specs.Limits.{thread_limit}
use Rattle.lock_table.specs.Chain.{move_all}
use Rattle.lock_work.proofs.walking.move_all.Given as goal

abbrev pub invariant-loop : goal.invariant-loop
invariant-loop l = move_all thread_limit l.fn.table l.first ≡ move_all (thread_limit - l.counter) l.table l.at
