-- What is left to walk gives what the whole walk gives.
use Rattle.std.proofs.Common.{◌≡◌, ◌-◌}
use Rattle.lock_table.specs.Limits.{thread_limit}
use Rattle.lock_perform.specs.Queueing.{queue}
use Rattle.lock_work.proofs.walking.queue.Given as goal

abbrev pub invariant-loop : goal.invariant-loop
invariant-loop l = queue l.into thread_limit l.fn.table l.begins l.back ≡ queue l.into (thread_limit - l.counter) l.table l.first l.at
