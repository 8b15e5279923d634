-- What is left to walk gives what the whole walk gives.
use Rattle.std.proofs.Common.{◌≡◌, ◌-◌}
use Rattle.lock_table.specs.Limits.{thread_limit}
use Rattle.lock_perform.specs.Parting.{no_parting, part_chain}
use Rattle.lock_work.proofs.walking.part.Given as goal

abbrev pub invariant-loop : goal.invariant-loop
invariant-loop g l =
    let leaving = g.L.Leaving in
    part_chain leaving.goes leaving.after leaving.TOGETHER thread_limit l.fn.table no_parting l.first
    ≡ part_chain leaving.goes leaving.after leaving.TOGETHER (thread_limit - l.counter) l.table l.parting l.at
