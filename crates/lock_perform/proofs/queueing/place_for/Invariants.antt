-- What is left to walk finds the place that the whole walk finds.
use Rattle.std.proofs.Common.{◌≡◌, ◌-◌}
use Rattle.lock_table.specs.Limits.{thread_limit}
use Rattle.lock_perform.specs.Queueing.{place_for}
use Rattle.lock_perform.specs.InPlace.{record_in}
use Rattle.lock_perform.proofs.queueing.place_for.Given as goal

abbrev pub invariant-loop : goal.invariant-loop
invariant-loop l =
    place_for thread_limit (record_in l.threads) l.rank 0 l.first
    ≡ place_for (thread_limit - l.counter) (record_in l.threads) l.rank l.place.last l.place.here
