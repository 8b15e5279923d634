-- A thread that is passed joins at its place, and the walk ends where no thread is left.
use Rattle.std.proofs.Common.{◌≡◌, ◌∙◌, ◌-◌, arith, sym, ap, true, false}
use Rattle.laws.specs.Choice.{within}
use Rattle.lock_table.specs.Limits.{thread_limit}
use Rattle.lock_perform.specs.Queueing.{JoinedChain}
use Rattle.lock_perform.proofs.InPlace.{outside_ends, passed_ends}
use Rattle.lock_perform.proofs.QueueInPlace.{queue_passes, queue_stops}
use Rattle.lock_work.proofs.walking.queue.Goals as goal

pub loop-preserved : goal.loop-preserved
loop-preserved c =
    let loop = c.loop in
    let inside : within 1 thread_limit loop.at ≡ true = sym c.is_thread.ensures ∙ c.if-not-is_thread.false in
    rw (
      c.first_at-first.ensures,
      c.linked_to.ensures,
      c.thread_place-behind.ensures,
      c.with_next.ensures,
      c.place_for-place.ensures,
      c.joining_rank.ensures,
      c.from-spot.ensures,
    )
    (loop.invariant ∙ queue_passes c.args.into (omega (arith, c.loop-test.true)) loop.at inside loop.table loop.first)

pub returns-then-not-is_thread : goal.returns-then-not-is_thread
returns-then-not-is_thread c =
    let loop = c.loop in
    let outside : within 1 thread_limit loop.at ≡ false = sym c.is_thread.ensures ∙ c.if-not-is_thread.true in
    let left = thread_limit - loop.counter in
    let all = loop.invariant ∙ queue_stops c.args.into loop.at left (outside_ends left loop.at outside) loop.table loop.first in
    record { table = sym (ap (λ (joined : JoinedChain). joined.table) all); first = sym (ap (λ (joined : JoinedChain). joined.first) all) }

pub returns-after-loop : goal.returns-after-loop
returns-after-loop c =
    let loop = c.loop in
    let all = loop.invariant ∙ queue_stops c.args.into loop.at (thread_limit - loop.counter) (passed_ends loop.counter loop.at c.loop-test.false) loop.table loop.first in
    record { table = sym (ap (λ (joined : JoinedChain). joined.table) all); first = sym (ap (λ (joined : JoinedChain). joined.first) all) }
