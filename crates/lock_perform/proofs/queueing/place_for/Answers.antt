-- The walk passes those that stay before, and stops at the first that does not.
use Rattle.std.proofs.Common.{◌≡◌, ◌∙◌, ◌-◌, sym, true, false, arith}
use Rattle.lock_table.specs.Limits.{thread_limit}
use Rattle.lock_table.proofs.Places.{place_inside}
use Rattle.lock_perform.proofs.QueueInPlace.{staying, place_passes, place_stops, place_ends}
use Rattle.lock_perform.proofs.queueing.place_for.Goals as goal

-- the place of the thread that is looked at
pub bounds-threads-thread_place : goal.bounds-threads-thread_place
bounds-threads-thread_place c = rw c.thread_place.ensures (place_inside thread_limit _ (omega arith))

pub offset_bounds-threads-thread_place : goal.offset_bounds-threads-thread_place
offset_bounds-threads-thread_place c = omega (arith, bounds-threads-thread_place c)

pub loop-preserved : goal.loop-preserved
loop-preserved c =
    let place = c.loop.place in
    let stays : staying c.args.threads.now c.args.rank place.last place.here ≡ true =
    rw (← c.thread_place.ensures) (sym c.stays_before.ensures ∙ c.if-not-stays_before.false) in
    rw c.thread_place.ensures
    (c.loop.invariant ∙ place_passes c.args.threads.now c.args.rank place.last place.here (omega (arith, c.loop-test.true)) stays)

pub returns-then-not-stays_before : goal.returns-then-not-stays_before
returns-then-not-stays_before c =
    let place = c.loop.place in
    let stops : staying c.args.threads.now c.args.rank place.last place.here ≡ false =
    rw (← c.thread_place.ensures) (sym c.stays_before.ensures ∙ c.if-not-stays_before.true) in
    sym (c.loop.invariant ∙ place_stops c.args.threads.now c.args.rank place.last place.here (thread_limit - c.loop.counter) stops)

pub returns-after-loop : goal.returns-after-loop
returns-after-loop c =
    let place = c.loop.place in
    sym (c.loop.invariant ∙ place_ends c.args.threads.now c.args.rank place.last place.here c.loop.counter c.loop-test.false)
