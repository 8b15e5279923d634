-- Each thread that is passed takes phase 5, and the walk ends where no thread is left.
use Rattle.std.proofs.Common.{◌≡◌, ◌∙◌, ◌-◌, arith, sym, true, false}
use Rattle.laws.specs.Choice.{within}
use Rattle.lock_table.specs.Limits.{thread_limit}
use Rattle.lock_perform.proofs.InPlace.{move_passes, move_stops, outside_ends, passed_ends}
use Rattle.lock_work.proofs.walking.move_all.Goals as goal

pub loop-preserved : goal.loop-preserved
loop-preserved c =
    let loop = c.loop in
    let inside : within 1 thread_limit loop.at ≡ true = sym c.is_thread.ensures ∙ c.if-not-is_thread.false in
    rw (c.moved.ensures, c.from-spot.ensures) (loop.invariant ∙ move_passes (omega (arith, c.loop-test.true)) loop.at inside loop.table)

pub returns-then-not-is_thread : goal.returns-then-not-is_thread
returns-then-not-is_thread c =
    let loop = c.loop in
    let outside : within 1 thread_limit loop.at ≡ false = sym c.is_thread.ensures ∙ c.if-not-is_thread.true in
    let left = thread_limit - loop.counter in
    sym (loop.invariant ∙ move_stops loop.at left (outside_ends left loop.at outside) loop.table)

pub returns-after-loop : goal.returns-after-loop
returns-after-loop c = let loop = c.loop in sym (loop.invariant ∙ move_stops loop.at (thread_limit - loop.counter) (passed_ends loop.counter loop.at c.loop-test.false) loop.table)
