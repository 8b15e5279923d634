-- A thread that is passed stays or leaves, and the walk ends where no thread is left.
use Rattle.std.proofs.Common.{◌≡◌, ◌∙◌, ◌-◌, arith, sym, ap, true, false}
use Rattle.laws.specs.Choice.{within}
use Rattle.lock_table.specs.Limits.{thread_limit}
use Rattle.lock_perform.specs.Parting.{PartedChain}
use Rattle.lock_perform.proofs.InPlace.{outside_ends, passed_ends}
use Rattle.lock_perform.proofs.PartInPlace.{part_passes, part_stops}
use Rattle.lock_work.proofs.walking.part.Goals as goal

pub loop-preserved : goal.loop-preserved
loop-preserved g c =
    let leaving = g.L.Leaving in
    let loop = c.loop in
    let inside : within 1 thread_limit loop.at ≡ true = sym c.is_thread.ensures ∙ c.if-not-is_thread.false in
    rw (
      c.passed-parting.ensures,
      c.TOGETHER.ensures,
      c.linked_to.ensures,
      c.thread_place-behind.ensures,
      c.last_behind-last.ensures,
      c.after.ensures,
      c.goes-goes.ensures,
      c.from-spot.ensures,
    )
    (loop.invariant ∙ part_passes leaving.goes leaving.after leaving.TOGETHER (omega (arith, c.loop-test.true)) loop.at inside loop.table loop.parting)

pub returns-then-not-is_thread : goal.returns-then-not-is_thread
returns-then-not-is_thread g c =
    let leaving = g.L.Leaving in
    let loop = c.loop in
    let outside : within 1 thread_limit loop.at ≡ false = sym c.is_thread.ensures ∙ c.if-not-is_thread.true in
    let left = thread_limit - loop.counter in
    let all = loop.invariant ∙ part_stops leaving.goes leaving.after leaving.TOGETHER loop.at left (outside_ends left loop.at outside) loop.table loop.parting in
    record { table = sym (ap (λ (parted : PartedChain). parted.table) all); parting = sym (ap (λ (parted : PartedChain). parted.parting) all) }

pub returns-after-loop : goal.returns-after-loop
returns-after-loop g c =
    let leaving = g.L.Leaving in
    let loop = c.loop in
    let all = loop.invariant ∙ part_stops leaving.goes leaving.after leaving.TOGETHER loop.at (thread_limit - loop.counter) (passed_ends loop.counter loop.at c.loop-test.false) loop.table loop.parting in
    record { table = sym (ap (λ (parted : PartedChain). parted.table) all); parting = sym (ap (λ (parted : PartedChain). parted.parting) all) }
