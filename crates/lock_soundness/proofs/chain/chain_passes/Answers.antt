-- A thread that is met is tested as the definition says, and marked where it passes.
use Rattle.std.proofs.Common.{◌≡◌, ◌∙◌, ◌-◌, ◌+◌, ◌<◌, refl, sym, false, arith}
use borrow.Author.Tests.{eq-eqb, ne_eqb, lt-ltb}
use Rattle.laws.specs.Choice.{within}
use Rattle.chains.proofs.Turn.{chain_test_step, chain_test_end}
use Rattle.lock_table.specs.Limits.{thread_limit}
use Rattle.lock_table.proofs.Places.{place_inside}
use Rattle.sound_records.specs.OnePass.{chain_number}
use Rattle.lock_soundness.specs.OnePass.{member_fits, chain_passes, chain_marks}
use Rattle.lock_soundness.proofs.OnePassTurns.{next_here, member_here, member_none}
use Rattle.lock_soundness.proofs.Marks.{marked_step, marked_end}
use Rattle.lock_soundness.proofs.chain.chain_passes.Goals as goal
use Rattle.lock_soundness.proofs.chain.chain_passes.Goals.{After-member_passes}

pub loop-init : goal.loop-init
unfolding chain_passes chain_marks
loop-init c = let all : c.args.table.now.threadcount - 0 ≡ c.args.table.now.threadcount = omega arith in rw all (refl, refl)

pub returns-then-at-eq0 : goal.returns-then-at-eq0
returns-then-at-eq0 c =
    let turn : 0 < c.args.table.now.threadcount - c.loop.counter = omega (arith, c.loop-test.true) in
    simp (c.loop.invariant.0, c.loop.invariant.1, chain_test_step turn, marked_step turn, eq-eqb _ _ c.if-at-eq0.true)
    (record { value = refl; marks = refl })

pub returns-then-threadcount-at : goal.returns-then-threadcount-at
unfolding member_fits
returns-then-threadcount-at c =
    let turn : 0 < c.args.table.now.threadcount - c.loop.counter = omega (arith, c.loop-test.true) in
    simp (
      c.loop.invariant.0,
      c.loop.invariant.1,
      chain_test_step turn,
      marked_step turn,
      ne_eqb _ _ c.if-at-eq0.false,
      lt-ltb _ _ c.if-threadcount-at.true,
    )
    (record { value = refl; marks = refl })

pub returns-then-not-is_thread : goal.returns-then-not-is_thread
returns-then-not-is_thread c =
    let turn : 0 < c.args.table.now.threadcount - c.loop.counter = omega (arith, c.loop-test.true) in
    let outside : within 1 thread_limit c.loop.at ≡ false = sym c.is_thread.ensures ∙ c.if-not-is_thread.true in
    simp (
      c.loop.invariant.0,
      c.loop.invariant.1,
      chain_test_step turn,
      marked_step turn,
      ne_eqb _ _ c.if-at-eq0.false,
      member_none c.args.table.now.threads c.args.table.now.threadcount c.args.object (chain_number c.args.chain) c.loop.at c.if-at-eq0.false outside,
    )
    (record { value = refl; marks = refl })

pub bounds-table-thread_place : goal.bounds-table-thread_place
bounds-table-thread_place c = rw c.thread_place.ensures (place_inside thread_limit _ (omega arith))

pub offset_bounds-table-thread_place : goal.offset_bounds-table-thread_place
offset_bounds-table-thread_place c = omega (arith, bounds-table-thread_place c)

-- what is found out of the thread that is met
met_here : (c : After-member_passes)
    → let t = c.args.table.now in
    member_fits t.threads t.threadcount c.args.object (chain_number c.args.chain) c.loop.at ≡ c.member_passes.result
met_here c =
    let t = c.args.table.now in
    member_here t.threads t.threadcount c.args.object (chain_number c.args.chain) c.loop.at (sym c.is_thread.ensures ∙ c.if-not-is_thread.false) c.if-threadcount-at.false
    ∙ rw (← c.from-place.ensures, ← c.thread_place.ensures, ← c.rank_there-behind.ensures) (sym c.member_passes.ensures)

pub returns-then-not-member_passes : goal.returns-then-not-member_passes
returns-then-not-member_passes c =
    let turn : 0 < c.args.table.now.threadcount - c.loop.counter = omega (arith, c.loop-test.true) in
    simp (
      c.loop.invariant.0,
      c.loop.invariant.1,
      chain_test_step turn,
      marked_step turn,
      ne_eqb _ _ c.if-at-eq0.false,
      met_here (goal.at.returns-then-not-member_passes c).After-member_passes,
      c.if-not-member_passes.true,
    )
    (record { value = refl; marks = refl })

pub loop-preserved : goal.loop-preserved
loop-preserved c =
    let count = c.args.table.now.threadcount in
    let turn : 0 < count - c.loop.counter = omega (arith, c.loop-test.true) in
    let rest : count - c.loop.counter - 1 ≡ count - (c.loop.counter + 1) = omega arith in
    simp (
      c.loop.invariant.0,
      c.loop.invariant.1,
      chain_test_step turn,
      marked_step turn,
      ne_eqb _ _ c.if-at-eq0.false,
      met_here (goal.at.loop-preserved c).After-member_passes,
      next_here c.args.table.now.threads c.loop.at (sym c.is_thread.ensures ∙ c.if-not-is_thread.false),
      c.if-not-member_passes.false,
      c.from-place.ensures,
      rest,
    )
    (refl, refl)

pub returns : goal.returns
returns c =
    let count = c.args.table.now.threadcount in
    simp (
      c.loop.invariant.0,
      c.loop.invariant.1,
      chain_test_end {fuel = count - c.loop.counter} (omega (arith, c.loop-test.false)),
      marked_end {fuel = count - c.loop.counter} (omega (arith, c.loop-test.false)),
    )
    (record { value = refl; marks = refl })
