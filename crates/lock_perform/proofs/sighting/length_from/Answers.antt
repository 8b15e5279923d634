-- A thread that is passed is one of the chain, and those behind it are the others.
use Rattle.std.proofs.Common.{◌≡◌, ◌+◌, ◌-◌, arith}
use Rattle.chains.specs.Chain.{chain_length}
use Rattle.chains.proofs.Turn.{chain_length_end}
use Rattle.lock_table.specs.Access.{next_of}
use Rattle.lock_table.proofs.Records.{next_in}
use Rattle.lock_table.proofs.Walks.{next_past}
use Rattle.lock_perform.proofs.Lengths.{length_none, one_more}
use Rattle.lock_perform.proofs.sighting.length_from.Goals as goal

pub returns-then-at-eq0 : goal.returns-then-at-eq0
returns-then-at-eq0 c =
    let loop = c.loop-passed in
    let next = next_of c.args.table.now in
    let none : chain_length (32 - loop.passed) next loop.at ≡ 0 =
    rw c.if-at-eq0.true (length_none (32 - loop.passed) next) in
    omega (arith, loop.invariant, none)

pub returns-then-at-gt-THREADS : goal.returns-then-at-gt-THREADS
returns-then-at-gt-THREADS c =
    let loop = c.loop-passed in
    let t = c.args.table.now in
    let more = one_more t loop.passed loop.at c.args.first c.loop-passed-test.true c.if-at-eq0.false loop.invariant in
    let none : chain_length (32 - (loop.passed + 1)) (next_of t) (next_of t loop.at) ≡ 0 =
    rw (next_past t loop.at c.if-at-gt-THREADS.true) (length_none (32 - (loop.passed + 1)) (next_of t)) in
    omega (arith, more, none)

pub loop-passed-preserved : goal.loop-passed-preserved
loop-passed-preserved c =
    let loop = c.loop-passed in
    let t = c.args.table.now in
    rw c.from.ensures
    (rw (next_in t loop.at c.if-at-eq0.false c.if-at-gt-THREADS.false) at
    (one_more t loop.passed loop.at c.args.first c.loop-passed-test.true c.if-at-eq0.false loop.invariant))

pub returns : goal.returns
returns c =
    let loop = c.loop-passed in
    let none = chain_length_end {fuel = 32 - loop.passed} (omega (arith, c.loop-passed-test.false)) (next_of c.args.table.now) loop.at in
    omega (arith, loop.invariant, none, c.loop-passed-test.false)
