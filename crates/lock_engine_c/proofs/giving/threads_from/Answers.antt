-- Each turn fills the next place, and in the end there are no others.
use Rattle.std.proofs.Common.{◌≡◌, ◌∙◌, ℕ, List, ap, arith}
use lib.ListN.{replicate, length-replicate}
use Rattle.laws.specs.Sequence.{patched}
use Rattle.laws.proofs.Sequence.{patched_none, patched_next_front, patched_all}
use Rattle.lock_table.specs.Fresh.{no_thread_given}
use Rattle.lock_table.specs.declared.fresh_table.ThreadGiven.{ThreadGiven}
use Rattle.lock_engine_c.specs.Given.{given_from}
use Rattle.lock_engine_c.proofs.giving.threads_from.Goals as goal

pub loop-place-init : goal.loop-place-init
loop-place-init c = patched_none 0 (given_from c.args.bytes.now) (replicate 32 c.no_thread_given-given.result)

pub loop-place-preserved : goal.loop-place-preserved
loop-place-preserved c =
    rw (c.given_from.ensures, c.loop-place.invariant)
    (patched_next_front (given_from c.args.bytes.now) (replicate 32 c.no_thread_given-given.result) c.loop-place.place)

pub returns : goal.returns
returns c =
    let start : List ThreadGiven = replicate 32 c.no_thread_given-given.result in
    let all : c.loop-place.place ≡ 32 = omega arith in
    c.loop-place.invariant ∙ ap (λ (n : ℕ). patched 0 n (given_from c.args.bytes.now) start) all
    ∙ patched_all 32 (given_from c.args.bytes.now) no_thread_given start (length-replicate 32 c.no_thread_given-given.result)
