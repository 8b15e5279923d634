-- Each turn tests the last of what is left.
use Rattle.std.proofs.Common.{refl}
use borrow.Author.Tests.{lt-leb, le-leb}
use Rattle.laws.proofs.Every.{all_step, all_end}
use Rattle.lock_table.specs.{Limits.rank_limit, Fresh.ranks_fit}
use Rattle.lock_table.proofs.fresh_table.ranks_fit.Goals as goal

pub loop-place-init : goal.loop-place-init
unfolding ranks_fit
loop-place-init c = refl

pub returns-then-given-gt-RANKS : goal.returns-then-given-gt-RANKS
returns-then-given-gt-RANKS c =
    simp (c.loop-place.invariant, all_step c.loop-place-test.true, ← c.thread_given-given.ensures, lt-leb _ rank_limit c.if-given-gt-RANKS.true)

pub loop-place-preserved : goal.loop-place-preserved
loop-place-preserved c =
    simp (c.loop-place.invariant, all_step c.loop-place-test.true, ← c.thread_given-given.ensures, le-leb _ rank_limit c.if-given-gt-RANKS.false)

pub returns : goal.returns
returns c = simp (c.loop-place.invariant, all_end c.loop-place-test.false)
