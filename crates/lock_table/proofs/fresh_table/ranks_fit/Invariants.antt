-- What is left to test decides.
use Rattle.std.proofs.Common.{◌≡◌}
use lib.Dec.{leb}
use Rattle.laws.specs.Every.{all_below}
use Rattle.lock_table.specs.{Limits.rank_limit, Fresh.thread_given, Fresh.ranks_fit}
use Rattle.lock_table.proofs.fresh_table.ranks_fit.Given as goal

abbrev pub invariant-loop-place : goal.invariant-loop-place
invariant-loop-place l = ranks_fit l.request ≡ all_below l.place (λ place. leb (thread_given l.request place).rank rank_limit)
