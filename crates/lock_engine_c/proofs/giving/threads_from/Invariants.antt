-- The places passed are filled.
use Rattle.std.proofs.Common.{◌≡◌}
use Rattle.laws.specs.Sequence.{patched}
use Rattle.lock_engine_c.specs.Given.{given_from}
use Rattle.lock_engine_c.proofs.giving.threads_from.Given as goal

abbrev pub invariant-loop-place : goal.invariant-loop-place
invariant-loop-place l = l.thread-items ≡ patched 0 l.place (given_from l.bytes) l.initial.thread-items
