-- The places passed are filled.
use Rattle.std.proofs.Common.{◌≡◌}
use lib.ListN.{replicate}
use Rattle.laws.specs.Sequence.{patched}
use Rattle.lock_table.proofs.fresh_table.fresh_records.Given as goal

abbrev pub invariant-loop-place : goal.invariant-loop-place
invariant-loop-place g l = l.record-items ≡ patched 0 l.place (g.T.FreshRecord.made l.request) (replicate g.row.N g.T.FreshRecord.empty)
