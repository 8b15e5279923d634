-- The places passed are stored.
use Rattle.std.proofs.Common.{◌≡◌}
use Rattle.table_bytes.proofs.Parts.{stored}
use Rattle.table_bytes.proofs.records.put_records.Given as goal

abbrev pub invariant-loop-place : goal.invariant-loop-place
invariant-loop-place g l = l.bytes ≡ stored g.T.Stored.layout g.T.Stored.empty l.records l.start l.initial.bytes l.place
