-- The places passed are read.
use Rattle.std.proofs.Common.{◌≡◌, ◌+◌, ◌*◌}
use Rattle.laws.specs.Sequence.{patched}
use Rattle.table_bytes.specs.Rows.{size, numbers_in}
use Rattle.table_bytes.specs.Reading.{byte_at}
use Rattle.table_bytes.proofs.records.read_records.Given as goal

abbrev pub invariant-loop-place : goal.invariant-loop-place
invariant-loop-place g l =
    let rows = g.T.Stored.layout in
    l.records ≡ patched 0 l.place (λ place. g.T.Stored.said (numbers_in rows (λ i. byte_at l.bytes (l.start + place * size rows + i)))) l.initial.records
