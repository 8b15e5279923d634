-- What is left to test decides.
use Rattle.std.proofs.Common.{◌≡◌, ◌+◌, ◌*◌}
use Rattle.laws.specs.Every.{all_below}
use Rattle.table_bytes.specs.Rows.{size, numbers_in}
use Rattle.table_bytes.specs.Reading.{byte_at}
use Rattle.table_bytes.proofs.records.all_known.Given as goal

abbrev pub invariant-loop-place : goal.invariant-loop-place
invariant-loop-place g l =
    let rows = g.T.Stored.layout in
    all_below l.count (λ place. g.T.Stored.known (numbers_in rows (λ i. byte_at l.bytes (l.start + place * size rows + i))))
    ≡ all_below l.place (λ place. g.T.Stored.known (numbers_in rows (λ i. byte_at l.bytes (l.start + place * size rows + i))))
