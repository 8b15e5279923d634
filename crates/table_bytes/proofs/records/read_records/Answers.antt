-- The places passed are read, and in the end there are no others.
use Prim.Native.Nat.{ℕ, ◌+◌, ◌*◌}
use mathlib.Core.Path.{◌≡◌, ◌∙◌, ap, refl}
use native.Mathlib.Omega.{arith}
use lib.ListN.{length}
use Rattle.laws.specs.Sequence.{patched}
use Rattle.laws.proofs.Sequence.{patched_none, patched_next_front, patched_all}
use Rattle.table_bytes.specs.Rows.{size, numbers_in}
use Rattle.table_bytes.specs.Reading.{byte_at}
use Rattle.table_bytes.proofs.records.read_records.Goals as goal

pub loop-place-init : goal.loop-place-init
loop-place-init g c = patched_none 0 _ c.args.records.now

pub loop-place-preserved : goal.loop-place-preserved
loop-place-preserved g c = rw (c.record_at.ensures, c.loop-place.invariant) (patched_next_front _ c.args.records.now c.loop-place.place)

pub returns : goal.returns
returns g c =
    let rows = g.T.Stored.layout in
    let read : ℕ → g.row.T.Denot = λ place. g.T.Stored.said (numbers_in rows (λ i. byte_at c.args.bytes.now (c.args.start + place * size rows + i))) in
    let every : c.loop-place.place ≡ length c.args.records.now = omega arith in
    c.loop-place.invariant ∙ ap (λ (n : ℕ). patched 0 n read c.args.records.now) every
    ∙ patched_all (length c.args.records.now) read g.T.Stored.empty c.args.records.now refl
