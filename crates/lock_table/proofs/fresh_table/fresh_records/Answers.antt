-- Each turn fills the next place, and in the end there are no others.
use Rattle.std.proofs.Common.{◌≡◌, ◌∙◌, ℕ, List, ap, arith}
use lib.ListN.{replicate, length-replicate}
use Rattle.laws.specs.Sequence.{patched}
use Rattle.laws.proofs.Sequence.{patched_none, patched_next_front, patched_all}
use Rattle.lock_table.proofs.fresh_table.fresh_records.Goals as goal

pub loop-place-init : goal.loop-place-init
loop-place-init g c = rw c.empty-records.ensures (patched_none 0 (g.T.FreshRecord.made c.args.request) (replicate g.row.N g.T.FreshRecord.empty))

pub loop-place-preserved : goal.loop-place-preserved
loop-place-preserved g c =
    rw (c.made.ensures, c.loop-place.invariant)
    (patched_next_front (g.T.FreshRecord.made c.args.request) (replicate g.row.N g.T.FreshRecord.empty) c.loop-place.place)

pub returns : goal.returns
returns g c =
    let all : c.loop-place.place ≡ g.row.N = omega arith in
    c.loop-place.invariant ∙ ap (λ (n : ℕ). patched 0 n (g.T.FreshRecord.made c.args.request) (replicate g.row.N g.T.FreshRecord.empty)) all
    ∙ patched_all g.row.N (g.T.FreshRecord.made c.args.request) g.T.FreshRecord.empty (replicate g.row.N g.T.FreshRecord.empty) (length-replicate g.row.N g.T.FreshRecord.empty)
