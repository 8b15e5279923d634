-- One record a turn.
use Prim.Native.Nat.{◌≤◌}
use mathlib.Core.Path.{refl}
use native.Mathlib.Omega.{arith}
use lib.ListN.{length}
use Rattle.std.proofs.lemmas.List.{get_or_read_under}
use Rattle.table_bytes.proofs.Parts.{stored_none, stored_next}
use Rattle.table_bytes.proofs.records.put_records.Goals as goal

pub loop-place-init : goal.loop-place-init
loop-place-init g c = stored_none g.T.Stored.layout g.T.Stored.empty c.args.records.now c.args.start c.args.bytes.now

pub loop-place-preserved : goal.loop-place-preserved
loop-place-preserved g c =
    let room : c.args.start ≤ length c.args.bytes.now = omega (arith, c.requires) in
    let turn = stored_next g.T.Stored.layout g.T.Stored.empty c.args.records.now c.args.start c.args.bytes.now room c.loop-place.place in
    let item = get_or_read_under c.args.records.now c.loop-place.place (length c.args.records.now) c.index-records-place.result g.T.Stored.empty c.index-records-place.is c.loop-place-test.true refl in
    rw (c.put_record.ensures, c.loop-place.invariant, item) turn
