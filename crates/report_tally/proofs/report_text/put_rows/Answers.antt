use Rattle.std.proofs.Common.{◌<◌, arith}
use Rattle.lock_table.specs.Limits.{object_limit}
use Rattle.report_tally.proofs.RowsPut.{rows_first, rows_next, rows_all, count_within}
use Rattle.report_tally.proofs.report_text.put_rows.Goals as goal

pub loop-place-init : goal.loop-place-init
loop-place-init c = rows_first _ _ _

pub loop-place-preserved : goal.loop-place-preserved
loop-place-preserved c =
    let inside : c.loop-place.place < object_limit = omega (arith, c.loop-place-test.true, c.row_count-place-end.ensures, count_within c.args.largest) in
    rows_next c.loop-place.invariant inside c.requires (rw c.from.ensures at c.put_row-end.ensures)

pub returns : goal.returns
returns c =
    let put = c.loop-place.invariant in
    let count = c.row_count-place-end.ensures in
    record {
      wrote = rw count at (rows_all put c.loop-place.auto.place-end c.loop-place-test.false);
      upper_bound = omega (arith, put.most, c.loop-place.auto.place-end, count, count_within c.args.largest);
    }

pub bounds-objects-from : goal.bounds-objects-from
bounds-objects-from c = omega (arith, c.from.ensures, c.loop-place-test.true, c.row_count-place-end.ensures, count_within c.args.largest)
