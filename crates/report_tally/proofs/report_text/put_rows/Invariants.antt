-- Each turn puts one row more.
use Rattle.report_tally.proofs.RowsPut.{RowsPut}
use Rattle.report_tally.proofs.report_text.put_rows.Given as goal

abbrev pub invariant-loop-place : goal.invariant-loop-place
invariant-loop-place l = RowsPut l.objects l.fn.out l.out l.at l.end l.place
