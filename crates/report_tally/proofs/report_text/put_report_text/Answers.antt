use Rattle.std.proofs.Common.{arith}
use Rattle.replay_text.proofs.Stores.{wrote_both, wrote_length}
use Rattle.replay_text.proofs.Room.{written_put}
use Rattle.report_tally.specs.Rows.{report_text}
use Rattle.report_tally.proofs.report_text.put_report_text.Goals as goal

pub returns : goal.returns
unfolding report_text
returns c =
    let rows = c.put_rows-end.ensures in
    wrote_both rows.wrote (written_put (omega (arith, rows.upper_bound, wrote_length rows.wrote, c.requires)) c.put_row.ensures)
