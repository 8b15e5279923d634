-- A number above 255 is answered as 255 is.
use mathlib.Core.Path.{◌∙◌}
use Rattle.table_bytes.specs.Reading.{is_table, table_of}
use Rattle.table_questions.proofs.Narrow.{narrow_thread}
use Rattle.table_questions.proofs.asking.ask_thread.Goals as goal

pub returns : goal.returns
returns c =
    let bytes = c.args.bytes.now in
    c.ask.ensures ∙ rw c.narrow.ensures (narrow_thread (is_table bytes) (table_of bytes) c.args.question c.args.thread)
