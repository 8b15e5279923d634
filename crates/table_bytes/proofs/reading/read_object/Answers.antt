-- A record is read where its number says.
use mathlib.Core.Path.{◌∙◌}
use Rattle.lock_table.specs.Limits.{object_limit}
use Rattle.lock_table.specs.Record.{no_object}
use Rattle.lock_table.specs.Access.{object_at}
use Rattle.table_bytes.specs.Reading.{object_from}
use Rattle.table_bytes.proofs.Enough.{enough_is, numbered_placed}
use Rattle.table_bytes.proofs.reading.read_object.Goals as goal

pub returns-in-Some : goal.returns-in-Some
unfolding object_at
returns-in-Some c =
    c.record_at.ensures
    ∙ rw (enough_is c.args.bytes.now c.if-bytes-lt-TABLE_SIZE.false)
    (numbered_placed object_limit c.args.number (object_from c.args.bytes.now) no_object c.in-Some.place c.in-Some.ensures)
