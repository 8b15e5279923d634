-- Too few bytes say the empty table; else all places are read.
use mathlib.Core.Path.{ap, sym, ◌∙◌}
use Rattle.table_bytes.specs.Reading.{byte_at, table_said}
use Rattle.table_bytes.proofs.Enough.{enough_is, empty_said}
use Rattle.table_bytes.proofs.reading.read_table.Goals as goal

pub returns-then-bytes-lt-TABLE_SIZE : goal.returns-then-bytes-lt-TABLE_SIZE
returns-then-bytes-lt-TABLE_SIZE c = rw (c.no_thread.ensures, c.no_object.ensures) (empty_said c.args.bytes.now c.if-bytes-lt-TABLE_SIZE.true)

pub returns : goal.returns
returns c =
    (λ j. record {
      threadcount = byte_at c.args.bytes.now 0;
      objectcount = byte_at c.args.bytes.now 1;
      threads = c.read_records.ensures j;
      objects = c.read_records-2.ensures j;
    })
    ∙ sym (ap table_said (enough_is c.args.bytes.now c.if-bytes-lt-TABLE_SIZE.false))
