-- Too few bytes say the empty table, whose threads are all idle.
use mathlib.Core.Path.{◌∙◌}
use mathlib.Core.List.{[]}
use Rattle.lock_table.specs.Limits.{thread_limit}
use Rattle.lock_table.specs.Record.{no_thread}
use Rattle.lock_table.specs.Access.{thread_at}
use Rattle.table_bytes.specs.Reading.{thread_from}
use Rattle.table_bytes.proofs.Enough.{enough_is, enough_none, numbered_placed, numbered_none, empty_thread}
use Rattle.table_bytes.proofs.reading.read_thread.Goals as goal

pub returns-then-bytes-lt-TABLE_SIZE : goal.returns-then-bytes-lt-TABLE_SIZE
unfolding thread_at
returns-then-bytes-lt-TABLE_SIZE c =
    c.no_thread.ensures
    ∙ rw (enough_none c.args.bytes.now c.if-bytes-lt-TABLE_SIZE.true)
    (numbered_none thread_limit c.args.number (thread_from []) no_thread empty_thread)

pub returns-in-Some : goal.returns-in-Some
unfolding thread_at
returns-in-Some c =
    c.record_at.ensures
    ∙ rw (enough_is c.args.bytes.now c.if-bytes-lt-TABLE_SIZE.false)
    (numbered_placed thread_limit c.args.number (thread_from c.args.bytes.now) no_thread c.in-Some.place c.in-Some.ensures)
