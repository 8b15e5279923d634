-- The bytes of the engine's table, and every byte where it is refused: the operation's number is narrow already.
use Rattle.std.proofs.Common.{rules}
use Rattle.lock_rules.specs.Operations.{timed_wait}
use Rattle.lock_table.specs.Narrow.{narrow_of}
use Rattle.table_bytes.specs.Reading.{AreBytes, table_of}
use Rattle.lock_engine.proofs.Narrow.{narrow_begin}
use Rattle.lock_engine_c.proofs.RefusedBytes.{begin_promised}
use Rattle.lock_engine_c.proofs.calls.duskclamp_timed_wait.Goals as goal

pub returns : goal.returns
unfolding narrow_of
returns c =
    let given = c.args in
    let small : AreBytes given.bytes.now = search rules in
    let narrowed = narrow_begin (table_of given.bytes.now) given.thread timed_wait given.object given.limit in
    let answers = c.handle_event.ensures in
    let (bytes, refused) =
    begin_promised given.bytes.now small given.thread timed_wait given.object given.limit _ _
    (simp (answers.value, c.narrow-2.ensures, c.narrow.ensures))
    (simp (answers.bytes_after, c.narrow-2.ensures, c.narrow.ensures)) in
    record {
      value = simp (answers.value, c.narrow-2.ensures, c.narrow.ensures, narrowed);
      bytes_after = bytes;
      refused_to = refused;
    }
