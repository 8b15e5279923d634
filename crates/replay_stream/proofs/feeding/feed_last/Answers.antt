use Rattle.std.proofs.Common.{arith}
use Rattle.replay_stream.proofs.feeding.feed_last.Goals as goal
use Rattle.replay_stream.proofs.feeding.feed_last.Goals.{else-out-ge-END_ROOM-via-then-out-ge-END_ROOM+else-line_end-eq0, else-out-ge-END_ROOM-via-else-out-ge-END_ROOM}

pub returns : goal.returns
returns c =
    c.feed_lines.ensures _
    (λ ends room. elim c.else-out-ge-END_ROOM.branch [
      | else-out-ge-END_ROOM-via-then-out-ge-END_ROOM+else-line_end-eq0 w ↦ omega (arith, w.if-line_end-eq0.false, w.line_end.ensures)
      | else-out-ge-END_ROOM-via-else-out-ge-END_ROOM w ↦ absurd (omega (arith, room, w.if-out-ge-END_ROOM.false))
    ])
