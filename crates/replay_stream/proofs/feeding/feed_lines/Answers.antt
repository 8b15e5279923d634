use Rattle.replay_stream.proofs.feeding.feed_lines.Goals as goal

pub returns-then-inside : goal.returns-then-inside
returns-then-inside c = rw c.if-inside.true c.skip_line.ensures

pub returns-then-line_end-eq0 : goal.returns-then-line_end-eq0
returns-then-line_end-eq0 c = rw c.if-inside.false c.take_long_line.ensures

pub returns : goal.returns
returns c = rw c.if-inside.false c.take_lines.ensures
