use Rattle.replay_stream.proofs.NoEvent.{open_not_in_place}
use Rattle.replay_stream.proofs.Turned.{turned, taken_by_parts}
use Rattle.replay_stream.proofs.turn.take_line.Goals as goal

pub returns : goal.returns
returns c =
    let state = c.args.state in
    let said = c.read_line-said.ensures in
    let gave =
    taken_by_parts state c.args.issound (rw said (open_not_in_place state.reporting state.tally.lines state.session.stage c.args.line.now c.requires.2)) said
    c.line_reaction-reaction.ensures c.line_answer-answer.ensures c.lines_after.ensures c.largest_after.ensures in
    turned state c.requires.0 c.args.line.now c.requires.1 gave c.put_answer-wrote.ensures
