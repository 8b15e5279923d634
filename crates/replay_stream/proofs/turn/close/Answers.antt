use Rattle.replay_stream.proofs.Turned.{closed}
use Rattle.replay_stream.proofs.turn.close.Goals as goal

pub returns : goal.returns
returns c = closed c.args.state c.requires c.closed_state.ensures c.put_closing-wrote.ensures
