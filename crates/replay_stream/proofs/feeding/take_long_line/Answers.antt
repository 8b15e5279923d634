use Rattle.replay_parts.proofs.Taken.{long_part}
use Rattle.replay_stream.proofs.feeding.take_long_line.Goals as goal

pub returns : goal.returns
returns c =
    let turned = c.take_line-turn.ensures in
    λ last goes_on. long_part c.requires.0 c.requires.1 turned.moved turned.front turned.within
