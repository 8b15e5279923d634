use Rattle.replay_program.proofs.Taking.{taken_ok, taken_err}
use Rattle.replay_program.proofs.running.take_part.Goals as goal

pub returns-in-Ok : goal.returns-in-Ok
returns-in-Ok g c = rw c.keep.ensures.left (taken_ok c.requires.0 c.keep.ensures.kept c.in-Ok.ensures)

pub returns-in-Err : goal.returns-in-Err
returns-in-Err g c = rw c.keep-in-Err.ensures.left (taken_err c.requires.0 c.keep-in-Err.ensures.kept c.in-Err.ensures)
