use Rattle.replay_program.proofs.Written.{written_first, written_next}
use Rattle.replay_program.proofs.moving.write_out.Goals as goal

pub loop-init : goal.loop-init
loop-init g c = written_first _ c.args.bytes.now

pub loop-preserved : goal.loop-preserved
loop-preserved g c = written_next c.in-Ok.count c.loop.invariant c.in-Ok.ensures.moved.within c.in-Ok.ensures.wrote
