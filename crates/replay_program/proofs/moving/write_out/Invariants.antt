-- What is left to write stands at the end, and what stands before it was written.
use Rattle.replay_program.proofs.Written.{WrittenSoFar}
use Rattle.replay_program.proofs.moving.write_out.Given as goal

abbrev pub invariant-loop : goal.invariant-loop
invariant-loop g l = WrittenSoFar (g.W.Write.contents l.fn.output) (g.W.Write.contents l.output) l.bytes l.rest
