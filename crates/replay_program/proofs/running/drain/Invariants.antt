-- Each turn passes a part on and writes what the feed gave.
use Rattle.std.proofs.Common.{◌≡◌, false, length}
use Rattle.replay_program.proofs.Draining.{Draining}
use Rattle.replay_program.proofs.running.drain.Given as goal

abbrev pub invariant-loop-rest : goal.invariant-loop-rest
invariant-loop-rest g l = record {
  same_length : length l.out ≡ length l.fn.out;
  draining : Draining false (g.W.Write.contents l.fn.output) (g.W.Write.contents l.output) l.fn.start l.last l.input l.stream l.rest;
}

abbrev pub decreases-loop-rest : goal.decreases-loop-rest
decreases-loop-rest g l = length l.rest
