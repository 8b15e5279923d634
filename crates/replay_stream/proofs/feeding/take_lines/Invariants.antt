-- Each turn takes the first line of the rest, and the table is as sound as it is known to be.
use Rattle.std.proofs.Common.{length}
use Rattle.replay_stream.specs.Stream.{joined}
use Rattle.replay_stream.proofs.Turned.{Between}
use Rattle.replay_stream.proofs.feeding.take_lines.Given as goal

abbrev pub invariant-loop-out : goal.invariant-loop-out
invariant-loop-out l =
    Between (joined l.reporting l.initial.stage l.initial.table l.initial.tally) l.input l.fn.out l.issound l.out (joined l.reporting l.stage l.table l.tally) l.rest l.wrote

abbrev pub decreases-loop-out : goal.decreases-loop-out
decreases-loop-out l = length l.rest
