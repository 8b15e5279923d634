-- What was read is passed on part by part, and less than a line is kept between two reads, so that the buffer always has room for more.
use Rattle.std.proofs.Common.{◌≡◌, ◌≤◌, false, length, take}
use Rattle.replay_lines.specs.Cutting.{line_limit}
use Rattle.replay_program.proofs.ReadSoFar.{Read}
use Rattle.replay_program.proofs.running.run.Given as goal

abbrev pub invariant-loop : goal.invariant-loop
invariant-loop g l = record {
  same_buffer : length l.buffer ≡ length l.fn.buffer;
  same_out : length l.out ≡ length l.fn.out;
  short : l.held ≤ line_limit;
  read : Read l.reporting false false (g.R.Read.remaining l.fn.input) (g.R.Read.remaining l.input) (g.W.Write.contents l.fn.output) (g.W.Write.contents l.output) l.stream (take l.held l.buffer);
}
