-- What is still to be read gives what the whole gives.
use Rattle.std.proofs.Common.{◌≡◌, ◌+◌, drop}
use Rattle.replay_lines.specs.Number.{read_digits}
use Rattle.replay_lines.proofs.number.read_digits.Given as goal

abbrev pub invariant-loop-index : goal.invariant-loop-index
invariant-loop-index l = read_digits l.value (l.index + 1) (drop l.index l.text) ≡ read_digits l.first 1 l.text
