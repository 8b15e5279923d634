-- The digits still to be stored give what all of them give.
use Rattle.std.proofs.Common.{◌≡◌}
use Rattle.std.proofs.lemmas.List.Edits.{sets}
use Rattle.replay_text.specs.Digits.{digits}
use Rattle.replay_text.proofs.digits.put_digits.Given as goal

abbrev pub invariant-loop-place : goal.invariant-loop-place
invariant-loop-place l = sets l.out l.at (digits l.base l.place l.rest) ≡ sets l.fn.out l.at (digits l.base l.width l.number)
