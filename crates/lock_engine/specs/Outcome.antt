-- The replies and document 01's numbers for them ("Returned first").
use Rattle.std.specs.Prelude.{ℕ}
use Rattle.lock_rules.specs.Numbers.{refusal_number, returned_of, woken_of}
use Rattle.lock_rules.specs.declared.Answer.TheVariants.{GoneOn}
use Rattle.lock_engine.specs.declared.outcome.Reply.{Reply}
use Rattle.lock_engine.specs.declared.outcome.Reply.TheVariants.{Accepted, Refused, Answered}

-- "begun, or gone on"
unfoldable pub reply_returned : Reply → ℕ
reply_returned Accepted = returned_of GoneOn
reply_returned (Refused refusal) = refusal_number refusal
reply_returned (Answered answer) = returned_of answer

unfoldable pub reply_woken : Reply → ℕ
reply_woken Accepted = woken_of GoneOn
reply_woken (Refused refusal) = 0
reply_woken (Answered answer) = woken_of answer
