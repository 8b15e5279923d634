-- What each event returns, and what a schedule shows of it. Nothing of a table is shown.
use Rattle.std.specs.Prelude.{ℕ, Bool}
use Rattle.lock_rules.specs.declared.Answer.{Answer}
use Rattle.lock_rules.specs.declared.Answer.TheVariants.{GoneOn}
use Rattle.lock_rules.specs.declared.event.Event.{Event}
use Rattle.lock_rules.specs.Numbers.{returned_of, woken_of}

pub data Reply : Type 0 where
  -- 0, of a begin or a tick
  Accepted : Reply
  -- the number of a refusal before any rule: 11 to 17, 23
  Refused : ℕ → Reply
  -- a step's answer, and whether the step was marked (c)
  Answered : Answer → Bool → Reply

-- document 01, "Returned first": "begun, or gone on"
abbrev pub returned : Reply → ℕ
returned Accepted = returned_of GoneOn
returned (Refused number) = number
returned (Answered answer commits) = returned_of answer

abbrev pub woken : Reply → ℕ
woken Accepted = woken_of GoneOn
woken (Refused number) = 0
woken (Answered answer commits) = woken_of answer

pub record Shown : Type 0 where
  pub event : Event
  pub reply : Reply
