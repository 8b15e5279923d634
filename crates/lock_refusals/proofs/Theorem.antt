-- Demand 1: an event is refused with the first refusal that applies and otherwise accepted, and what a refused event leaves.
use mathlib.Core.Path.{◌≡◌, refl}
use mathlib.Core.Logic.{inl, inr}
use mathlib.Core.Bool.{true}
use native.Mathlib.Omega.{arith}
use Rattle.lock_rules.specs.Numbers.{returned_of}
use Rattle.lock_rules.specs.declared.event.Event.{Event}
use Rattle.lock_rules.specs.declared.event.Event.TheVariants.{Begin, Step, Tick}
use Rattle.lock_rules.specs.declared.Answer.{Answer}
use Rattle.lock_rules.specs.declared.Answer.TheVariants.{GoneOn, Finished, Parked, NotOwner, TooDeep, NoRule}
use Rattle.lock_table.specs.declared.record.Table.{Table}
use Rattle.lock_engine.specs.{Outcome.reply_returned, Handle.handle}
use Rattle.lock_rules.proofs.RefusalNumbers.{of_gate}
use Rattle.lock_engine.specs.declared.outcome.Reply.{Reply}
use Rattle.lock_engine.specs.declared.outcome.Reply.TheVariants.{Accepted, Refused, Answered}
use Rattle.lock_refusals.specs.Refusals.{refusals}
use Rattle.lock_refusals.specs.Demand.{returned, DemandOne}
use Rattle.lock_refusals.proofs.Rows.{from_eleven, InRange, refused_by_first}
use Rattle.lock_refusals.proofs.Steps.{event_ended}

-- no event returns 3 to 10
answer_range : (answer : Answer) → InRange (returned_of answer)
answer_range GoneOn = inl (omega arith)
answer_range (Finished woken) = inl (omega arith)
answer_range Parked = inl (omega arith)
answer_range NotOwner = inr (omega arith)
answer_range TooDeep = inr (omega arith)
answer_range NoRule = inr (omega arith)

reply_range : (reply : Reply) → InRange (reply_returned reply)
unfolding reply_returned
reply_range Accepted = inl (omega arith)
reply_range (Refused refusal) = inr (of_gate refusal).high
reply_range (Answered answer) = answer_range answer

-- the numbers of the refusals
numbers_high : (table : Table) (event : Event) → from_eleven (refusals table event) ≡ true
numbers_high table (Begin operation thread object limit) = refl
numbers_high table (Step thread) = refl
numbers_high table Tick = refl

pub demand_one : DemandOne
demand_one table typed event = (
  refused_by_first (refusals table event) (returned (handle table event)) (reply_range (handle table event).reply) (numbers_high table event)
      (event_ended table typed event).refused,
  (event_ended table typed event).left,
)
