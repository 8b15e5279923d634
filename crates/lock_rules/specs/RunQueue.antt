-- The run queue of an interpreter that keeps it from answers and sets alone (ours, for document 02's L3): who has begun comes in; who has finished, was refused
-- with 18 or 19, is parked, or was refused with 15, goes out; who is in a set comes in. Nothing of a table is looked at.
use Rattle.std.specs.Prelude.{ℕ, Bool, false, not, eqb}
use Rattle.laws.specs.Choice.{both, either}
use Rattle.lock_rules.specs.Numbers.{refusal_number, returned_of}
use Rattle.lock_rules.specs.declared.event.Event.{Event}
use Rattle.lock_rules.specs.declared.event.Event.TheVariants.{Begin, Step, Tick}
use Rattle.lock_rules.specs.declared.event.Refusal.TheVariants.{ThreadIdle}
use Rattle.lock_rules.specs.declared.Answer.TheVariants.{GoneOn, Finished, Parked, NotOwner, TooDeep}

-- whether a thread is in it
abbrev pub Queue : Type 0
Queue = ℕ → Bool

-- an event of thread n that counts: a step, refused or not, or a begin that is accepted
unfoldable pub own_event : Event → ℕ → ℕ → Bool
own_event (Begin number thread object limit) returned n = both (eqb n thread) (eqb returned (returned_of GoneOn))
own_event (Step thread) returned n = eqb n thread
own_event Tick returned n = false

-- what a step returns when its thread goes out
unfoldable pub goes_out : ℕ → Bool
goes_out returned =
    either (eqb returned (returned_of (Finished 0)))
    (either (eqb returned (returned_of Parked))
    (either (eqb returned (refusal_number ThreadIdle)) (either (eqb returned (returned_of NotOwner)) (eqb returned (returned_of TooDeep)))))

-- whether thread n is in the queue after the event, before its set is looked at
unfoldable pub own_queued : Event → ℕ → Bool → ℕ → Bool
own_queued (Begin number thread object limit) returned was n = either (own_event (Begin number thread object limit) returned n) was
own_queued (Step thread) returned was n = both (not (both (own_event (Step thread) returned n) (goes_out returned))) was
own_queued Tick returned was n = was

-- the queue after an event that returned this number and unparked these threads
abbrev pub queue_after : Queue → Event → ℕ → (ℕ → Bool) → Queue
queue_after queue event returned unparked n = either (unparked n) (own_queued event returned (queue n) n)
