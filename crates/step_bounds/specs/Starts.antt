-- What the steps of a thread are counted from, and how many there are at most from there: by operation, and by the phase to which a thread is unparked
-- (ours: document 02 asks for the six alone).
use Rattle.std.specs.Prelude.{ℕ, List, eqb}
use Rattle.laws.specs.Choice.{pick, either}
use Rattle.lock_rules.specs.declared.event.Event.{Event}
use Rattle.lock_rules.specs.declared.event.Event.TheVariants.{Begin, Step, Tick}
use Rattle.lock_table.specs.declared.record.Table.{Table}
use Rattle.step_bounds.specs.SixSteps.{along, step_limit}

pub data Start : Type 0 where
  -- it has begun nothing
  NotBegun : Start
  -- its last begin that was accepted, of the operation with this number
  Begun : ℕ → Start
  -- an event that unparked it and left it in this phase
  Unparked : ℕ → Start

-- Begun: one for a notify or a notify all, six for any other operation. Unparked: none for an exit that was let out, one to resume, else two.
abbrev pub most_from : Start → ℕ
most_from NotBegun = 0
most_from (Begun number) = pick (either (eqb number 4) (eqb number 5)) 1 step_limit
most_from (Unparked phase) = pick (eqb phase 0) 0 (pick (eqb phase 15) 1 2)

-- after an event of the thread's own, as in `own_steps`: a begin is a start
abbrev pub own_start : Event → ℕ → Start → Start
own_start (Begin number thread object limit) returned start = Begun number
own_start (Step thread) returned start = start
own_start Tick returned start = start

-- kept along a schedule as the count is, so it changes just where that starts again
abbrev pub start_of_steps : ℕ → Table → List Event → Start
start_of_steps n table events = along Unparked own_start n NotBegun table events
