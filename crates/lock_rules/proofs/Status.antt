-- What document 01 says of a thread in a state: woken, parked for entry, unparked, with an unfinished operation; and that it can take a step.
use mathlib.Core.Bool.{Bool, true, false}
use lib.Dec.{T, eqb}
use Rattle.lock_rules.specs.{Numbers.phase_of_doing, Rules.onward}
use Rattle.lock_rules.specs.declared.ThreadState.{ThreadState}
use Rattle.lock_rules.specs.declared.ThreadState.TheVariants.{Idle, Running, Queued, Contending, Waiting}

-- woken means carrying 15 or in 15
abbrev pub is_woken : ThreadState → Bool
is_woken Idle = false
is_woken (Running doing) = eqb (phase_of_doing doing) 15
is_woken (Queued carried) = eqb (phase_of_doing (onward carried)) 15
is_woken Contending = false
is_woken (Waiting suspension) = false

-- parked for entry means phase 5 or 8
abbrev pub parked_for_entry : ThreadState → Bool
parked_for_entry Idle = false
parked_for_entry (Running doing) = false
parked_for_entry (Queued carried) = true
parked_for_entry Contending = true
parked_for_entry (Waiting suspension) = false

-- unparked means any phase but 5, 8 and 14
abbrev pub unparked : ThreadState → Bool
unparked Idle = true
unparked (Running doing) = true
unparked (Queued carried) = false
unparked Contending = false
unparked (Waiting suspension) = false

-- an operation is unfinished until the step that returns 1, 18 or 19, which makes its thread idle
abbrev pub unfinished : ThreadState → Bool
unfinished Idle = false
unfinished (Running doing) = true
unfinished (Queued carried) = true
unfinished Contending = true
unfinished (Waiting suspension) = true

-- a thread that can take a step
abbrev pub Runs : ThreadState → Type 0
Runs state = T (unparked state) × T (unfinished state)
