-- The numbers that documents 01 and 02 give to operations, phases and answers.
use Rattle.std.specs.Prelude.{ℕ, eqb}
use Rattle.laws.specs.Choice.{pick}
use Rattle.lock_rules.specs.Operations.{Enter, Exit, Wait, Notify, NotifyAll, timed_wait}
use Rattle.lock_rules.specs.Operations.{Asked}
use Rattle.lock_rules.specs.Operations.{Unknown, Known}
use Rattle.lock_rules.specs.declared.Limit.TheVariants.{Unlimited, Ticks}
use Rattle.lock_rules.specs.declared.Doing.{Doing}
use Rattle.lock_rules.specs.declared.Doing.TheVariants.{EnterLook, EnterStore, EnterCancel, EnterGoIn, EnterCheck, EnterTry, ExitLook}
use Rattle.lock_rules.specs.declared.Doing.TheVariants.{ExitStore, ExitGoIn, ExitTest, ExitTell, ExitLeave, WaitLook, WaitCancel, WaitGoIn}
use Rattle.lock_rules.specs.declared.Doing.TheVariants.{WaitInflate, WaitGiveUp, WaitResume, NotifyLook, NotifyAllLook}
use Rattle.lock_rules.specs.declared.ThreadState.{ThreadState}
use Rattle.lock_rules.specs.declared.ThreadState.TheVariants.{Idle, Running, Queued, Contending, Waiting}
use Rattle.lock_rules.specs.declared.event.Refusal.{Refusal}
use Rattle.lock_rules.specs.declared.event.Refusal.TheVariants.{NotSound, NoSuchThread, NoSuchObject, NotIdle, ThreadIdle, ThreadParked}
use Rattle.lock_rules.specs.declared.event.Refusal.TheVariants.{NoSuchOperation, LimitOutOfRange}
use Rattle.lock_rules.specs.declared.Answer.{Answer}
use Rattle.lock_rules.specs.declared.Answer.TheVariants.{GoneOn, Finished, Parked, NotOwner, TooDeep, NoRule}

-- the operation of a number; the limit is looked at for a timed wait alone
unfoldable pub asked_for : ℕ → ℕ → Asked
asked_for number limit =
    pick (eqb number 1) (Known Enter Unlimited)
    (pick (eqb number 2) (Known Exit Unlimited)
    (pick (eqb number 3) (Known Wait Unlimited)
    (pick (eqb number 4) (Known Notify Unlimited)
    (pick (eqb number 5) (Known NotifyAll Unlimited)
    (pick (eqb number timed_wait) (Known Wait (Ticks limit)) Unknown)))))

-- the phase of a thread that can take a step
abbrev pub phase_of_doing : Doing → ℕ
phase_of_doing EnterLook = 1
phase_of_doing (EnterStore count) = 2
phase_of_doing EnterCancel = 3
phase_of_doing EnterGoIn = 4
phase_of_doing EnterCheck = 6
phase_of_doing EnterTry = 7
phase_of_doing ExitLook = 1
phase_of_doing (ExitStore count) = 2
phase_of_doing ExitGoIn = 4
phase_of_doing ExitTest = 9
phase_of_doing ExitTell = 10
phase_of_doing ExitLeave = 11
phase_of_doing (WaitLook limit) = 1
phase_of_doing (WaitCancel limit) = 3
phase_of_doing (WaitGoIn limit) = 4
phase_of_doing (WaitInflate limit) = 12
phase_of_doing (WaitGiveUp limit) = 13
phase_of_doing (WaitResume suspension) = 15
phase_of_doing NotifyLook = 1
phase_of_doing NotifyAllLook = 1

abbrev pub phase_of : ThreadState → ℕ
phase_of Idle = 0
phase_of (Running doing) = phase_of_doing doing
phase_of (Queued carried) = 5
phase_of Contending = 8
phase_of (Waiting suspension) = 14

-- document 01, "Returned first": an event is refused with any number from this one up
abbrev pub first_refusal : ℕ
first_refusal = 11

unfoldable pub refusal_number : Refusal → ℕ
refusal_number NotSound = first_refusal
refusal_number NoSuchThread = 12
refusal_number NoSuchObject = 13
refusal_number NotIdle = 14
refusal_number ThreadIdle = 15
refusal_number ThreadParked = 16
refusal_number NoSuchOperation = 17
refusal_number LimitOutOfRange = 23

abbrev pub returned_of : Answer → ℕ
returned_of GoneOn = 0
returned_of (Finished woken) = 1
returned_of Parked = 2
returned_of NotOwner = 18
returned_of TooDeep = 19
returned_of NoRule = 20

-- with a finished operation, the threads woken by a notify, and of a timed wait 1 if it ran out; else 0
abbrev pub woken_of : Answer → ℕ
woken_of GoneOn = 0
woken_of (Finished woken) = woken
woken_of Parked = 0
woken_of NotOwner = 0
woken_of TooDeep = 0
woken_of NoRule = 0
