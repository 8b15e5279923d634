-- Document 01's number for each phase, and the phase that a queued thread carries.
use Rattle.std.specs.Prelude.{ℕ}
use Rattle.lock_table.specs.declared.phase.Onward.{Onward}
use Rattle.lock_table.specs.declared.phase.Onward.TheVariants.{ToCheck, ToTell, ToInflate, ToResume}
use Rattle.lock_table.specs.declared.phase.Phase.{Phase}
use Rattle.lock_table.specs.declared.phase.Phase.TheVariants.{Idle, Look, Store, Cancel, GoIn, Queued, Check, Try, Contending, Test, Tell}
use Rattle.lock_table.specs.declared.phase.Phase.TheVariants.{Leave, Inflate, GiveUp, Waiting, Resume}

unfoldable pub onward_number : Onward → ℕ
onward_number ToCheck = 6
onward_number ToTell = 10
onward_number ToInflate = 12
onward_number ToResume = 15

unfoldable pub onward_phase : Onward → Phase
onward_phase ToCheck = Check
onward_phase ToTell = Tell
onward_phase ToInflate = Inflate
onward_phase ToResume = Resume

unfoldable pub phase_number : Phase → ℕ
phase_number Idle = 0
phase_number Look = 1
phase_number Store = 2
phase_number Cancel = 3
phase_number GoIn = 4
phase_number (Queued onward) = 5
phase_number Check = 6
phase_number Try = 7
phase_number Contending = 8
phase_number Test = 9
phase_number Tell = 10
phase_number Leave = 11
phase_number Inflate = 12
phase_number GiveUp = 13
phase_number Waiting = 14
phase_number Resume = 15

-- 0 for a thread that is not queued
unfoldable pub carried_number : Phase → ℕ
carried_number Idle = 0
carried_number Look = 0
carried_number Store = 0
carried_number Cancel = 0
carried_number GoIn = 0
carried_number (Queued onward) = onward_number onward
carried_number Check = 0
carried_number Try = 0
carried_number Contending = 0
carried_number Test = 0
carried_number Tell = 0
carried_number Leave = 0
carried_number Inflate = 0
carried_number GiveUp = 0
carried_number Waiting = 0
carried_number Resume = 0
