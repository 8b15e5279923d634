-- Examples of exits let out of an entry chain, and of an exit in 4 (document 02, L2).
use Rattle.std.specs.Prelude.{◌≡◌, Bool, true, false, [], ◌∷◌, ℕ}
use Rattle.lock_word.specs.declared.meaning.WordSeen.TheVariants.{Free}
use Rattle.lock_rules.specs.Actions.{finish_committed}
use Rattle.lock_rules.specs.Rules.{go_in, exit_go_in}
use Rattle.lock_rules.specs.declared.Sight.{Sight}
use Rattle.lock_rules.specs.declared.OnwardStep.TheVariants.{ToTell}
use Rattle.lock_rules.specs.declared.ChainWork.TheVariants.{MoveAndLetOut}
use Rattle.lock_table.specs.Record.{no_thread}
use Rattle.lock_table.specs.Access.{thread_at}
use Rattle.lock_table.specs.declared.operation.Operation.{Operation}
use Rattle.lock_table.specs.declared.operation.Operation.TheVariants.{Enter, Exit}
use Rattle.lock_table.specs.declared.phase.Phase.{Phase}
use Rattle.lock_table.specs.declared.phase.Phase.TheVariants.{Queued, Contending, Try, Leave}
use Rattle.lock_table.specs.declared.phase.Onward.TheVariants.{ToCheck, ToTell as OnToTell}
use Rattle.lock_table.specs.declared.record.{ThreadRecord.ThreadRecord, Monitor.Monitor, Table.Table}
use Rattle.lock_perform.specs.Moving.{CarriedOut, queued_exit, carry_out}

-- a thread at object 1, with a thread behind it in its chain
abbrev pub at_account : Operation → Phase → ℕ → ThreadRecord
at_account operation phase next = record { kept = 0; saved = 0; ticks = 0; object = 1; next = next; rank = 0; operation = operation; phase = phase }

-- Thread 1 holds the monitor and inflates. Threads 2, 3 and 4 are queued in this order, 2 and 4 in an exit; thread 5 contends.
abbrev pub crowded : Table
crowded =
    record {
      threadcount = 5;
      objectcount = 1;
      threads =
          at_account Enter Try 0
          ∷ at_account Exit (Queued OnToTell) 3
          ∷ at_account Enter (Queued ToCheck) 4
          ∷ at_account Exit (Queued OnToTell) 0
          ∷ at_account Enter Contending 0
          ∷ [];
      objects = [];
    }

abbrev pub crowd : Monitor
crowd = record { depth = 1; holder = 1; entry = 2; contention = 5; waiting = 0 }

abbrev pub after : CarriedOut
after = carry_out crowded crowd MoveAndLetOut 1 1

-- what an exit of thread 1 sees in 4: the flag, and who holds the monitor
abbrev pub told_by : Bool → ℕ → Sight
told_by flag holder =
    record { word = Free; flag = flag; holder = holder; depth = 0; entryempty = true; contentionempty = true; waiters = 0 }

pub record LetOutExamples : Type 0 where
  -- both exits are idle, with every field cleared
  pub first_out : thread_at after.table 2 ≡ no_thread
  pub last_out : thread_at after.table 4 ≡ no_thread
  -- the enter is first then, and behind it stands the contender
  pub first_left : after.monitor.entry ≡ 3
  pub behind : (thread_at after.table 3).next ≡ 5
  pub nobody_contends : after.monitor.contention ≡ 0
  -- threads 2 and 4 are unparked: bits 1 and 3
  pub unparked : after.unparked ≡ 10
  -- an exit that leaves the monitor is not queued
  pub leaving : queued_exit (at_account Exit Leave 0) ≡ false
  -- with flag 0 an exit in 4 finishes, whoever holds the monitor; with flag 1 it goes in
  pub told_held : exit_go_in 1 (told_by false 2) ≡ finish_committed (told_by false 2)
  pub told_free : exit_go_in 1 (told_by false 0) ≡ finish_committed (told_by false 0)
  pub goes_in : exit_go_in 1 (told_by true 2) ≡ go_in 1 (told_by true 2) ToTell
