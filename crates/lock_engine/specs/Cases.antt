-- The cases K5 and K7 to K9 of document 01 as rows, and all nine cases as one table, those about words first.
use Rattle.std.specs.Prelude.{ℕ, ◌≡◌, false, List, [], ◌∷◌, ◌++◌}
use Rattle.lock_word.specs.Cases.{Case, AllHold, case_numbers, word_cases}
use Rattle.lock_rules.specs.declared.Doing.TheVariants.{EnterLook, EnterGoIn, ExitLook}
use Rattle.lock_rules.specs.declared.Doing.{Doing}
use Rattle.lock_rules.specs.declared.ThreadState.TheVariants.{Running}
use Rattle.lock_table.specs.Record.{no_monitor, with_word, with_monitor}
use Rattle.lock_table.specs.Access.{thread_at, set_thread, object_at, set_object}
use Rattle.lock_table.specs.Fresh.{sized_request, table_of, fresh_of, fresh_returned}
use Rattle.lock_table.specs.Phase.{phase_number}
use Rattle.lock_table.specs.declared.record.Monitor.{Monitor}
use Rattle.lock_table.specs.declared.record.Table.{Table}
use Rattle.lock_perform.specs.State.{write_thread}
use Rattle.lock_engine.specs.Outcome.{reply_returned}
use Rattle.lock_engine.specs.Handle.{step}

-- three threads and one object with this word and monitor; thread 3 is at it, doing this
abbrev pub case_table : ℕ → Monitor → Doing → Table
case_table word monitor doing =
    let fresh = (table_of (sized_request 3 1 false)) in
    set_object (set_thread fresh 3 (write_thread 3 1 (Running doing) (thread_at fresh 3))) 1 (with_monitor (with_word (object_at fresh 1) word) monitor)

-- the step of thread 3 returns this number and leaves the thread in this phase and the object with this word and depth
abbrev pub Steps : Table → ℕ → ℕ → ℕ → ℕ → Type 0
Steps table returned phase word depth =
    let outcome = step table 3 in
    (reply_returned outcome.reply ≡ returned)
    × (phase_number (thread_at outcome.table 3).phase ≡ phase)
    × ((object_at outcome.table 1).word ≡ word)
    × ((object_at outcome.table 1).monitor.depth ≡ depth)

-- held by thread 3 at this depth
abbrev pub held : ℕ → Monitor
held depth = record { depth = depth; holder = 3; entry = 0; contention = 0; waiting = 0 }

abbrev pub engine_cases : List Case
engine_cases =
    record { number = 5; states = Steps (case_table 0x0003fc no_monitor EnterLook) 0 4 0x0003fc 0 }
    ∷ record { number = 5; states = Steps (case_table 0x0003f8 no_monitor EnterLook) 1 0 0x0003fc 0 }
    ∷ record { number = 7; states = fresh_returned (fresh_of (sized_request 32 1 false)) ≡ 0 }
    ∷ record { number = 7; states = fresh_returned (fresh_of (sized_request 33 1 false)) ≡ 22 }
    ∷ record { number = 8; states = Steps (case_table 0x000002 no_monitor ExitLook) 18 0 0x000002 0 }
    ∷ record { number = 9; states = Steps (case_table 0x000101 (held 65534) EnterGoIn) 1 0 0x000101 65535 }
    ∷ record { number = 9; states = Steps (case_table 0x000101 (held 65535) EnterGoIn) 19 0 0x000101 65535 }
    ∷ []

abbrev pub all_cases : List Case
all_cases = word_cases ++ engine_cases

-- every row holds, and no row of K1 to K9 is missing
abbrev pub NineCases : Type 0
NineCases = AllHold all_cases × (case_numbers all_cases ≡ 1 ∷ 1 ∷ 2 ∷ 3 ∷ 4 ∷ 6 ∷ 5 ∷ 5 ∷ 7 ∷ 7 ∷ 8 ∷ 9 ∷ 9 ∷ [])
