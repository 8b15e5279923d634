-- Document 01's listing, computed from the definitions: returned, the thread's phase, woken, the word of object 1.
use Prim.Native.Nat.{ℕ, ◌+◌, ◌*◌}
use mathlib.Core.Path.{◌≡◌, refl}
use mathlib.Core.Bool.{false}
use mathlib.Core.List.{List, [], ◌∷◌}
use Rattle.laws.specs.{Update.update, Count.count}
use Rattle.lock_rules.specs.Numbers.{asked_for, phase_of}
use Rattle.lock_rules.specs.Rules.{enter_look, exit_owned, go_in_again, go_in, exit_go_in, enter_check, enter_try, exit_test, exit_tell, exit_leave}
use Rattle.lock_rules.specs.Rules.{decide}
use Rattle.lock_word.specs.declared.meaning.WordSeen.{WordSeen}
use Rattle.lock_word.specs.declared.meaning.WordSeen.TheVariants.{Free, Anonymous, Fat, Flat, Reserved}
use Rattle.lock_rules.specs.declared.event.Event.{Event}
use Rattle.lock_rules.specs.declared.event.Event.TheVariants.{Begin, Step}
use Rattle.lock_rules.specs.Events.{returned, woken}
use Rattle.lock_rules.specs.Gate.{event_thread}
use Rattle.lock_rules.proofs.Perform.{enter_queue_all}
use Rattle.lock_rules.proofs.Tables.{ListTable, turn, fresh}

abbrev bits : ℕ → WordSeen → ℕ
bits o Free = 0
bits o Anonymous = 2
bits o Fat = 256 * o + 1
bits o (Flat t c) = 256 * t + 4 * c
bits o (Reserved t c) = 256 * t + 4 * c + 2

pub record Line : Type 0 where
  returned : ℕ
  phase : ℕ
  woken : ℕ
  word : ℕ

abbrev lines : ℕ → ℕ → ListTable → List Event → List Line
lines threads objects table [] = []
lines threads objects table (event ∷ rest) =
    let result = turn threads objects table event in
    record {
      returned = returned result.reply;
      phase = phase_of (result.table.threads (event_thread event)).state;
      woken = woken result.reply;
      word = bits 1 (result.table.objects 1).word;
    } ∷ lines threads objects result.table rest

abbrev line : ℕ → ℕ → ℕ → Line
line number phase word = record { returned = number; phase = phase; woken = 0; word = word }

listing : lines 2 1 (fresh false (λ t. 0))
    (Begin 1 1 1 0 ∷ Step 1 ∷ Begin 1 2 1 0 ∷ Step 2 ∷ Step 2 ∷ Step 2 ∷ Step 2 ∷ Begin 2 1 1 0 ∷ Step 1 ∷ Step 1 ∷ Step 1 ∷ Step 1 ∷ Step 1 ∷ Step 2 ∷ Step 2 ∷ [])
    ≡ line 0 1 0 ∷ line 1 0 0x100 ∷ line 0 1 0x100 ∷ line 0 4 0x100 ∷ line 0 6 0x100 ∷ line 0 7 0x100 ∷ line 2 8 0x100 ∷ line 0 1 0x100 ∷ line 0 9 0
    ∷ line 0 4 0 ∷ line 0 10 0 ∷ line 0 11 0 ∷ line 1 0 0 ∷ line 0 7 0 ∷ line 1 0 0x101 ∷ []
unfolding update count enter_queue_all asked_for decide enter_look exit_owned go_in go_in_again exit_go_in enter_check enter_try exit_test exit_tell exit_leave
listing = refl
