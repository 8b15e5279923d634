-- What an effect does to the lock word, and what the work on chains does to the threads that it moves: document 01, "Steps".
use Prim.Native.Nat.{ℕ}
use mathlib.Core.Bool.{Bool, true, false}
use Rattle.laws.specs.Choice.{pick}
use Rattle.lock_word.specs.Meaning.{cancelled}
use Rattle.lock_rules.specs.Rules.{onward}
use Rattle.lock_rules.specs.declared.OnwardStep.TheVariants.{ToCheck, ToResume}
use Rattle.lock_rules.specs.declared.{Doing.Doing, ThreadState.ThreadState, WordChange.WordChange}
use Rattle.lock_rules.specs.declared.Doing.TheVariants.{EnterLook, EnterCancel, EnterGoIn, EnterCheck, EnterTry, ExitLook}
use Rattle.lock_rules.specs.declared.Doing.TheVariants.{ExitGoIn, ExitTest, ExitTell, ExitLeave, WaitLook, WaitCancel, WaitGoIn}
use Rattle.lock_rules.specs.declared.Doing.TheVariants.{WaitInflate, WaitGiveUp, WaitResume, NotifyLook, NotifyAllLook}
use Rattle.lock_rules.specs.declared.ThreadState.TheVariants.{Idle, Running, Queued, Contending, Waiting}
use Rattle.lock_word.specs.declared.meaning.WordSeen.{WordSeen}
use Rattle.lock_word.specs.declared.meaning.WordSeen.TheVariants.{Free, Fat, Flat, Reserved}
use Rattle.lock_rules.specs.declared.WordChange.TheVariants.{Unchanged, Freed, OwnFlat, OwnReserved, Cancelled, Inflated}
use Rattle.lock_rules.proofs.Each.{each_doing, each_state, each_carried}

-- the word after a step of `thread`
abbrev pub seen_after : ℕ → WordChange → WordSeen → WordSeen
seen_after thread Unchanged word = word
seen_after thread Freed word = Free
seen_after thread (OwnFlat count) word = Flat thread count
seen_after thread (OwnReserved count) word = Reserved thread count
seen_after thread Cancelled word = cancelled word
seen_after thread Inflated word = Fat

-- the first of the entry chain takes its carried phase
abbrev pub handed : ThreadState → ThreadState
handed = each_state _ (Idle, Running, λ carried. Running (onward carried), Contending, Waiting)

-- moved contenders and waiters take phase 5; contenders carry 6, waiters 15
abbrev pub moved : ThreadState → ThreadState
moved = each_state _ (Idle, Running, Queued, Queued ToCheck, λ suspension. Queued (ToResume suspension))

-- a queued exit, which inflating lets out, finished and idle
abbrev pub is_queued_exit : ThreadState → Bool
is_queued_exit =
    each_state _ (false, λ doing. false, each_carried _ (false, true, λ limit. false, λ suspension. false), false, λ suspension. false)

abbrev pub let_out_state : ThreadState → ThreadState
let_out_state state = pick (is_queued_exit state) Idle state

-- a thread in phase 2 goes back to 1
abbrev pub look_again : Doing → Doing
look_again =
    each_doing _ (
      (EnterLook, λ count. EnterLook, EnterCancel, EnterGoIn, EnterCheck, EnterTry),
      (ExitLook, λ count. ExitLook, ExitGoIn, ExitTest, ExitTell, ExitLeave),
      (WaitLook, WaitCancel, WaitGoIn, WaitInflate, WaitGiveUp, WaitResume),
      NotifyLook,
      NotifyAllLook,
    )

abbrev pub sent_back : ThreadState → ThreadState
sent_back = each_state _ (Idle, λ doing. Running (look_again doing), Queued, Contending, Waiting)
