-- The rules of all steps: document 01, "Steps", phase by phase in its order. (c) there is `commits = true` here; "else 20" is `None`.
use Rattle.std.specs.Prelude.{ℕ, ◌+◌, ◌-◌, true, false, eqb, ltb, Option, None}
use Rattle.laws.specs.Choice.{pick, both}
use Rattle.lock_rules.specs.Actions.{keep_object, go_on, not_owner, finish_committed, finish, finish_word, finish_depth, let_go, inflate, cancel_word}
use Rattle.lock_rules.specs.Actions.{become_holder, raise_flag}
use Rattle.lock_word.specs.Depth.{depth_limit}
use Rattle.lock_word.specs.Layout.{count_limit}
use Rattle.lock_word.specs.Meaning.{owner_of}
use Rattle.lock_rules.specs.Operations.{Operation}
use Rattle.lock_rules.specs.Operations.{Enter, Exit, Wait, Notify, NotifyAll}
use Rattle.lock_rules.specs.Limits.{run_out}
use Rattle.lock_rules.specs.declared.Limit.{Limit}
use Rattle.lock_rules.specs.declared.Suspension.{Suspension}
use Rattle.lock_rules.specs.declared.OnwardStep.{OnwardStep}
use Rattle.lock_rules.specs.declared.OnwardStep.TheVariants.{ToCheck, ToTell, ToInflate, ToResume}
use Rattle.lock_rules.specs.declared.Doing.{Doing}
use Rattle.lock_rules.specs.declared.Doing.TheVariants.{EnterLook, EnterStore, EnterCancel, EnterGoIn, EnterCheck, EnterTry, ExitLook}
use Rattle.lock_rules.specs.declared.Doing.TheVariants.{ExitStore, ExitGoIn, ExitTest, ExitTell, ExitLeave, WaitLook, WaitCancel, WaitGoIn}
use Rattle.lock_rules.specs.declared.Doing.TheVariants.{WaitInflate, WaitGiveUp, WaitResume, NotifyLook, NotifyAllLook}
use Rattle.lock_rules.specs.declared.ThreadState.TheVariants.{Idle, Running, Queued, Contending, Waiting}
use Rattle.lock_word.specs.declared.meaning.WordSeen.{WordSeen}
use Rattle.lock_word.specs.declared.meaning.WordSeen.TheVariants.{Free, Anonymous, Fat, Flat, Reserved}
use Rattle.lock_rules.specs.declared.WordChange.{WordChange}
use Rattle.lock_rules.specs.declared.WordChange.TheVariants.{Unchanged, Freed, OwnFlat, OwnReserved}
use Rattle.lock_rules.specs.declared.Sight.{Sight}
use Rattle.chains.specs.declared.named.Chain.{Chain}
use Rattle.lock_rules.specs.declared.Taken.TheVariants.{First, All}
use Rattle.lock_rules.specs.declared.ChainWork.TheVariants.{Stay, Join, JoinAndHand, Hand, Move, SendBack}
use Rattle.lock_rules.specs.declared.Answer.TheVariants.{GoneOn, Finished, Parked, TooDeep}
use Rattle.lock_rules.specs.declared.Effect.{Effect}

-- begin sets phase 1
abbrev pub begun : Operation → Limit → Doing
begun Enter limit = EnterLook
begun Exit limit = ExitLook
begun Wait limit = WaitLook limit
begun Notify limit = NotifyLook
begun NotifyAll limit = NotifyAllLook

-- what a queued thread does when the monitor is handed to it
abbrev pub onward : OnwardStep → Doing
onward ToCheck = EnterCheck
onward ToTell = ExitTell
onward (ToInflate limit) = WaitInflate limit
onward (ToResume suspension) = WaitResume suspension

-- phases 6, 7, 10 to 13 and 15 need the thread as holder, else 20
abbrev pub holder_only : ℕ → Sight → Option Effect → Option Effect
holder_only thread sight action = pick (eqb sight.holder thread) action None

-- exit, wait and notify: not the owner, 18 (c)
abbrev pub owner_only : ℕ → Sight → ℕ → Option Effect → Option Effect
owner_only thread sight owner action = pick (eqb owner thread) action (not_owner sight)

-- the owner of the object in sight
abbrev pub owner_seen : Sight → ℕ
owner_seen sight = owner_of sight.word sight.holder sight.depth

-- 1 look, enter: free, becomes flat own count 0, finish (c). Flat own below 63, count + 1, finish (c). Anonymous, becomes reserved own count 1, finish (c).
-- Reserved own below 63, keep the word, to 2. Any other reserved, own at 63 included, to 3. All else, to 4.
unfoldable pub enter_look : ℕ → Sight → WordSeen → Option Effect
enter_look thread sight Free = finish_word sight (OwnFlat 0)
enter_look thread sight Anonymous = finish_word sight (OwnReserved 1)
enter_look thread sight Fat = go_on sight EnterGoIn
enter_look thread sight (Flat owner count) =
    pick (eqb owner thread) (pick (ltb count count_limit) (finish_word sight (OwnFlat (count + 1))) (go_on sight EnterGoIn)) (go_on sight EnterGoIn)
enter_look thread sight (Reserved owner count) =
    pick (eqb owner thread) (pick (ltb count count_limit) (go_on sight (EnterStore count)) (go_on sight EnterCancel)) (go_on sight EnterCancel)

-- word free if all three chains are empty
abbrev pub deflation : Sight → WordChange
deflation sight = pick (both sight.entryempty (both sight.contentionempty (eqb sight.waiters 0))) Freed Unchanged

-- 1 look, exit, by the owner: flat count above 0, count - 1, finish (c); flat count 0, word free (c), to 9; reserved, keep, to 2;
-- fat depth above 1, depth - 1, finish (c); fat depth 1, depth 0 (c), word free if all three chains are empty, to 11. Nobody owns the first two words.
unfoldable pub exit_owned : Sight → WordSeen → Option Effect
exit_owned sight Free = not_owner sight
exit_owned sight Anonymous = not_owner sight
exit_owned sight Fat = pick (ltb 1 sight.depth) (finish_depth sight (sight.depth - 1) 0) (let_go sight (deflation sight) 0 ExitLeave)
exit_owned sight (Flat owner count) = pick (ltb 0 count) (finish_word sight (OwnFlat (count - 1))) (let_go sight Freed sight.depth ExitTest)
exit_owned sight (Reserved owner count) = go_on sight (ExitStore count)

-- 1 look, wait, by the owner: flat to 4, reserved to 3, fat to 13
unfoldable pub wait_owned : Sight → Limit → WordSeen → Option Effect
wait_owned sight limit Free = not_owner sight
wait_owned sight limit Anonymous = not_owner sight
wait_owned sight limit Fat = go_on sight (WaitGiveUp limit)
wait_owned sight limit (Flat owner count) = go_on sight (WaitGoIn limit)
wait_owned sight limit (Reserved owner count) = go_on sight (WaitCancel limit)

-- 1 look, notify, by the owner: flat or reserved, finish with 0 (c); fat, first waiter to the entry chain carrying 15, finish with the number moved (c)
unfoldable pub notify_owned : Sight → WordSeen → Option Effect
notify_owned sight Free = not_owner sight
notify_owned sight Anonymous = not_owner sight
notify_owned sight Fat = pick (eqb sight.waiters 0) (finish sight) (keep_object sight (Move Chain.Waiting First) Idle (Finished 1) true)
notify_owned sight (Flat owner count) = finish sight
notify_owned sight (Reserved owner count) = finish sight

-- notify all: all waiters, in order
unfoldable pub notify_all_owned : Sight → WordSeen → Option Effect
notify_all_owned sight Free = not_owner sight
notify_all_owned sight Anonymous = not_owner sight
notify_all_owned sight Fat = keep_object sight (Move Chain.Waiting All) Idle (Finished sight.waiters) true
notify_all_owned sight (Flat owner count) = finish sight
notify_all_owned sight (Reserved owner count) = finish sight

-- 2 store: write the kept word with count + 1 (enter) or - 1 (exit), finish (c). A sound table keeps no count 63 for enter and no count 0 for exit.
unfoldable pub enter_store : Sight → ℕ → Option Effect
enter_store sight count = pick (ltb count count_limit) (finish_word sight (OwnReserved (count + 1))) None

unfoldable pub exit_store : Sight → ℕ → Option Effect
exit_store sight count = pick (eqb count 0) None (finish_word sight (OwnReserved (count - 1)))

-- 3 cancel: a reserved word is cancelled; its thread, if in phase 2 on this object, goes back to 1. A word not reserved stays. To 1.
unfoldable pub cancel : Sight → Doing → WordSeen → Option Effect
cancel sight look Free = go_on sight look
cancel sight look Anonymous = cancel_word sight Stay look
cancel sight look Fat = go_on sight look
cancel sight look (Flat owner count) = go_on sight look
cancel sight look (Reserved owner count) = cancel_word sight (SendBack owner) look

-- 4 go in, the holder itself: enter, depth above 0, depth + 1, finish (c), or 19 (c); else 20
unfoldable pub go_in_again : Sight → OnwardStep → Option Effect
go_in_again sight ToCheck =
    pick (eqb sight.depth 0) None
    (pick (ltb sight.depth depth_limit) (finish_depth sight (sight.depth + 1) 0) (keep_object sight Stay Idle TooDeep true))
go_in_again sight ToTell = None
go_in_again sight (ToInflate limit) = None
go_in_again sight (ToResume suspension) = None

-- 4 go in: holder 0, become holder; to 6, 10 or 12 for enter, exit, wait. Holder another: join entry, phase 5, carrying that same 6, 10 or 12.
unfoldable pub go_in : ℕ → Sight → OnwardStep → Option Effect
go_in thread sight carried =
    pick (eqb sight.holder 0) (become_holder thread sight (onward carried))
    (pick (eqb sight.holder thread) (go_in_again sight carried) (keep_object sight (Join Chain.Entry) (Queued carried) Parked false))

-- 4 go in, exit (document 02, L2): flag 0, finish without going in, whoever holds the monitor
unfoldable pub exit_go_in : ℕ → Sight → Option Effect
exit_go_in thread sight = pick sight.flag (go_in thread sight ToTell) (finish_committed sight)

-- 6 check: fat and depth 0, depth 1, finish (c). Flat own, inflate to count + 2, finish (c). Free or flat of another, flag 1, to 7. Else 20.
unfoldable pub enter_check : ℕ → Sight → WordSeen → Option Effect
enter_check thread sight Free = raise_flag sight
enter_check thread sight Anonymous = None
enter_check thread sight Fat = pick (eqb sight.depth 0) (finish_depth sight 1 0) None
enter_check thread sight (Flat owner count) = pick (eqb owner thread) (inflate sight (count + 2) Idle (Finished 0) true) (raise_flag sight)
enter_check thread sight (Reserved owner count) = None

-- 7 try: free, inflate to 1, finish (c). Flat of another, join contention, phase 8, hand. Else 20.
unfoldable pub enter_try : ℕ → Sight → WordSeen → Option Effect
enter_try thread sight Free = inflate sight 1 Idle (Finished 0) true
enter_try thread sight Anonymous = None
enter_try thread sight Fat = None
enter_try thread sight (Flat owner count) = pick (eqb owner thread) None (keep_object sight (JoinAndHand Chain.Contention) Contending Parked false)
enter_try thread sight (Reserved owner count) = None

-- 9 test: flag 0, finish; flag 1, to 4
unfoldable pub exit_test : Sight → Option Effect
exit_test sight = pick sight.flag (go_on sight ExitGoIn) (finish_committed sight)

-- 10 tell: if the flag is 1, the first contender, if any, goes to entry carrying 6. To 11.
unfoldable pub exit_tell : Sight → Option Effect
exit_tell sight =
    pick sight.flag (pick sight.contentionempty (go_on sight ExitLeave) (keep_object sight (Move Chain.Contention First) (Running ExitLeave) GoneOn false))
    (go_on sight ExitLeave)

-- 11 leave: depth 0, hand, finish; else 20
unfoldable pub exit_leave : Sight → Option Effect
exit_leave sight = pick (eqb sight.depth 0) (keep_object sight Hand Idle (Finished 0) false) None

-- 12 inflate: flat own, inflate to count + 1, to 13; else 20
unfoldable pub wait_inflate : ℕ → Sight → Limit → WordSeen → Option Effect
wait_inflate thread sight limit Free = None
wait_inflate thread sight limit Anonymous = None
wait_inflate thread sight limit Fat = None
wait_inflate thread sight limit (Flat owner count) = pick (eqb owner thread) (inflate sight (count + 1) (Running (WaitGiveUp limit)) GoneOn false) None
wait_inflate thread sight limit (Reserved owner count) = None

-- 13 wait: fat and depth above 0: save depth, depth 0, join waiting, phase 14, hand (c: gives up); else 20
unfoldable pub wait_give_up : Sight → Limit → WordSeen → Option Effect
wait_give_up sight limit Free = None
wait_give_up sight limit Anonymous = None
wait_give_up sight limit Fat =
    pick (eqb sight.depth 0) None
    (keep_object sight (JoinAndHand Chain.Waiting) (Waiting (record { depth = sight.depth; limit = limit })) Parked true)
wait_give_up sight limit (Flat owner count) = None
wait_give_up sight limit (Reserved owner count) = None

-- 15 resume: fat and depth 0: depth becomes the saved one, finish (c: resumes); else 20
unfoldable pub wait_resume : Sight → Suspension → WordSeen → Option Effect
wait_resume sight suspension Free = None
wait_resume sight suspension Anonymous = None
wait_resume sight suspension Fat = pick (eqb sight.depth 0) (finish_depth sight suspension.depth (run_out suspension.limit)) None
wait_resume sight suspension (Flat owner count) = None
wait_resume sight suspension (Reserved owner count) = None

-- the step of a thread that is neither idle nor parked
unfoldable pub decide : ℕ → Sight → Doing → Option Effect
decide thread sight EnterLook = enter_look thread sight sight.word
decide thread sight (EnterStore count) = enter_store sight count
decide thread sight EnterCancel = cancel sight EnterLook sight.word
decide thread sight EnterGoIn = go_in thread sight ToCheck
decide thread sight EnterCheck = holder_only thread sight (enter_check thread sight sight.word)
decide thread sight EnterTry = holder_only thread sight (enter_try thread sight sight.word)
decide thread sight ExitLook = owner_only thread sight (owner_seen sight) (exit_owned sight sight.word)
decide thread sight (ExitStore count) = exit_store sight count
decide thread sight ExitGoIn = exit_go_in thread sight
decide thread sight ExitTest = exit_test sight
decide thread sight ExitTell = holder_only thread sight (exit_tell sight)
decide thread sight ExitLeave = holder_only thread sight (exit_leave sight)
decide thread sight (WaitLook limit) = owner_only thread sight (owner_seen sight) (wait_owned sight limit sight.word)
decide thread sight (WaitCancel limit) = cancel sight (WaitLook limit) sight.word
decide thread sight (WaitGoIn limit) = go_in thread sight (ToInflate limit)
decide thread sight (WaitInflate limit) = holder_only thread sight (wait_inflate thread sight limit sight.word)
decide thread sight (WaitGiveUp limit) = holder_only thread sight (wait_give_up sight limit sight.word)
decide thread sight (WaitResume suspension) = holder_only thread sight (wait_resume sight suspension sight.word)
decide thread sight NotifyLook = owner_only thread sight (owner_seen sight) (notify_owned sight sight.word)
decide thread sight NotifyAllLook = owner_only thread sight (owner_seen sight) (notify_all_owned sight sight.word)
