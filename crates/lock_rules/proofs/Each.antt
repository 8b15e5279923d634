-- Case analysis once: what holds of each form that a doing, a state, an operation, a word in sight or the like has, holds of all. The cases come as
-- one tuple, so that where all are plain one `search` finds them.
use Prim.Native.Nat.{ℕ}
use Rattle.chains.specs.declared.named.Chain.{Chain}
use Rattle.lock_rules.specs.Operations.{Operation, Enter, Exit, Wait, Notify, NotifyAll}
use Rattle.lock_rules.specs.declared.{Limit.Limit, Suspension.Suspension, OnwardStep.OnwardStep, Doing.Doing, ThreadState.ThreadState}
use Rattle.lock_rules.specs.declared.Limit.TheVariants.{Unlimited, Ticks}
use Rattle.lock_rules.specs.declared.OnwardStep.TheVariants.{ToCheck, ToTell, ToInflate, ToResume}
use Rattle.lock_rules.specs.declared.Doing.TheVariants.{EnterLook, EnterStore, EnterCancel, EnterGoIn, EnterCheck, EnterTry, ExitLook}
use Rattle.lock_rules.specs.declared.Doing.TheVariants.{ExitStore}
use Rattle.lock_rules.specs.declared.Doing.TheVariants.{ExitGoIn, ExitTest, ExitTell, ExitLeave, WaitLook, WaitCancel, WaitGoIn, WaitInflate}
use Rattle.lock_rules.specs.declared.Doing.TheVariants.{WaitGiveUp, WaitResume, NotifyLook, NotifyAllLook}
use Rattle.lock_rules.specs.declared.ThreadState.TheVariants.{Idle, Running, Queued, Contending, Waiting}
use Rattle.lock_word.specs.declared.meaning.WordSeen.{WordSeen}
use Rattle.lock_word.specs.declared.meaning.WordSeen.TheVariants.{Free, Anonymous, Fat, Flat, Reserved}

abbrev Enters {ℓ} : (Doing → Type ℓ) → Type ℓ
Enters P = P EnterLook × ((c : ℕ) → P (EnterStore c)) × P EnterCancel × P EnterGoIn × P EnterCheck × P EnterTry

abbrev Exits {ℓ} : (Doing → Type ℓ) → Type ℓ
Exits P = P ExitLook × ((c : ℕ) → P (ExitStore c)) × P ExitGoIn × P ExitTest × P ExitTell × P ExitLeave

abbrev Waits {ℓ} : (Doing → Type ℓ) → Type ℓ
Waits P =
    ((limit : Limit) → P (WaitLook limit)) × ((limit : Limit) → P (WaitCancel limit)) × ((limit : Limit) → P (WaitGoIn limit))
    × ((limit : Limit) → P (WaitInflate limit)) × ((limit : Limit) → P (WaitGiveUp limit)) × ((saved : Suspension) → P (WaitResume saved))

abbrev Doings {ℓ} : (Doing → Type ℓ) → Type ℓ
Doings P = Enters P × Exits P × Waits P × P NotifyLook × P NotifyAllLook

abbrev pub each_doing {ℓ} : (P : Doing → Type ℓ) → Doings P → (doing : Doing) → P doing
each_doing P all EnterLook = all.0.0
each_doing P all (EnterStore c) = all.0.1 c
each_doing P all EnterCancel = all.0.2
each_doing P all EnterGoIn = all.0.3
each_doing P all EnterCheck = all.0.4
each_doing P all EnterTry = all.0.5
each_doing P all ExitLook = all.1.0
each_doing P all (ExitStore c) = all.1.1 c
each_doing P all ExitGoIn = all.1.2
each_doing P all ExitTest = all.1.3
each_doing P all ExitTell = all.1.4
each_doing P all ExitLeave = all.1.5
each_doing P all (WaitLook limit) = all.2.0 limit
each_doing P all (WaitCancel limit) = all.2.1 limit
each_doing P all (WaitGoIn limit) = all.2.2 limit
each_doing P all (WaitInflate limit) = all.2.3 limit
each_doing P all (WaitGiveUp limit) = all.2.4 limit
each_doing P all (WaitResume saved) = all.2.5 saved
each_doing P all NotifyLook = all.3
each_doing P all NotifyAllLook = all.4

abbrev States {ℓ} : (ThreadState → Type ℓ) → Type ℓ
States P = P Idle × ((doing : Doing) → P (Running doing)) × ((carried : OnwardStep) → P (Queued carried)) × P Contending × ((saved : Suspension) → P (Waiting saved))

abbrev pub each_state {ℓ} : (P : ThreadState → Type ℓ) → States P → (state : ThreadState) → P state
each_state P all Idle = all.0
each_state P all (Running doing) = all.1 doing
each_state P all (Queued carried) = all.2 carried
each_state P all Contending = all.3
each_state P all (Waiting saved) = all.4 saved

abbrev Carrieds {ℓ} : (OnwardStep → Type ℓ) → Type ℓ
Carrieds P = P ToCheck × P ToTell × ((limit : Limit) → P (ToInflate limit)) × ((saved : Suspension) → P (ToResume saved))

abbrev pub each_carried {ℓ} : (P : OnwardStep → Type ℓ) → Carrieds P → (carried : OnwardStep) → P carried
each_carried P all ToCheck = all.0
each_carried P all ToTell = all.1
each_carried P all (ToInflate limit) = all.2 limit
each_carried P all (ToResume saved) = all.3 saved

abbrev pub Words {ℓ} : (WordSeen → Type ℓ) → Type ℓ
Words P = P Free × P Anonymous × P Fat × ((owner c : ℕ) → P (Flat owner c)) × ((owner c : ℕ) → P (Reserved owner c))

abbrev pub each_word {ℓ} : (P : WordSeen → Type ℓ) → Words P → (word : WordSeen) → P word
each_word P all Free = all.0
each_word P all Anonymous = all.1
each_word P all Fat = all.2
each_word P all (Flat owner c) = all.3 owner c
each_word P all (Reserved owner c) = all.4 owner c

abbrev Operations {ℓ} : (Operation → Type ℓ) → Type ℓ
Operations P = P Enter × P Exit × P Wait × P Notify × P NotifyAll

abbrev pub each_operation {ℓ} : (P : Operation → Type ℓ) → Operations P → (operation : Operation) → P operation
each_operation P all Enter = all.0
each_operation P all Exit = all.1
each_operation P all Wait = all.2
each_operation P all Notify = all.3
each_operation P all NotifyAll = all.4

abbrev Chains {ℓ} : (Chain → Type ℓ) → Type ℓ
Chains P = P Chain.Entry × P Chain.Contention × P Chain.Waiting

abbrev pub each_chain {ℓ} : (P : Chain → Type ℓ) → Chains P → (chain : Chain) → P chain
each_chain P all Chain.Entry = all.0
each_chain P all Chain.Contention = all.1
each_chain P all Chain.Waiting = all.2

abbrev Limits {ℓ} : (Limit → Type ℓ) → Type ℓ
Limits P = P Unlimited × ((left : ℕ) → P (Ticks left))

abbrev pub each_limit {ℓ} : (P : Limit → Type ℓ) → Limits P → (limit : Limit) → P limit
each_limit P all Unlimited = all.0
each_limit P all (Ticks left) = all.1 left

-- by the limit of what a wait keeps
abbrev pub each_suspension {ℓ} : (P : Suspension → Type ℓ)
    → ((depth : ℕ) → P (record { depth = depth; limit = Unlimited })) × ((depth left : ℕ) → P (record { depth = depth; limit = Ticks left })) → (saved : Suspension) → P saved
each_suspension P all saved = each_limit (λ limit. P (record { depth = saved.depth; limit = limit })) (all.0 saved.depth, all.1 saved.depth) saved.limit
