-- A raised flag and a fat word that nobody owns are attended to: while one stands there is a thread at the object that will see to it. Every rule and every tick
-- keeps that so, at one object.
use Prim.Native.Nat.{ℕ, ◌+◌, ◌≤◌, ◌<◌}
use mathlib.Core.Path.{◌≡◌, refl, sym, ap, ◌∙◌, subst}
use mathlib.Core.Logic.{◌≢◌, ◌⊎◌, inl, inr}
use mathlib.Core.Bool.{Bool, true, false}
use mathlib.Core.List.{List, [], ◌∷◌}
use native.Mathlib.Omega.{arith}
use lib.Dec.{T, eqb, ltb}
use lib.ListN.{length}
use Rattle.laws.specs.{Choice.pick, Choice.both, Choice.either, Update.update, Count.count}
use Rattle.laws.proofs.Choice.{by_test, by_equal, by_below, false≢true, holds}
use Rattle.laws.proofs.Count.{count_same}
use Rattle.laws.proofs.Update.{update_same, update_other}
use Rattle.chains.specs.declared.named.Chain.{Chain}
use Rattle.lock_word.specs.{Depth.depth_limit, Layout.count_limit, Meaning.cancelled}
use Rattle.lock_rules.specs.Numbers.{phase_of_doing}
use Rattle.lock_rules.specs.Actions.{keep_object, finish_word, let_go, inflate}
use Rattle.lock_rules.specs.Rules.{onward, owner_seen, owner_only, holder_only, decide, enter_look, enter_store, cancel, enter_check, enter_try}
use Rattle.lock_rules.specs.Rules.{go_in_again, go_in, exit_go_in, deflation, exit_owned, exit_store, exit_test, exit_tell, exit_leave, wait_owned}
use Rattle.lock_rules.specs.Rules.{wait_inflate, wait_give_up, wait_resume, notify_owned, notify_all_owned}
use Rattle.lock_rules.specs.declared.{OnwardStep.OnwardStep, Doing.Doing, ThreadState.ThreadState, WordChange.WordChange, Sight.Sight}
use Rattle.std.specs.Prelude.{Option, Some, None}
use Rattle.lock_rules.specs.declared.{ChainWork.ChainWork, Answer.Answer, Effect.Effect}
use Rattle.lock_rules.specs.declared.OnwardStep.TheVariants.{ToCheck, ToTell, ToInflate}
use Rattle.lock_rules.specs.declared.Doing.TheVariants.{EnterLook, EnterStore, EnterCancel, EnterGoIn, EnterCheck, EnterTry, ExitLook}
use Rattle.lock_rules.specs.declared.Doing.TheVariants.{ExitStore, ExitGoIn, ExitTest, ExitTell, ExitLeave, WaitLook, WaitCancel, WaitGoIn}
use Rattle.lock_rules.specs.declared.Doing.TheVariants.{WaitInflate, WaitGiveUp, WaitResume, NotifyLook, NotifyAllLook}
use Rattle.lock_rules.specs.declared.ThreadState.TheVariants.{Idle, Running, Queued, Contending, Waiting}
use Rattle.lock_rules.specs.declared.Taken.TheVariants.{First, All}
use Rattle.lock_rules.specs.declared.ChainWork.TheVariants.{Stay, Join, JoinAndHand, Hand, Move, MoveAndLetOut, SendBack}
use Rattle.lock_word.specs.declared.meaning.WordSeen.{WordSeen}
use Rattle.lock_word.specs.declared.meaning.WordSeen.TheVariants.{Free, Fat, Flat}
use Rattle.lock_rules.proofs.Each.{each_doing, each_state, each_carried, Words, each_word}
use Rattle.lock_rules.proofs.Changes.{seen_after, handed, moved, let_out_state, sent_back}
use Rattle.lock_rules.proofs.Objects.{ListObject, chain_of, empty, sight_of}
use Rattle.lock_rules.proofs.Perform.{taken, changed_states, changed_so, handed_states, moved_states, states_after, object_after, effected, perform}
use Rattle.lock_rules.proofs.Tick.{one_tick_less, expired, expired_so, tick_at, by_tick}
use Rattle.lock_rules.proofs.ListSound.{DoingFine}
use Rattle.lock_rules.proofs.Invariant.{in_entry, in_waiting, FlatOf, IsFat, Thin, FlagOk, Relies, Ghost, Invariant}

-- Who sees to a raised flag: an enter on its way to 6 or 7, or a contender. With the flag up it comes to inflate, which takes it down, or contends again.
abbrev pub flagging : ThreadState → Bool
flagging Idle = false
flagging (Running doing) = either (eqb (phase_of_doing doing) 6) (eqb (phase_of_doing doing) 7)
flagging (Queued carried) = eqb (phase_of_doing (onward carried)) 6
flagging Contending = true
flagging (Waiting suspension) = false

-- Who sees to a fat word: an enter on its way to 6, or a wait on its way to 15, which comes to own the object, or a waiter.
abbrev pub entering : ThreadState → Bool
entering Idle = false
entering (Running doing) = either (eqb (phase_of_doing doing) 6) (eqb (phase_of_doing doing) 15)
entering (Queued carried) = either (eqb (phase_of_doing (onward carried)) 6) (eqb (phase_of_doing (onward carried)) 15)
entering Contending = false
entering (Waiting suspension) = true

abbrev pub Somebody : (ThreadState → Bool) → (ℕ → ThreadState) → Type 0
Somebody test states = (t : ℕ) × T (test (states t))

pub record Attended (states : ℕ → ThreadState) (o : ListObject) : Type 0 where
  pub flag : o.flag ≡ true → Somebody flagging states
  pub fat : IsFat o.word → o.depth ≡ 0 → Somebody entering states

-- Both stay what they are through every change that others make of a thread.
pub record Lasts (before after : ThreadState) : Type 0 where
  pub flags : T (flagging before) → T (flagging after)
  pub enters : T (entering before) → T (entering after)

same_lasts : (state : ThreadState) → Lasts state state
same_lasts state = record { flags = λ is. is; enters = λ is. is }

behind_lasts : (a b c : ThreadState) → Lasts a b → Lasts b c → Lasts a c
behind_lasts a b c first second = record { flags = λ is. second.flags (first.flags is); enters = λ is. second.enters (first.enters is) }

handed_lasts : (state : ThreadState) → Lasts state (handed state)
handed_lasts = each_state _ (search, search, each_carried _ (search), search, search)

moved_lasts : (state : ThreadState) → Lasts state (moved state)
moved_lasts = each_state _ (search)

let_out_lasts : (state : ThreadState) → Lasts state (let_out_state state)
let_out_lasts = each_state _ (search, search, each_carried _ (search), search, search)

sent_back_lasts : (state : ThreadState) → Lasts state (sent_back state)
sent_back_lasts = each_state _ (search, each_doing _ (search), search, search, search)

ticked_lasts : (state : ThreadState) → Lasts state (one_tick_less state)
ticked_lasts = each_state _ (search)

changed_lasts : (change : ThreadState → ThreadState) → ((state : ThreadState) → Lasts state (change state)) → (states : ℕ → ThreadState) (list : List ℕ) (t : ℕ)
    → Lasts (states t) (changed_states change states list t)
changed_lasts = changed_so Lasts same_lasts

handing_lasts : (states : ℕ → ThreadState) (o : ListObject) (t : ℕ) → Lasts (states t) (handed_states states o t)
handing_lasts states o = changed_lasts handed handed_lasts states (taken First o.entry)

work_lasts : (work : ChainWork) (states : ℕ → ThreadState) (o : ListObject) (t : ℕ) → Lasts (states t) (states_after work states o t)
work_lasts Stay states o t = same_lasts (states t)
work_lasts (Join chain) states o t = same_lasts (states t)
work_lasts (JoinAndHand chain) states o t = handing_lasts states o t
work_lasts Hand states o t = handing_lasts states o t
work_lasts (Move from which) states o t = changed_lasts moved moved_lasts states (taken which (chain_of from o)) t
work_lasts MoveAndLetOut states o t =
    behind_lasts _ _ _ (changed_lasts moved moved_lasts states (taken All o.contention) t) (let_out_lasts (moved_states Chain.Contention All states o t))
work_lasts (SendBack u) states o t = changed_lasts sent_back sent_back_lasts states (u ∷ []) t

tick_lasts : (states : ℕ → ThreadState) (o : ListObject) (t : ℕ) → Lasts (states t) ((tick_at states o).states t)
tick_lasts states o t =
    let gone = expired_so states o Lasts same_lasts behind_lasts ticked_lasts moved_lasts t in
    by_tick states o (λ result. Lasts (states t) (result.states t)) (same_lasts (states t))
    (λ free. behind_lasts _ _ _ gone (handing_lasts (expired states o).states (expired states o).object t)) (λ held. gone)

-- a word that a cancel leaves fat was fat
cancelled_fat : (word : WordSeen) → IsFat (cancelled word) → IsFat word
cancelled_fat = each_word _ (search, search, search, search, λ owner count. by_test (λ (word : WordSeen). IsFat word → ⊥) (eqb count 0) (λ none never. never) (λ some never. never))

-- the depth that is left when the work on chains is done: a monitor is handed at depth 0
abbrev depth_left : ChainWork → ℕ → ℕ
depth_left Stay depth = depth
depth_left (Join chain) depth = depth
depth_left (JoinAndHand chain) depth = 0
depth_left Hand depth = 0
depth_left (Move from which) depth = depth
depth_left MoveAndLetOut depth = depth
depth_left (SendBack u) depth = depth

-- A step of `thread` at an object whose word is `word`: what it owes, by what it knows.
module _ (thread : ℕ) (states : ℕ → ThreadState) (o : ListObject) where
  -- who is left to see to it: the thread in its next state, or somebody else
  abbrev Left : (ThreadState → Bool) → Doing → ThreadState → Type 0
  Left test doing state = T (test state) ⊎ (Somebody test states × (test (Running doing) ≡ false))

  pub record EffectAttends (word : WordSeen) (doing : Doing) (effect : Effect) : Type 0 where
    pub flag : effect.flag ≡ true → Left flagging doing effect.state
    pub fat : IsFat (seen_after thread effect.word word) → depth_left effect.work effect.depth ≡ 0 → Left entering doing effect.state

  abbrev Attends : WordSeen → Doing → Option Effect → Type 0
  Attends word doing None = Unit {0}
  Attends word doing (Some effect) = EffectAttends word doing effect

  pub record Known (word : WordSeen) : Type 0 where
    pub flag : o.flag ≡ true → Somebody flagging states
    pub fat : IsFat word → o.depth ≡ 0 → Somebody entering states
    -- with a fat word the flag is down, and who is in a chain sees to the word
    pub lowered : IsFat word → o.flag ≡ false
    pub queued : IsFat word → both (empty o.entry) (both (empty o.contention) (eqb (length o.waiting) 0)) ≡ false → Somebody entering states

  abbrev sight : Sight
  sight = sight_of o

  -- a phase in which a thread sees to neither
  abbrev Neither : Doing → Type 0
  Neither doing = (flagging (Running doing) ≡ false) × (entering (Running doing) ≡ false)

  module _ (doing : Doing) (neither : Neither doing) (word : WordSeen) (known : Known word) where
    -- a step that leaves the flag, and makes no word fat and no depth 0
    leaves : (effect : Effect) → effect.flag ≡ o.flag
        → (IsFat (seen_after thread effect.word word) → depth_left effect.work effect.depth ≡ 0 → IsFat word × (o.depth ≡ 0)) → Attends word doing (Some effect)
    leaves effect same before =
        record {
          flag = λ up. inr (known.flag (sym same ∙ up), neither.0);
          fat = λ fat none. let (was, unowned) = before fat none in inr (known.fat was unowned, neither.1);
        }

    keeps : (work : ChainWork) (state : ThreadState) (answer : Answer) (commits : Bool) → (depth_left work o.depth ≡ 0 → o.depth ≡ 0)
        → Attends word doing (keep_object sight work state answer commits)
    keeps work state answer commits same = leaves _ refl (λ fat none. (fat, same none))

    writes : (change : WordChange) → (IsFat (seen_after thread change word) → IsFat word) → Attends word doing (finish_word sight change)
    writes change thin = leaves _ refl (λ fat none. (thin fat, none))

  go_in_attends : (doing : Doing) → Neither doing → (carried : OnwardStep) (word : WordSeen) → Known word → Attends word doing (go_in thread sight carried)
  unfolding go_in go_in_again
  go_in_attends doing neither carried word known =
      by_test (Attends word doing) (eqb o.holder 0) (λ free. leaves doing neither word known _ refl (λ fat none. (fat, none)))
      (λ held. by_test (Attends word doing) (eqb o.holder thread) (λ own. again carried) (λ other. keeps doing neither word known _ _ _ _ (λ none. none)))
    where
      again : (carried : OnwardStep) → Attends word doing (go_in_again sight carried)
      again =
          each_carried _ (
            by_test (Attends word doing) (eqb o.depth 0) (λ none. tt)
                (λ some. by_test (Attends word doing) (ltb o.depth depth_limit) (λ low. leaves doing neither word known _ refl (λ fat none. absurd (omega (arith, none))))
                (λ high. keeps doing neither word known _ _ _ _ (λ none. none))),
            tt,
            λ limit. tt,
            λ suspension. tt,
          )

  either_attends : (word : WordSeen) (doing : Doing) (test : Bool) (x y : Option Effect) → Attends word doing x → Attends word doing y → Attends word doing (pick test x y)
  either_attends word doing test x y first second = by_test (Attends word doing) test (λ yes. first) (λ no. second)

  -- a rule that goes by the word, the owner's, the holder's
  by_word : (doing : Doing) (rule : WordSeen → Option Effect) → Words (λ word. Known word → Attends word doing (rule word)) → Known o.word
      → Attends o.word doing (rule o.word)
  by_word doing rule all = each_word (λ word. Known word → Attends word doing (rule word)) all o.word

  by_owned : (doing : Doing) → Neither doing → (rule : WordSeen → Option Effect) → Words (λ word. Known word → Attends word doing (rule word)) → Known o.word
      → Attends o.word doing (owner_only thread sight (owner_seen sight) (rule o.word))
  by_owned doing neither rule all known =
      either_attends o.word doing (eqb (owner_seen sight) thread) _ _ (by_word doing rule all known) (keeps doing neither o.word known _ _ _ _ (λ none. none))

  by_held : (word : WordSeen) (doing : Doing) (action : Option Effect) → Attends word doing action → Attends word doing (holder_only thread sight action)
  by_held word doing action attends = either_attends word doing (eqb o.holder thread) action None attends tt

  -- a step that takes the flag down and leaves a depth above 0
  inflates : (word : WordSeen) (doing : Doing) (depth : ℕ) (state : ThreadState) (answer : Answer) (commits : Bool) → 0 < depth
      → Attends word doing (inflate sight depth state answer commits)
  inflates word doing depth state answer commits some = record { flag = λ up. false≢true up; fat = λ fat none. absurd (omega (arith, none, some)) }

  -- the last exit from a fat word: it frees the word, or leaves somebody in a chain
  lets_go : (word : WordSeen) → IsFat word → Known word → Attends word ExitLook (let_go sight (deflation sight) 0 ExitLeave)
  lets_go word fat known =
      by_test (λ (change : WordChange). Attends word ExitLook (let_go sight change 0 ExitLeave)) (both (empty o.entry) (both (empty o.contention) (eqb (length o.waiting) 0)))
      (λ none. leaves ExitLook (refl, refl) word known _ refl (λ never. absurd never))
      (λ some. record { flag = λ up. inr (known.flag up, refl); fat = λ is none. inr (known.queued fat some, refl) })

  pub decide_attends : (doing : Doing) → DoingFine doing → Known o.word → Attends o.word doing (decide thread sight doing)
  unfolding decide enter_look enter_store cancel enter_check enter_try exit_owned exit_store exit_go_in exit_test exit_tell exit_leave wait_owned wait_inflate wait_give_up
      wait_resume notify_owned notify_all_owned
  decide_attends EnterLook fine known = by_word EnterLook (enter_look thread sight) (search (either_attends, leaves EnterLook (refl, refl))) known
  decide_attends (EnterStore c) fine known =
      either_attends o.word (EnterStore c) (ltb c count_limit) _ _ (writes (EnterStore c) (refl, refl) o.word known _ (λ never. absurd never)) tt
  decide_attends EnterCancel fine known = by_word EnterCancel (cancel sight EnterLook) (search (leaves EnterCancel (refl, refl), cancelled_fat)) known
  decide_attends EnterGoIn fine known = go_in_attends EnterGoIn (refl, refl) ToCheck o.word known
  decide_attends EnterCheck fine known =
      by_held o.word EnterCheck _
      (by_word EnterCheck (enter_check thread sight) (
        λ k. record { flag = λ up. inl tt; fat = λ never. absurd never },
        λ k. tt,
        λ k. either_attends Fat EnterCheck (eqb o.depth 0) _ _
            (record { flag = λ up. false≢true (sym (k.lowered tt) ∙ up); fat = λ fat none. absurd (omega (arith, none)) }) tt,
        λ owner c k. either_attends (Flat owner c) EnterCheck (eqb owner thread) _ _ (inflates (Flat owner c) EnterCheck (c + 2) _ _ _ (omega arith))
            (record { flag = λ up. inl tt; fat = λ never. absurd never }),
        λ owner c k. tt,
      ) known)
  decide_attends EnterTry fine known =
      by_held o.word EnterTry _
      (by_word EnterTry (enter_try thread sight) (
        λ k. inflates Free EnterTry 1 _ _ _ (omega arith),
        λ k. tt,
        λ k. tt,
        λ owner c k. either_attends (Flat owner c) EnterTry (eqb owner thread) _ _ tt (record { flag = λ up. inl tt; fat = λ never. absurd never }),
        λ owner c k. tt,
      ) known)
  decide_attends ExitLook fine known =
      by_owned ExitLook (refl, refl) (exit_owned sight) (
        search (leaves ExitLook (refl, refl)),
        search (leaves ExitLook (refl, refl)),
        λ k. by_below (Attends Fat ExitLook) 1 o.depth (λ more. leaves ExitLook (refl, refl) Fat k _ refl (λ fat none. absurd (omega (arith, more, none))))
            (λ last. lets_go Fat tt k),
        search (either_attends, leaves ExitLook (refl, refl)),
        search (leaves ExitLook (refl, refl)),
      ) known
  decide_attends (ExitStore c) fine known =
      either_attends o.word (ExitStore c) (eqb c 0) _ _ tt (writes (ExitStore c) (refl, refl) o.word known _ (λ never. absurd never))
  decide_attends ExitGoIn fine known =
      either_attends o.word ExitGoIn o.flag _ _ (go_in_attends ExitGoIn (refl, refl) ToTell o.word known)
      (keeps ExitGoIn (refl, refl) o.word known _ _ _ _ (λ none. none))
  decide_attends ExitTest fine known = search (either_attends, leaves ExitTest (refl, refl))
  decide_attends ExitTell fine known = by_held o.word ExitTell _ (search (either_attends, leaves ExitTell (refl, refl)))
  decide_attends ExitLeave fine known =
      by_held o.word ExitLeave _
      (by_equal (Attends o.word ExitLeave) o.depth 0 (λ zero. keeps ExitLeave (refl, refl) o.word known _ _ _ _ (λ none. zero)) (λ some. tt))
  decide_attends (WaitLook limit) fine known = by_owned (WaitLook limit) (refl, refl) (wait_owned sight limit) (search (leaves (WaitLook limit) (refl, refl))) known
  decide_attends (WaitCancel limit) fine known =
      by_word (WaitCancel limit) (cancel sight (WaitLook limit)) (search (leaves (WaitCancel limit) (refl, refl), cancelled_fat)) known
  decide_attends (WaitGoIn limit) fine known = go_in_attends (WaitGoIn limit) (refl, refl) (ToInflate limit) o.word known
  decide_attends (WaitInflate limit) fine known =
      by_held o.word (WaitInflate limit) _
      (by_word (WaitInflate limit) (wait_inflate thread sight limit) (
        λ k. tt,
        λ k. tt,
        λ k. tt,
        λ owner c k. either_attends (Flat owner c) (WaitInflate limit) (eqb owner thread) _ _
            (inflates (Flat owner c) (WaitInflate limit) (c + 1) _ _ _ (omega arith)) tt,
        λ owner c k. tt,
      ) known)
  decide_attends (WaitGiveUp limit) fine known =
      by_held o.word (WaitGiveUp limit) _
      (by_word (WaitGiveUp limit) (wait_give_up sight limit) (
        λ k. tt,
        λ k. tt,
        λ k. either_attends Fat (WaitGiveUp limit) (eqb o.depth 0) _ _ tt (record { flag = λ up. inr (k.flag up, refl); fat = λ fat none. inl tt }),
        λ owner c k. tt,
        λ owner c k. tt,
      ) known)
  decide_attends (WaitResume suspension) fine known =
      by_held o.word (WaitResume suspension) _
      (by_word (WaitResume suspension) (wait_resume sight suspension) (
        λ k. tt,
        λ k. tt,
        λ k. either_attends Fat (WaitResume suspension) (eqb o.depth 0) _ _
            (record { flag = λ up. inr (k.flag up, refl); fat = λ fat none. absurd (omega (arith, fine.0, none)) }) tt,
        λ owner c k. tt,
        λ owner c k. tt,
      ) known)
  decide_attends NotifyLook fine known = by_owned NotifyLook (refl, refl) (notify_owned sight) (search (either_attends, leaves NotifyLook (refl, refl))) known
  decide_attends NotifyAllLook fine known = by_owned NotifyAllLook (refl, refl) (notify_all_owned sight) (search (leaves NotifyAllLook (refl, refl))) known

-- what the work on chains leaves of flag, word and depth
work_keeps : (work : ChainWork) (thread : ℕ) (states : ℕ → ThreadState) (o : ListObject)
    → let after = object_after work thread states o in (after.flag ≡ o.flag) × (after.word ≡ o.word) × (after.depth ≡ depth_left work o.depth)
work_keeps Stay thread states o = (refl, refl, refl)
work_keeps (Join Chain.Entry) thread states o = (refl, refl, refl)
work_keeps (Join Chain.Contention) thread states o = (refl, refl, refl)
work_keeps (Join Chain.Waiting) thread states o = (refl, refl, refl)
work_keeps (JoinAndHand Chain.Entry) thread states o = (refl, refl, refl)
work_keeps (JoinAndHand Chain.Contention) thread states o = (refl, refl, refl)
work_keeps (JoinAndHand Chain.Waiting) thread states o = (refl, refl, refl)
work_keeps Hand thread states o = (refl, refl, refl)
work_keeps (Move Chain.Entry which) thread states o = (refl, refl, refl)
work_keeps (Move Chain.Contention which) thread states o = (refl, refl, refl)
work_keeps (Move Chain.Waiting which) thread states o = (refl, refl, refl)
work_keeps MoveAndLetOut thread states o = (refl, refl, refl)
work_keeps (SendBack u) thread states o = (refl, refl, refl)

-- an action carried out
module _ (thread : ℕ) (states : ℕ → ThreadState) (o : ListObject) (attended : Attended states o) (doing : Doing) (running : states thread ≡ Running doing) where
  -- whoever is left is there afterwards
  somebody_left : (test : ThreadState → Bool) → ((before after : ThreadState) → Lasts before after → T (test before) → T (test after)) → (effect : Effect)
      → Left thread states o test doing effect.state
      → Somebody test (update (states_after effect.work states (effected thread effect o)) thread effect.state)
  somebody_left test lasts effect (inl own) =
      (thread, rw (update_same (states_after effect.work states (effected thread effect o)) thread effect.state) own)
  somebody_left test lasts effect (inr ((u, is), never)) =
      let now = effected thread effect o in
      let other : u ≢ thread = λ e. false≢true (sym never ∙ (sym (ap test running) ∙ (ap (λ (x : ℕ). test (states x)) (sym e) ∙ holds (test (states u)) is))) in (
        u,
        rw (update_other (states_after effect.work states now) thread effect.state u other) (lasts _ _ (work_lasts effect.work states now u) is),
      )

  pub performed_attended : (action : Option Effect) → Attends thread states o o.word doing action
      → Attended (perform thread states o action).states (perform thread states o action).object
  performed_attended None attends = attended
  performed_attended (Some effect) attends =
      let (flag, word, depth) = work_keeps effect.work thread states (effected thread effect o) in
      record {
        flag = λ up. somebody_left flagging (λ before after last. last.flags) effect (attends.flag (sym flag ∙ up));
        fat = λ fat none. somebody_left entering (λ before after last. last.enters) effect (attends.fat (subst IsFat word fat) (sym depth ∙ none));
      }

-- What is known of an object, by the invariant: with a fat word the flag is down, nobody contends, and who is queued goes on to own it.
fat_lowered : (flag : Bool) (contention : List ℕ) (word : WordSeen) → IsFat word → FlagOk word flag contention → (flag ≡ false) × (contention ≡ [])
fat_lowered flag contention =
    each_word _ (λ never ok. absurd never, λ never ok. absurd never, λ fat ok. ok, λ owner c never ok. absurd never, λ owner c never ok. absurd never)

thin_fat : (word : WordSeen) → Thin word → IsFat word → ⊥
thin_fat = each_word _ (search)

flat_fat : (t : ℕ) (word : WordSeen) → FlatOf t word → IsFat word → ⊥
flat_fat t = each_word _ (search)

queued_enters : (t : ℕ) (word : WordSeen) (flag : Bool) (holder : ℕ) → IsFat word → (state : ThreadState) → 1 ≤ in_entry state → Relies state t word flag holder → T (entering state)
queued_enters t word flag holder fat =
    each_state _ (
      λ none relies. absurd (omega (arith, none)),
      λ doing none relies. absurd (omega (arith, none)),
      each_carried _ (
        λ one relies. tt,
        λ one relies. absurd (thin_fat word relies fat),
        λ limit one relies. absurd (flat_fat t word relies fat),
        λ suspension one relies. tt,
      ),
      λ none relies. absurd (omega (arith, none)),
      λ suspension none relies. absurd (omega (arith, none)),
    )

waiting_enters : (state : ThreadState) → 1 ≤ in_waiting state → T (entering state)
waiting_enters =
    each_state _ (
      λ none. absurd (omega (arith, none)),
      λ doing none. absurd (omega (arith, none)),
      λ carried none. absurd (omega (arith, none)),
      λ none. absurd (omega (arith, none)),
      λ suspension one. tt,
    )

module _ (states : ℕ → ThreadState) (o : ListObject) (ghost : Ghost) (inv : Invariant states o ghost) (attended : Attended states o) where
  in_chain : IsFat o.word → (entry contention waiting : List ℕ) → o.entry ≡ entry → contention ≡ [] → o.waiting ≡ waiting
      → both (empty entry) (both (empty contention) (eqb (length waiting) 0)) ≡ false → Somebody entering states
  in_chain fat (first ∷ rest) contention waiting is none waits some =
      let placed = (inv.threads first).placed.entry in
      (first, queued_enters first o.word o.flag o.holder fat (states first) (omega (arith, placed, ap (count first) is, count_same first rest)) (inv.threads first).relies)
  in_chain fat [] contention (first ∷ rest) is none waits some =
      let placed = (inv.threads first).placed.waiting in
      (first, waiting_enters (states first) (omega (arith, placed, ap (count first) waits, count_same first rest)))
  in_chain fat [] contention [] is none waits some = false≢true (sym (rw none at some))

  pub known_of : (thread : ℕ) → Known thread states o o.word
  known_of thread =
      let lowered : IsFat o.word → (o.flag ≡ false) × (o.contention ≡ []) = λ fat. fat_lowered o.flag o.contention o.word fat inv.whole.flag in
      record {
        flag = attended.flag;
        fat = attended.fat;
        lowered = λ fat. (lowered fat).0;
        queued = λ fat some. in_chain fat o.entry o.contention o.waiting refl (lowered fat).1 refl some;
      }

  -- a tick, where a monitor that nobody holds has depth 0
  pub ticked_attended : (o.holder ≡ 0 → o.depth ≡ 0) → Attended (tick_at states o).states (tick_at states o).object
  ticked_attended shallow =
      let flagged : o.flag ≡ true → Somebody flagging (tick_at states o).states = λ up. let (t, is) = attended.flag up in (t, (tick_lasts states o t).flags is) in
      let entered : IsFat o.word → o.depth ≡ 0 → Somebody entering (tick_at states o).states = λ fat none.
      let (t, is) = attended.fat fat none in (t, (tick_lasts states o t).enters is) in
      record {
        flag = by_tick states o (λ result. result.object.flag ≡ true → Somebody flagging (tick_at states o).states) flagged (λ free. flagged) (λ held. flagged);
        fat = by_tick states o (λ result. IsFat result.object.word → result.object.depth ≡ 0 → Somebody entering (tick_at states o).states) entered
            (λ free fat none. entered fat (shallow free)) (λ held. entered);
      }
