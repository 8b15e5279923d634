-- What each rule's effect owes to soundness: the ranges of what it writes, the chain that the thread joins, and that only a held monitor is queued for.
-- And that its answer says whether the thread goes on, is parked or is idle.
use Prim.Native.Nat.{ℕ, ◌+◌, ◌-◌, ◌≤◌, ◌<◌}
use mathlib.Core.Path.{◌≡◌, refl, sym, ◌∙◌}
use mathlib.Core.Logic.{◌≢◌, ◌⊎◌, inl, inr}
use mathlib.Core.Bool.{Bool, true, false}
use native.Mathlib.Omega.{arith}
use lib.Dec.{eqb, ltb}
use Rattle.laws.specs.Choice.{pick, both}
use Rattle.laws.proofs.Choice.{by_equal, by_below}
use Rattle.chains.specs.declared.named.Chain.{Chain}
use Rattle.lock_word.specs.{Depth.depth_limit, Layout.count_limit, Meaning.owner_of}
use Rattle.lock_rules.proofs.Each.{each_carried, Words, each_word}
use Rattle.lock_rules.specs.Actions.{not_owner, finish_word, inflate}
use Rattle.lock_rules.specs.Rules.{onward, owner_seen, enter_look, exit_owned, wait_owned, notify_owned, notify_all_owned, owner_only}
use Rattle.lock_rules.specs.Rules.{enter_store, exit_store, cancel, go_in_again, go_in, exit_go_in, holder_only, enter_check, enter_try, exit_test}
use Rattle.lock_rules.specs.Rules.{exit_tell, exit_leave, wait_inflate, wait_give_up, wait_resume, decide}
use Rattle.lock_rules.specs.declared.{OnwardStep.OnwardStep, Doing.Doing, ThreadState.ThreadState, WordChange.WordChange, Sight.Sight}
use Rattle.std.specs.Prelude.{Option, Some, None}
use Rattle.lock_rules.specs.declared.{ChainWork.ChainWork, Answer.Answer, Effect.Effect}
use Rattle.lock_rules.specs.declared.OnwardStep.TheVariants.{ToCheck, ToTell, ToInflate}
use Rattle.lock_rules.specs.declared.Doing.TheVariants.{EnterLook, EnterStore, EnterCancel, EnterGoIn, EnterCheck, EnterTry, ExitLook}
use Rattle.lock_rules.specs.declared.Doing.TheVariants.{ExitStore}
use Rattle.lock_rules.specs.declared.Doing.TheVariants.{ExitGoIn, ExitTest, ExitTell, ExitLeave, WaitLook, WaitCancel, WaitGoIn, WaitInflate}
use Rattle.lock_rules.specs.declared.Doing.TheVariants.{WaitGiveUp, WaitResume, NotifyLook, NotifyAllLook}
use Rattle.lock_rules.specs.declared.ThreadState.TheVariants.{Idle, Running}
use Rattle.lock_word.specs.declared.meaning.WordSeen.{WordSeen}
use Rattle.lock_word.specs.declared.meaning.WordSeen.TheVariants.{Fat, Reserved}
use Rattle.lock_rules.specs.declared.WordChange.TheVariants.{Unchanged, Freed, OwnFlat, OwnReserved, Cancelled, Inflated}
use Rattle.lock_rules.specs.declared.ChainWork.TheVariants.{Stay, Join, JoinAndHand, Hand, Move, MoveAndLetOut, SendBack}
use Rattle.lock_rules.specs.declared.Answer.TheVariants.{GoneOn, Finished, Parked, NotOwner, TooDeep, NoRule}
use Rattle.lock_rules.proofs.Status.{unparked, Runs}
use Rattle.lock_rules.proofs.Invariant.{in_entry, in_contention, in_waiting}
use Rattle.lock_rules.proofs.SharedFacts.{fat_owned, reserved_owned}
use Rattle.lock_rules.proofs.ListSound.{DoingFine, StateFine, WordFine}

abbrev pub InNone : ThreadState → Type 0
InNone state = (in_entry state ≡ 0) × (in_contention state ≡ 0) × (in_waiting state ≡ 0)

-- the chain that the thread joins is the one that its next state names
abbrev Names : Chain → ThreadState → Type 0
Names Chain.Entry state = (in_entry state ≡ 1) × (in_contention state ≡ 0) × (in_waiting state ≡ 0)
Names Chain.Contention state = (in_entry state ≡ 0) × (in_contention state ≡ 1) × (in_waiting state ≡ 0)
Names Chain.Waiting state = (in_entry state ≡ 0) × (in_contention state ≡ 0) × (in_waiting state ≡ 1)

abbrev pub Joins : ChainWork → ThreadState → Type 0
Joins Stay state = InNone state
Joins (Join chain) state = Names chain state
Joins (JoinAndHand chain) state = Names chain state
Joins Hand state = InNone state
Joins (Move from which) state = InNone state
Joins MoveAndLetOut state = InNone state
Joins (SendBack u) state = InNone state

-- threads are in the entry chain only while there is a holder, so nobody hands over and joins it, and nobody moves from there; `was` was the holder,
-- `holder` is
abbrev pub EntryHeld : ChainWork → ℕ → ℕ → Type 0
EntryHeld Stay was holder = holder ≡ 0 → was ≡ 0
EntryHeld (Join chain) was holder = holder ≢ 0
EntryHeld (JoinAndHand Chain.Entry) was holder = ⊥
EntryHeld (JoinAndHand Chain.Contention) was holder = Unit {0}
EntryHeld (JoinAndHand Chain.Waiting) was holder = Unit {0}
EntryHeld Hand was holder = Unit {0}
EntryHeld (Move Chain.Entry which) was holder = ⊥
EntryHeld (Move Chain.Contention which) was holder = holder ≢ 0
EntryHeld (Move Chain.Waiting which) was holder = holder ≢ 0
EntryHeld MoveAndLetOut was holder = holder ≢ 0
EntryHeld (SendBack u) was holder = holder ≡ 0 → was ≡ 0

-- a count that is written is at most 63
abbrev pub ChangeFine : WordChange → Type 0
ChangeFine Unchanged = Unit {0}
ChangeFine Freed = Unit {0}
ChangeFine (OwnFlat c) = c ≤ count_limit
ChangeFine (OwnReserved c) = c ≤ count_limit
ChangeFine Cancelled = Unit {0}
ChangeFine Inflated = Unit {0}

-- an answer, and the state of the thread that it goes with
abbrev pub Answers : Answer → ThreadState → Type 0
Answers GoneOn state = Runs state
Answers (Finished woken) state = state ≡ Idle
Answers Parked state = unparked state ≡ false
Answers NotOwner state = state ≡ Idle
Answers TooDeep state = state ≡ Idle
Answers NoRule state = Runs state

pub record EffectFine (thread was : ℕ) (effect : Effect) : Type 0 where
  pub state : StateFine effect.state
  pub word : ChangeFine effect.word
  pub deep : effect.depth ≤ depth_limit
  pub shallow : effect.holder ≡ 0 → effect.depth ≡ 0
  pub joins : Joins effect.work effect.state
  pub entry : EntryHeld effect.work was effect.holder
  -- a thread makes itself the holder where there is none
  pub holder : (effect.holder ≡ was) ⊎ ((effect.holder ≡ thread) × (was ≡ 0))
  pub answers : Answers effect.answer effect.state

abbrev pub ActionFine : ℕ → ℕ → Option Effect → Type 0
ActionFine thread was None = Unit {0}
ActionFine thread was (Some effect) = EffectFine thread was effect

-- either way of a test whose outcome does not matter
pub either_way : {A : Type 0} (P : A → Type 0) (b : Bool) {x y : A} → P x → P y → P (pick b x y)
either_way P true p q = p
either_way P false p q = q

module _ (threads thread : ℕ) (sight : Sight) (real : thread ≢ 0) (deep : sight.depth ≤ depth_limit) (shallow : sight.holder ≡ 0 → sight.depth ≡ 0) where
  abbrev Fine : Option Effect → Type 0
  Fine action = ActionFine thread sight.holder action

  word_fine : (change : WordChange) → ChangeFine change → Fine (finish_word sight change)
  word_fine change fine = search inl

  inflate_fine : (depth : ℕ) (state : ThreadState) (answer : Answer) (commits : Bool) → depth ≤ depth_limit → sight.holder ≢ 0 → StateFine state → InNone state
      → Answers answer state → Fine (inflate sight depth state answer commits)
  inflate_fine depth state answer commits low held fine none answers = search (inl, arith)

  -- either way of a test, with what it says where that matters
  either_fine : (test : Bool) (x y : Option Effect) → Fine x → Fine y → Fine (pick test x y)
  either_fine test x y = either_way Fine test

  below_fine : (a b : ℕ) (x y : Option Effect) → (a < b → Fine x) → (b ≤ a → Fine y) → Fine (pick (ltb a b) x y)
  below_fine a b x y = by_below Fine a b

  equal_fine : (a b : ℕ) (x y : Option Effect) → (a ≡ b → Fine x) → (a ≢ b → Fine y) → Fine (pick (eqb a b) x y)
  equal_fine a b x y = by_equal Fine a b

  -- a rule that goes by the word, the owner's, the holder's
  by_word : (rule : WordSeen → Option Effect) → Words (λ word. WordFine threads word → Fine (rule word)) → WordFine threads sight.word → Fine (rule sight.word)
  by_word rule all = each_word (λ word. WordFine threads word → Fine (rule word)) all sight.word

  by_owned : (rule : WordSeen → Option Effect)
      → Words (λ word. WordFine threads word → owner_of word sight.holder sight.depth ≡ thread → Fine (rule word))
      → WordFine threads sight.word → Fine (owner_only thread sight (owner_seen sight) (rule sight.word))
  by_owned rule all fine =
      equal_fine (owner_seen sight) thread (rule sight.word) (not_owner sight)
      (each_word (λ word. WordFine threads word → owner_of word sight.holder sight.depth ≡ thread → Fine (rule word)) all sight.word fine)
      (search inl)

  by_held : (action : Option Effect) → (sight.holder ≢ 0 → Fine action) → Fine (holder_only thread sight action)
  by_held action fine = by_equal Fine sight.holder thread (λ e. fine (λ q. real (sym e ∙ q))) (λ e. tt)

  -- the owner of a fat word holds the monitor, and that of a reserved one has a count above 0
  fat_held : owner_of Fat sight.holder sight.depth ≡ thread → sight.holder ≢ 0
  fat_held own e = real (sym (fat_owned sight.holder sight.depth thread real own).1 ∙ e)

  reserved_above : (owner c : ℕ) → owner_of (Reserved owner c) sight.holder sight.depth ≡ thread → 0 < c
  reserved_above owner c own = (reserved_owned owner c thread real own).0

  go_in_fine : (carried : OnwardStep) → DoingFine (onward carried) → Fine (go_in thread sight carried)
  unfolding go_in go_in_again
  go_in_fine carried fine =
      equal_fine sight.holder 0 _ _ (λ free. search inr)
      (λ held. either_fine (eqb sight.holder thread) _ _ (again carried held) (search inl))
    where
      again : (carried : OnwardStep) → sight.holder ≢ 0 → Fine (go_in_again sight carried)
      again =
          each_carried _ (
            λ held. either_fine (eqb sight.depth 0) _ _ tt (below_fine sight.depth depth_limit _ _ (λ l. search (inl, arith)) (λ l. search inl)),
            search,
            search,
            search,
          )

  pub decide_fine : (doing : Doing) → DoingFine doing → WordFine threads sight.word → Fine (decide thread sight doing)
  unfolding decide enter_look enter_store cancel enter_check enter_try exit_owned exit_store exit_go_in exit_test exit_tell exit_leave wait_owned wait_inflate wait_give_up
      wait_resume notify_owned notify_all_owned
  decide_fine EnterLook fine =
      by_word (enter_look thread sight) (
        λ w. word_fine (OwnFlat 0) (omega arith),
        λ w. word_fine (OwnReserved 1) (omega arith),
        (search inl),
        λ owner c w. either_fine (eqb owner thread) _ _
            (below_fine c count_limit _ _ (λ l. word_fine (OwnFlat (c + 1)) (omega (arith, l))) (λ l. search inl)) (search inl),
        (search (below_fine, either_fine, inl)),
      )
  decide_fine (EnterStore c) fine = λ word. below_fine c count_limit _ _ (λ l. word_fine (OwnReserved (c + 1)) (omega (arith, l))) (λ l. tt)
  decide_fine EnterCancel fine = by_word (cancel sight EnterLook) (search inl)
  decide_fine EnterGoIn fine = λ word. go_in_fine ToCheck tt
  decide_fine EnterCheck fine = λ word. by_held _ (λ held.
      by_word (enter_check thread sight) (
        (search inl),
        search,
        λ w. either_fine (eqb sight.depth 0) _ _ (search (inl, arith)) tt,
        λ owner c w. either_fine (eqb owner thread) _ _
            (inflate_fine (c + 2) Idle (Finished 0) true (omega (arith, w.2)) held tt (refl, refl, refl) refl) (search inl),
        search,
      ) word)
  decide_fine EnterTry fine = λ word. by_held _ (λ held.
      by_word (enter_try thread sight)
      (λ w. inflate_fine 1 Idle (Finished 0) true (omega arith) held tt (refl, refl, refl) refl, search, search, search (either_fine, inl), search) word)
  decide_fine ExitLook fine =
      by_owned (exit_owned sight) (
        (search inl),
        (search inl),
        λ w own. either_fine (ltb 1 sight.depth) _ _
            (record { state = tt; word = tt; deep = omega (arith, deep); shallow = λ e. omega (arith, shallow e); joins = search; entry = search; holder = inl refl; answers = refl })
            (record {
              state = tt;
              word = either_way ChangeFine (both sight.entryempty (both sight.contentionempty (eqb sight.waiters 0))) tt tt;
              deep = omega arith;
              shallow = λ e. refl;
              joins = search;
              entry = search;
              holder = inl refl;
              answers = (tt, tt);
            }),
        λ owner c w own. either_fine (ltb 0 c) _ _ (word_fine (OwnFlat (c - 1)) (omega (arith, w.2))) (search inl),
        λ owner c w own. (let above = reserved_above owner c own in let few = w.2 in search inl),
      )
  decide_fine (ExitStore c) fine = λ word. either_fine (eqb c 0) _ _ tt (word_fine (OwnReserved (c - 1)) (omega (arith, fine.1)))
  decide_fine ExitGoIn fine = λ word. either_fine sight.flag _ _ (go_in_fine ToTell tt) (search inl)
  decide_fine ExitTest fine = λ word. search (either_fine, inl)
  decide_fine ExitTell fine = λ word. by_held _ (λ held. search (either_fine, inl))
  decide_fine ExitLeave fine = λ word. by_held _ (λ held. search (either_fine, inl))
  decide_fine (WaitLook limit) fine = by_owned (wait_owned sight limit) (search inl)
  decide_fine (WaitCancel limit) fine = by_word (cancel sight (WaitLook limit)) (search inl)
  decide_fine (WaitGoIn limit) fine = λ word. go_in_fine (ToInflate limit) fine
  decide_fine (WaitInflate limit) fine = λ word. by_held _ (λ held.
      by_word (wait_inflate thread sight limit) (
        search,
        search,
        search,
        λ owner c w. either_fine (eqb owner thread) _ _
            (inflate_fine (c + 1) (Running (WaitGiveUp limit)) GoneOn false (omega (arith, w.2)) held fine (refl, refl, refl) (tt, tt)) tt,
        search,
      ) word)
  decide_fine (WaitGiveUp limit) fine = λ word. by_held _ (λ held.
      by_word (wait_give_up sight limit)
      (search, search, λ w. equal_fine sight.depth 0 _ _ (λ e. tt) (λ e. (let above : 1 ≤ sight.depth = omega (arith, e) in search inl)), search, search) word)
  decide_fine (WaitResume suspension) fine = λ word. by_held _ (λ held.
      by_word (wait_resume sight suspension)
      (search, search, λ w. either_fine (eqb sight.depth 0) _ _ (let low = fine.1 in search (inl, arith)) tt, search, search) word)
  decide_fine NotifyLook fine = by_owned (notify_owned sight) (search (either_fine, inl, fat_held))
  decide_fine NotifyAllLook fine = by_owned (notify_all_owned sight) (search (inl, fat_held))
