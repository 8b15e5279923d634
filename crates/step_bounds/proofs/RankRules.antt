-- Every rule leaves its thread fewer steps than it had, and makes no word reserved that was not, so that nobody else gets more.
use Prim.Native.Nat.{ℕ, ◌+◌, ◌-◌, ◌<◌}
use mathlib.Core.Bool.{Bool}
use native.Mathlib.Omega.{arith}
use lib.Dec.{eqb, ltb}
use Rattle.laws.specs.Choice.{pick, both}
use Rattle.lock_word.specs.{Depth.depth_limit, Layout.count_limit, Meaning.cancelled}
use Rattle.lock_word.specs.declared.meaning.WordSeen.{WordSeen}
use Rattle.lock_word.specs.declared.meaning.WordSeen.TheVariants.{Free, Fat, Flat, Reserved}
use Rattle.lock_rules.specs.Actions.{finish_word, let_go}
use Rattle.lock_rules.specs.Rules.{onward, owner_seen, enter_look, exit_owned, deflation, wait_owned, notify_owned, notify_all_owned, owner_only}
use Rattle.lock_rules.specs.Rules.{enter_store, exit_store, cancel, go_in_again, go_in, exit_go_in, holder_only, enter_check, enter_try, exit_test}
use Rattle.lock_rules.specs.Rules.{exit_tell, exit_leave, wait_inflate, wait_give_up, wait_resume, decide}
use Rattle.std.specs.Prelude.{Option, Some, None}
use Rattle.lock_rules.specs.declared.{OnwardStep.OnwardStep, Doing.Doing, Sight.Sight, ChainWork.ChainWork, Effect.Effect}
use Rattle.lock_rules.specs.declared.OnwardStep.TheVariants.{ToCheck, ToTell, ToInflate}
use Rattle.lock_rules.specs.declared.Doing.TheVariants.{EnterLook, EnterStore, EnterCancel, EnterGoIn, EnterCheck, EnterTry, ExitLook, ExitStore}
use Rattle.lock_rules.specs.declared.Doing.TheVariants.{ExitGoIn, ExitTest, ExitTell, ExitLeave, WaitLook, WaitCancel, WaitGoIn, WaitInflate}
use Rattle.lock_rules.specs.declared.Doing.TheVariants.{WaitGiveUp, WaitResume, NotifyLook, NotifyAllLook}
use Rattle.lock_rules.specs.declared.WordChange.TheVariants.{OwnReserved}
use Rattle.lock_rules.specs.declared.ChainWork.TheVariants.{Stay, Join, JoinAndHand, Hand, Move, MoveAndLetOut, SendBack}
use Rattle.lock_rules.proofs.Each.{each_carried, Words, each_word}
use Rattle.lock_rules.proofs.Changes.{seen_after}
use Rattle.lock_rules.proofs.SoundEffects.{either_way}
use Rattle.lock_rules.proofs.Invariant.{Unreserved, KeptWord, phase_row, ReliesOn}
use Rattle.step_bounds.proofs.Ranks.{doing_left, left, look_clear, Keeps}

-- a thread is sent back only to a word that is not reserved
abbrev pub Sends : ChainWork → WordSeen → Type 0
Sends Stay after = Unit {0}
Sends (Join chain) after = Unit {0}
Sends (JoinAndHand chain) after = Unit {0}
Sends Hand after = Unit {0}
Sends (Move from which) after = Unit {0}
Sends MoveAndLetOut after = Unit {0}
Sends (SendBack u) after = Unreserved after

pub record EffectLowers (thread : ℕ) (word : WordSeen) (before : ℕ) (effect : Effect) : Type 0 where
  pub own : left (seen_after thread effect.word word) effect.state < before
  pub keeps : Keeps word (seen_after thread effect.word word)
  pub sends : Sends effect.work (seen_after thread effect.word word)

-- of a step of `thread`, which had so many left
abbrev pub Lowers : ℕ → WordSeen → ℕ → Option Effect → Type 0
Lowers thread word before None = Unit {0}
Lowers thread word before (Some effect) = EffectLowers thread word before effect

module _ (thread : ℕ) (sight : Sight) where
  -- either way of a test
  either_lowers : (word : WordSeen) (before : ℕ) (test : Bool) (x y : Option Effect) → Lowers thread word before x → Lowers thread word before y
      → Lowers thread word before (pick test x y)
  either_lowers word before test x y = either_way (Lowers thread word before) test

  -- a rule that goes by the word, the owner's, the holder's
  by_word : (doing : Doing) (rule : WordSeen → Option Effect) → Words (λ word. Lowers thread word (doing_left word doing) (rule word))
      → Lowers thread sight.word (doing_left sight.word doing) (rule sight.word)
  by_word doing rule all = each_word (λ word. Lowers thread word (doing_left word doing) (rule word)) all sight.word

  by_owned : (doing : Doing) (rule : WordSeen → Option Effect)
      → Words (λ word. Lowers thread word (doing_left word doing) (rule word) × (0 < doing_left word doing))
      → Lowers thread sight.word (doing_left sight.word doing) (owner_only thread sight (owner_seen sight) (rule sight.word))
  by_owned doing rule all =
      let (lowers, some) = each_word (λ word. Lowers thread word (doing_left word doing) (rule word) × (0 < doing_left word doing)) all sight.word in
      either_lowers sight.word (doing_left sight.word doing) (eqb (owner_seen sight) thread) _ _ lowers (search)

  by_held : (before : ℕ) (action : Option Effect) → Lowers thread sight.word before action → Lowers thread sight.word before (holder_only thread sight action)
  by_held before action lowers = either_lowers sight.word before (eqb sight.holder thread) _ _ lowers tt

  -- the kept word is the word, so the word was reserved before the store
  kept_reserved : (c new : ℕ) (word : WordSeen) → KeptWord thread c word → Keeps word (Reserved thread new)
  kept_reserved c new =
      each_word _ (λ kept. absurd kept, λ kept. absurd kept, λ kept. absurd kept, λ owner d kept. absurd kept, λ owner d kept clear. absurd clear)

  store_lowers : (c new : ℕ) → KeptWord thread c sight.word → Lowers thread sight.word 5 (finish_word sight (OwnReserved new))
  store_lowers c new kept = record { own = omega arith; keeps = kept_reserved c new sight.word kept; sends = tt }

  -- a cancelled word is not reserved
  cancelled_clear : (owner c : ℕ) → Unreserved (cancelled (Reserved owner c))
  cancelled_clear owner c = either_way Unreserved (eqb c 0) tt tt

  cancel_lowers : (look : Doing) → ((word : WordSeen) → Unreserved word → doing_left word look < 5) → (word : WordSeen)
      → Lowers thread word 5 (cancel sight look word)
  unfolding cancel
  cancel_lowers look low =
      each_word _ (
        record { own = low Free tt; keeps = λ clear. tt; sends = tt },
        record { own = low Free tt; keeps = λ clear. tt; sends = tt },
        record { own = low Fat tt; keeps = λ clear. tt; sends = tt },
        λ owner c. record { own = low (Flat owner c) tt; keeps = λ clear. tt; sends = tt },
        λ owner c. let after = cancelled_clear owner c in record { own = low (cancelled (Reserved owner c)) after; keeps = λ clear. after; sends = after },
      )

  again_lowers : (carried : OnwardStep) → Lowers thread sight.word 3 (go_in_again sight carried)
  unfolding go_in_again
  again_lowers =
      each_carried _ (
        either_lowers sight.word 3 (eqb sight.depth 0) _ _ tt
            (either_lowers sight.word 3 (ltb sight.depth depth_limit) _ _ (search arith) (search arith)),
        search,
        search,
        search,
      )

  onward_low : (carried : OnwardStep) → doing_left sight.word (onward carried) < 3
  onward_low = each_carried _ (search arith)

  go_in_lowers : (carried : OnwardStep) → Lowers thread sight.word 3 (go_in thread sight carried)
  unfolding go_in
  go_in_lowers carried =
      either_lowers sight.word 3 (eqb sight.holder 0) _ _ (search onward_low)
      (either_lowers sight.word 3 (eqb sight.holder thread) _ _ (again_lowers carried) (search arith))

  -- an exit leaves a fat word fat, or frees it
  deflated_lowers : Lowers thread Fat 5 (let_go sight (deflation sight) 0 ExitLeave)
  deflated_lowers =
      either_way (λ change. Lowers thread Fat 5 (let_go sight change 0 ExitLeave))
      (both sight.entryempty (both sight.contentionempty (eqb sight.waiters 0))) (search arith) (search arith)

  pub decide_lowers : (doing : Doing) → ReliesOn (phase_row doing).reliance thread sight.word sight.flag sight.holder
      → Lowers thread sight.word (doing_left sight.word doing) (decide thread sight doing)
  unfolding decide enter_look enter_store cancel enter_check enter_try exit_owned exit_store exit_go_in exit_test exit_tell exit_leave wait_owned
      wait_inflate wait_give_up wait_resume notify_owned notify_all_owned
  decide_lowers EnterLook relies =
      by_word EnterLook (enter_look thread sight) (
        search arith,
        search arith,
        search arith,
        λ owner c. either_lowers (Flat owner c) 4 (eqb owner thread) _ _
            (either_lowers (Flat owner c) 4 (ltb c count_limit) _ _ (search arith) (search arith)) (search arith),
        λ owner c. either_lowers (Reserved owner c) 6 (eqb owner thread) _ _
            (either_lowers (Reserved owner c) 6 (ltb c count_limit) _ _ (search arith) (search arith)) (search arith),
      )
  decide_lowers (EnterStore c) relies = either_lowers sight.word 5 (ltb c count_limit) _ _ (store_lowers c (c + 1) relies.0) tt
  decide_lowers EnterCancel relies = cancel_lowers EnterLook (λ word clear. omega (arith, look_clear 4 word clear)) sight.word
  decide_lowers EnterGoIn relies = go_in_lowers ToCheck
  decide_lowers EnterCheck relies =
      by_held 2 _
      (by_word EnterCheck (enter_check thread sight) (
        search arith,
        search arith,
        either_lowers Fat 2 (eqb sight.depth 0) _ _ (search arith) (search arith),
        λ owner c. either_lowers (Flat owner c) 2 (eqb owner thread) _ _ (search arith) (search arith),
        search arith,
      ))
  decide_lowers EnterTry relies =
      by_held 1 _
      (by_word EnterTry (enter_try thread sight) (
        search arith,
        search,
        search,
        λ owner c. either_lowers (Flat owner c) 1 (eqb owner thread) _ _ (search arith) (search arith),
        search,
      ))
  decide_lowers ExitLook relies =
      by_owned ExitLook (exit_owned sight) (
        search arith,
        search arith,
        (either_lowers Fat 5 (ltb 1 sight.depth) _ _ (search arith) deflated_lowers, omega arith),
        λ owner c. (either_lowers (Flat owner c) 5 (ltb 0 c) _ _ (search arith) (search arith), omega arith),
        search arith,
      )
  decide_lowers (ExitStore c) relies = either_lowers sight.word 5 (eqb c 0) _ _ tt (store_lowers c (c - 1) relies.0)
  decide_lowers ExitGoIn relies = either_lowers sight.word 3 sight.flag _ _ (go_in_lowers ToTell) (search arith)
  decide_lowers ExitTest relies = either_lowers sight.word 4 sight.flag _ _ (search arith) (search arith)
  decide_lowers ExitTell relies = by_held 2 _
      (either_lowers sight.word 2 sight.flag _ _ (either_lowers sight.word 2 sight.contentionempty _ _ (search arith) (search arith)) (search arith))
  decide_lowers ExitLeave relies = by_held 1 _ (either_lowers sight.word 1 (eqb sight.depth 0) _ _ (search arith) (search arith))
  decide_lowers (WaitLook limit) relies = by_owned (WaitLook limit) (wait_owned sight limit) (search arith)
  decide_lowers (WaitCancel limit) relies = cancel_lowers (WaitLook limit) (λ word clear. omega (arith, look_clear 4 word clear)) sight.word
  decide_lowers (WaitGoIn limit) relies = go_in_lowers (ToInflate limit)
  decide_lowers (WaitInflate limit) relies =
      by_held 2 _
      (by_word (WaitInflate limit) (wait_inflate thread sight limit)
      (search, search, search, λ owner c. either_lowers (Flat owner c) 2 (eqb owner thread) _ _ (search arith) (search arith), search))
  decide_lowers (WaitGiveUp limit) relies =
      by_held 1 _
      (by_word (WaitGiveUp limit) (wait_give_up sight limit)
      (search, search, either_lowers Fat 1 (eqb sight.depth 0) _ _ (search arith) (search arith), search, search))
  decide_lowers (WaitResume suspension) relies =
      by_held 1 _
      (by_word (WaitResume suspension) (wait_resume sight suspension)
      (search, search, either_lowers Fat 1 (eqb sight.depth 0) _ _ (search arith) (search arith), search, search))
  decide_lowers NotifyLook relies =
      by_owned NotifyLook (notify_owned sight) (
        search arith,
        search arith,
        (either_lowers Fat 1 (eqb sight.waiters 0) _ _ (search arith) (search arith), omega arith),
        search arith,
        search arith,
      )
  decide_lowers NotifyAllLook relies = by_owned NotifyAllLook (notify_all_owned sight) (search arith)
