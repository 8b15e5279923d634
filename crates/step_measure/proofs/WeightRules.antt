-- Every rule that fits lowers its own thread's weight by more than it can raise those of all other threads.
use Prim.Native.Nat.{ℕ, ◌+◌, ◌*◌, ◌-◌, ◌<◌}
use mathlib.Core.Bool.{Bool}
use native.Mathlib.Bridge.{le_by_compare, IsLe}
use lib.Dec.{eqb}
use Rattle.laws.specs.Choice.{pick, both}
use Rattle.lock_word.specs.declared.meaning.WordSeen.{WordSeen}
use Rattle.lock_word.specs.declared.meaning.WordSeen.TheVariants.{Fat}
use Rattle.lock_rules.specs.Actions.{let_go}
use Rattle.lock_rules.specs.Rules.{enter_look, exit_owned, deflation, wait_owned, notify_owned, notify_all_owned}
use Rattle.lock_rules.specs.Rules.{enter_store, exit_store, cancel, go_in_again, go_in, exit_go_in, enter_check, enter_try, exit_test}
use Rattle.lock_rules.specs.Rules.{exit_tell, exit_leave, wait_inflate, wait_give_up, wait_resume, decide}
use Rattle.std.specs.Prelude.{Option, Some, None}
use Rattle.lock_rules.specs.declared.Effect.{Effect}
use Rattle.lock_rules.specs.declared.{Doing.Doing, ChainWork.ChainWork}
use Rattle.lock_rules.specs.declared.Doing.TheVariants.{ExitLook, ExitLeave}
use Rattle.lock_rules.specs.declared.ChainWork.TheVariants.{Stay, Join, JoinAndHand, Hand, Move, MoveAndLetOut, SendBack}
use Rattle.lock_rules.proofs.Each.{each_doing, Words, each_word}
use Rattle.lock_rules.proofs.Objects.{ListObject, with_word, sight_of}
use Rattle.lock_rules.proofs.SoundEffects.{either_way}
use Rattle.step_measure.proofs.Sums.{others}
use Rattle.step_measure.proofs.Weights.{look_more, more_after, doing_weight, weight}

-- How far the work on chains can raise another's weight, by what a look has besides: who is moved may be a contender, and who is sent back is at a look.
abbrev pub work_raise : ChainWork → ℕ → ℕ
work_raise Stay more = 0
work_raise (Join chain) more = 0
work_raise (JoinAndHand chain) more = 0
work_raise Hand more = 0
work_raise (Move from which) more = 3
work_raise MoveAndLetOut more = 3
work_raise (SendBack u) more = more

-- and how far a step can, which changes the word too
abbrev pub step_raise : ℕ → ℕ → ChainWork → ℕ
step_raise more after work = (after - more) + work_raise work after

-- the thread's weight falls from `before` by more than that for each of the others
abbrev pub Lowers : ℕ → ℕ → Option Effect → Type 0
Lowers more before None = Unit {0}
Lowers more before (Some effect) =
    let after = more_after effect.word more in weight after effect.state + others * step_raise more after effect.work < before

either_lowers : (more before : ℕ) (test : Bool) (x y : Option Effect) → Lowers more before x → Lowers more before y → Lowers more before (pick test x y)
either_lowers more before test x y = either_way (Lowers more before) test

module _ (thread : ℕ) (o : ListObject) where
  -- of a thread that does this, at this word
  abbrev LowersAt : Doing → WordSeen → Type 0
  LowersAt doing word = let more = look_more word in Lowers more (doing_weight more doing) (decide thread (sight_of (with_word o word)) doing)

  -- an exit leaves a fat word fat, or frees it
  deflated_lowers : let sight = sight_of (with_word o Fat) in Lowers 0 (doing_weight 0 ExitLook) (let_go sight (deflation sight) 0 ExitLeave)
  unfolding IsLe
  deflated_lowers =
      let sight = sight_of (with_word o Fat) in
      either_way (λ change. Lowers 0 (doing_weight 0 ExitLook) (let_go sight change 0 ExitLeave))
      (both sight.entryempty (both sight.contentionempty (eqb sight.waiters 0))) (search le_by_compare) (search le_by_compare)

  -- each doing at each word: the tests of its rule either way, and an order of two numerals
  pub decide_lowers : (doing : Doing) → LowersAt doing o.word
  unfolding decide enter_look enter_store cancel enter_check enter_try exit_owned exit_store exit_go_in exit_test exit_tell exit_leave wait_owned
      wait_inflate wait_give_up wait_resume notify_owned notify_all_owned go_in go_in_again IsLe
  decide_lowers doing =
      each_word (LowersAt doing) (each_doing (λ doing. Words (LowersAt doing)) (search (le_by_compare, either_lowers, deflated_lowers) depth 6) doing) o.word
