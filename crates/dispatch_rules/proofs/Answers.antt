-- What a rule answers is a step, and a look always has a rule.
use Prim.Native.Nat.{ℕ}
use mathlib.Core.Path.{◌≡◌}
use mathlib.Core.Bool.{Bool, true}
use Rattle.laws.specs.Choice.{pick}
use Rattle.lock_word.specs.declared.meaning.WordSeen.{WordSeen}
use Rattle.lock_rules.specs.Numbers.{returned_of}
use Rattle.lock_rules.specs.Operations.{Operation}
use Rattle.lock_rules.specs.Rules.{begun, decide, enter_look, exit_owned, wait_owned, notify_owned, notify_all_owned}
use Rattle.lock_rules.specs.Rules.{enter_store, exit_store, cancel, go_in_again, go_in, exit_go_in, enter_check, enter_try, exit_test}
use Rattle.lock_rules.specs.Rules.{exit_tell, exit_leave, wait_inflate, wait_give_up, wait_resume}
use Rattle.std.specs.Prelude.{Option, Some, None}
use Rattle.lock_rules.specs.declared.Effect.{Effect}
use Rattle.lock_rules.specs.declared.{Limit.Limit, Doing.Doing, Sight.Sight}
use Rattle.lock_rules.proofs.Each.{each_doing, each_operation, Words, each_word}
use Rattle.lock_rules.proofs.SoundEffects.{either_way}
use Rattle.step_bounds.specs.SixSteps.{is_step}

-- an action that answers with a step; `none` is what is said of 20
abbrev pub Steps : Type 0 → Option Effect → Type 0
Steps none None = none
Steps none (Some effect) = is_step (returned_of effect.answer) ≡ true

either_steps : (none : Type 0) (test : Bool) (x y : Option Effect) → Steps none x → Steps none y → Steps none (pick test x y)
either_steps none test x y = either_way (Steps none) test

module _ (thread : ℕ) (sight : Sight) where
  -- the same with another word in sight
  abbrev seeing : WordSeen → Sight
  seeing word =
      record {
        word = word;
        flag = sight.flag;
        holder = sight.holder;
        depth = sight.depth;
        entryempty = sight.entryempty;
        contentionempty = sight.contentionempty;
        waiters = sight.waiters;
      }

  abbrev StepsAt : Type 0 → Doing → WordSeen → Type 0
  StepsAt none doing word = Steps none (decide thread (seeing word) doing)

  pub decide_steps : (doing : Doing) → Steps Unit (decide thread sight doing)
  unfolding decide enter_look enter_store cancel enter_check enter_try exit_owned exit_store exit_go_in exit_test exit_tell exit_leave wait_owned
      wait_inflate wait_give_up wait_resume notify_owned notify_all_owned go_in go_in_again
  decide_steps doing = each_word (StepsAt Unit doing) (each_doing (λ doing. Words (StepsAt Unit doing)) (search either_steps depth 6) doing) sight.word

  pub look_steps : (operation : Operation) (limit : Limit) → Steps ⊥ (decide thread sight (begun operation limit))
  unfolding decide enter_look exit_owned wait_owned notify_owned notify_all_owned
  look_steps operation limit =
      each_word (StepsAt ⊥ (begun operation limit)) (each_operation (λ operation. Words (StepsAt ⊥ (begun operation limit))) (search either_steps depth 6) operation) sight.word
