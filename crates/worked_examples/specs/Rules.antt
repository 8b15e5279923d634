-- Examples of steps whose rules demand 3 alone would not tell from others, and of what a step returns.
use Rattle.std.specs.Prelude.{◌≡◌, Bool, true, false, Some}
use Rattle.chains.specs.declared.named.Chain.{Chain}
use Rattle.lock_rules.specs.Rules.{deflation, exit_tell, enter_try}
use Rattle.lock_rules.specs.Actions.{keep_object}
use Rattle.lock_rules.specs.Numbers.{returned_of}
use Rattle.lock_rules.specs.declared.Doing.TheVariants.{ExitLeave}
use Rattle.lock_rules.specs.declared.ThreadState.TheVariants.{Idle, Running}
use Rattle.lock_rules.specs.declared.WordChange.TheVariants.{Unchanged, Freed, Inflated}
use Rattle.lock_rules.specs.declared.Sight.{Sight}
use Rattle.lock_rules.specs.declared.Taken.TheVariants.{First}
use Rattle.lock_rules.specs.declared.ChainWork.TheVariants.{Move, MoveAndLetOut}
use Rattle.lock_rules.specs.declared.Answer.TheVariants.{GoneOn, Finished, Parked}
use Rattle.lock_word.specs.declared.meaning.WordSeen.TheVariants.{Free, Fat}

-- a monitor that thread 1 holds at depth 1, its flag up, nobody queued or waiting, with contenders or without
abbrev pub seen : Bool → Sight
seen alone =
    record {
      word = Fat;
      flag = true;
      holder = 1;
      depth = 1;
      entryempty = true;
      contentionempty = alone;
      waiters = 0;
    }

pub record RuleExamples : Type 0 where
  -- the last exit, with nobody else at the monitor and with a contender
  pub deflated : deflation (seen true) ≡ Freed
  pub inflated : deflation (seen false) ≡ Unchanged
  -- an exit tells the first contender
  pub told : exit_tell (seen false) ≡ keep_object (seen false) (Move Chain.Contention First) (Running ExitLeave) GoneOn false
  -- a contender that finds the word free inflates it, takes the flag down, and lets the queued exits out
  pub flag_down : enter_try 1 (seen false) Free
      ≡ Some
      (record {
        work = MoveAndLetOut;
        state = Idle;
        word = Inflated;
        flag = false;
        holder = 1;
        depth = 1;
        answer = Finished 0;
        commits = true;
      })
  -- a step that finishes returns 1, one that parks 2
  pub finished_number : returned_of (Finished 0) ≡ 1
  pub parked_number : returned_of Parked ≡ 2
