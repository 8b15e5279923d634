-- The shapes that actions have. Each says what changes; all else stays as it is in sight.
use Rattle.std.specs.Prelude.{ℕ, Bool, true, false, Option, Some}
use Rattle.lock_rules.specs.declared.Doing.{Doing}
use Rattle.lock_rules.specs.declared.Doing.TheVariants.{EnterTry}
use Rattle.lock_rules.specs.declared.ThreadState.{ThreadState}
use Rattle.lock_rules.specs.declared.ThreadState.TheVariants.{Idle, Running}
use Rattle.lock_rules.specs.declared.WordChange.{WordChange}
use Rattle.lock_rules.specs.declared.WordChange.TheVariants.{Unchanged, Cancelled, Inflated}
use Rattle.lock_rules.specs.declared.Sight.{Sight}
use Rattle.lock_rules.specs.declared.ChainWork.{ChainWork}
use Rattle.lock_rules.specs.declared.ChainWork.TheVariants.{Stay, MoveAndLetOut}
use Rattle.lock_rules.specs.declared.Answer.{Answer}
use Rattle.lock_rules.specs.declared.Answer.TheVariants.{GoneOn, Finished, NotOwner}
use Rattle.lock_rules.specs.declared.Effect.{Effect}

-- the work on chains, the thread's state and the answer, with word and monitor as they are
abbrev pub keep_object : Sight → ChainWork → ThreadState → Answer → Bool → Option Effect
keep_object sight work state answer commits =
    Some
    (record {
      work = work;
      state = state;
      word = Unchanged;
      flag = sight.flag;
      holder = sight.holder;
      depth = sight.depth;
      answer = answer;
      commits = commits;
    })

-- to another phase
abbrev pub go_on : Sight → Doing → Option Effect
go_on sight doing = keep_object sight Stay (Running doing) GoneOn false

-- 18 (c)
abbrev pub not_owner : Sight → Option Effect
not_owner sight = keep_object sight Stay Idle NotOwner true

-- an exit that committed at its look finishes, with nothing changed
abbrev pub finish_committed : Sight → Option Effect
finish_committed sight = keep_object sight Stay Idle (Finished 0) false

-- finish (c), with nothing changed
abbrev pub finish : Sight → Option Effect
finish sight = keep_object sight Stay Idle (Finished 0) true

-- finish (c), with another word
abbrev pub finish_word : Sight → WordChange → Option Effect
finish_word sight word =
    Some
    (record {
      work = Stay;
      state = Idle;
      word = word;
      flag = sight.flag;
      holder = sight.holder;
      depth = sight.depth;
      answer = Finished 0;
      commits = true;
    })

-- finish (c), with another depth of the monitor and this woken number
abbrev pub finish_depth : Sight → ℕ → ℕ → Option Effect
finish_depth sight depth woken =
    Some
    (record {
      work = Stay;
      state = Idle;
      word = Unchanged;
      flag = sight.flag;
      holder = sight.holder;
      depth = depth;
      answer = Finished woken;
      commits = true;
    })

-- an exit lets go (c), and goes on
abbrev pub let_go : Sight → WordChange → ℕ → Doing → Option Effect
let_go sight word depth doing =
    Some
    (record {
      work = Stay;
      state = Running doing;
      word = word;
      flag = sight.flag;
      holder = sight.holder;
      depth = depth;
      answer = GoneOn;
      commits = true;
    })

-- inflate to a depth: word fat, flag 0, all contenders to the entry chain; "inflating lets every queued exit out of the entry chain" (document 02, L2)
abbrev pub inflate : Sight → ℕ → ThreadState → Answer → Bool → Option Effect
inflate sight depth state answer commits =
    Some
    (record {
      work = MoveAndLetOut;
      state = state;
      word = Inflated;
      flag = false;
      holder = sight.holder;
      depth = depth;
      answer = answer;
      commits = commits;
    })

-- the reservation is cancelled
abbrev pub cancel_word : Sight → ChainWork → Doing → Option Effect
cancel_word sight work look =
    Some
    (record {
      work = work;
      state = Running look;
      word = Cancelled;
      flag = sight.flag;
      holder = sight.holder;
      depth = sight.depth;
      answer = GoneOn;
      commits = false;
    })

-- the thread becomes holder, and goes on
abbrev pub become_holder : ℕ → Sight → Doing → Option Effect
become_holder thread sight doing =
    Some
    (record {
      work = Stay;
      state = Running doing;
      word = Unchanged;
      flag = sight.flag;
      holder = thread;
      depth = sight.depth;
      answer = GoneOn;
      commits = false;
    })

-- the contention flag becomes 1, and the enter goes on to try
abbrev pub raise_flag : Sight → Option Effect
raise_flag sight =
    Some
    (record {
      work = Stay;
      state = Running EnterTry;
      word = Unchanged;
      flag = true;
      holder = sight.holder;
      depth = sight.depth;
      answer = GoneOn;
      commits = false;
    })
