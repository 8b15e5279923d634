-- The plain recursive monitor of one object, and what a committing step does to it.
use Rattle.std.specs.Prelude.{ℕ, zero, suc, ◌+◌, ◌-◌, Bool, true, false, List, [], ◌∷◌, ◌++◌, eqb, ltb, length}
use Rattle.laws.specs.Choice.{pick, both, either}
use Rattle.laws.specs.Update.{update}
use Rattle.laws.specs.Count.{count}
use Rattle.laws.specs.Filter.{failing}
use Rattle.lock_word.specs.Depth.{depth_limit}
use Rattle.lock_rules.specs.Operations.{Operation, Enter, Exit, Wait, Notify, NotifyAll}
use Rattle.lock_rules.specs.Limits.{ticked, at_zero, run_out}
use Rattle.lock_rules.specs.declared.Limit.{Limit}
use Rattle.lock_rules.specs.declared.Limit.TheVariants.{Unlimited}
use Rattle.lock_rules.specs.declared.Suspension.{Suspension}
use Rattle.lock_rules.specs.declared.Answer.{Answer}
use Rattle.lock_rules.specs.declared.Answer.TheVariants.{GoneOn, Finished, NotOwner, TooDeep}

-- owner and depth, 0 for none; the waiting in order; the set of the woken; and what each waiting or woken thread has saved
pub record PlainMonitor : Type 0 where
  pub owner : ℕ
  pub depth : ℕ
  pub waiting : List ℕ
  pub woken : ℕ → Bool
  pub saved : ℕ → Suspension

-- the monitor after a commit, and the plain answer; `GoneOn` is no answer
pub record Committed : Type 0 where
  pub monitor : PlainMonitor
  pub answer : Answer

abbrev pub unowned : PlainMonitor
unowned = record { owner = 0; depth = 0; waiting = []; woken = λ t. false; saved = λ t. record { depth = 0; limit = Unlimited } }

abbrev pub owned_by : PlainMonitor → ℕ → ℕ → PlainMonitor
owned_by monitor owner depth = record { owner = owner; depth = depth; waiting = monitor.waiting; woken = monitor.woken; saved = monitor.saved }

-- nothing is altered
abbrev pub unaltered : PlainMonitor → Answer → Committed
unaltered monitor answer = record { monitor = monitor; answer = answer }

abbrev pub finished : PlainMonitor → Committed
finished monitor = record { monitor = monitor; answer = Finished 0 }

-- no owner, own it at depth 1; own below the limit, depth + 1; own at the limit, 19; another's, no answer
abbrev pub plain_enter : ℕ → PlainMonitor → Committed
plain_enter thread monitor =
    pick (eqb monitor.owner 0) (finished (owned_by monitor thread 1))
    (pick (eqb monitor.owner thread)
    (pick (ltb monitor.depth depth_limit) (finished (owned_by monitor thread (monitor.depth + 1))) (unaltered monitor TooDeep))
    (unaltered monitor GoneOn))

-- any other exit, wait or notify, not the owner: 18
abbrev pub by_owner : ℕ → PlainMonitor → Committed → Committed
by_owner thread monitor committed = pick (eqb monitor.owner thread) committed (unaltered monitor NotOwner)

-- depth - 1, no owner at 0
abbrev pub plain_exit : ℕ → PlainMonitor → Committed
plain_exit thread monitor =
    finished (pick (eqb monitor.depth 1) (owned_by monitor 0 0) (owned_by monitor thread (monitor.depth - 1)))

-- join the waiting at the end, depth saved and the limit kept; no owner, depth 0, no answer yet
abbrev pub give_up : Limit → ℕ → PlainMonitor → Committed
give_up limit thread monitor =
    record {
      monitor = record {
        owner = 0;
        depth = 0;
        waiting = monitor.waiting ++ (thread ∷ []);
        woken = monitor.woken;
        saved = update monitor.saved thread (record { depth = monitor.depth; limit = limit });
      };
      answer = GoneOn;
    }

-- a woken thread, no owner: no longer woken, own it at the saved depth; 1 with 1 if its limit ran out
abbrev pub resume : ℕ → PlainMonitor → Committed
resume thread monitor =
    record {
      monitor = record {
        owner = thread;
        depth = (monitor.saved thread).depth;
        waiting = monitor.waiting;
        woken = update monitor.woken thread false;
        saved = monitor.saved;
      };
      answer = Finished (run_out (monitor.saved thread).limit);
    }

-- the first waiting, if any, becomes woken
abbrev pub wake_first : PlainMonitor → List ℕ → Committed
wake_first monitor [] = finished monitor
wake_first monitor (first ∷ rest) =
    record {
      monitor = record { owner = monitor.owner; depth = monitor.depth; waiting = rest; woken = update monitor.woken first true; saved = monitor.saved };
      answer = Finished 1;
    }

abbrev pub above_zero : ℕ → Bool
above_zero zero = false
above_zero (suc n) = true

-- all waiting become woken
abbrev pub wake_all : PlainMonitor → Committed
wake_all monitor =
    record {
      monitor = record {
        owner = monitor.owner;
        depth = monitor.depth;
        waiting = [];
        woken = λ t. either (above_zero (count t monitor.waiting)) (monitor.woken t);
        saved = monitor.saved;
      };
      answer = Finished (length monitor.waiting);
    }

-- a committing step of an operation, with the limit of its begin, by a thread
abbrev pub commit : Operation → Limit → ℕ → PlainMonitor → Committed
commit Enter limit thread monitor = plain_enter thread monitor
commit Exit limit thread monitor = by_owner thread monitor (plain_exit thread monitor)
commit Wait limit thread monitor =
    pick (both (monitor.woken thread) (eqb monitor.owner 0)) (resume thread monitor) (by_owner thread monitor (give_up limit thread monitor))
commit Notify limit thread monitor = by_owner thread monitor (wake_first monitor monitor.waiting)
commit NotifyAll limit thread monitor = by_owner thread monitor (wake_all monitor)

-- A tick (document 02, L1): "each timed thread among the waiting loses one, those at zero become woken as run out".
abbrev pub is_waiting : PlainMonitor → ℕ → Bool
is_waiting monitor t = above_zero (count t monitor.waiting)

abbrev pub ticked_saved : PlainMonitor → ℕ → Suspension
ticked_saved monitor t = pick (is_waiting monitor t) (ticked (monitor.saved t)) (monitor.saved t)

abbrev pub plain_tick : PlainMonitor → PlainMonitor
plain_tick monitor =
    record {
      owner = monitor.owner;
      depth = monitor.depth;
      waiting = failing (λ t. at_zero (ticked_saved monitor t)) monitor.waiting;
      woken = λ t. either (both (is_waiting monitor t) (at_zero (ticked_saved monitor t))) (monitor.woken t);
      saved = ticked_saved monitor;
    }
