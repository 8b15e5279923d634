-- What a committing step does, where it is known who owns the monitor and who is woken.
use Prim.Native.Nat.{ℕ, ◌+◌, ◌-◌, ◌≤◌, ◌<◌}
use mathlib.Core.Path.{◌≡◌, sym, ap, ◌∙◌, fun_ext}
use mathlib.Core.Logic.{◌≢◌}
use mathlib.Core.Bool.{Bool, true, false}
use mathlib.Core.List.{[]}
use lib.Dec.{T}
use lib.ListN.{length}
use borrow.Author.Tests.{eq-eqb, ne_eqb, lt-ltb, le-ltb}
use Rattle.laws.specs.{Choice.either, Count.count}
use Rattle.laws.proofs.Count.{count_none}
use Rattle.lock_word.specs.Depth.{depth_limit}
use Rattle.lock_rules.specs.Operations.{Operation, Enter, Exit, Wait, Notify, NotifyAll}
use Rattle.lock_rules.specs.declared.Limit.{Limit}
use Rattle.lock_rules.specs.declared.Answer.TheVariants.{Finished, NotOwner, TooDeep}
use Rattle.lock_rules.specs.PlainMonitor.{PlainMonitor, owned_by, unaltered, finished, give_up, resume, wake_first, above_zero, wake_all}
use Rattle.lock_rules.specs.PlainMonitor.{commit}

-- the operations that only the owner may do
abbrev pub owner_operation : Operation → Bool
owner_operation Enter = false
owner_operation Exit = true
owner_operation Wait = true
owner_operation Notify = true
owner_operation NotifyAll = true

module _ (limit : Limit) (thread : ℕ) (monitor : PlainMonitor) where
  pub commit_enter : monitor.owner ≡ 0 → commit Enter limit thread monitor ≡ finished (owned_by monitor thread 1)
  commit_enter e = rw (eq-eqb monitor.owner 0 e)

  pub commit_enter_again : thread ≢ 0 → monitor.owner ≡ thread → monitor.depth < depth_limit
      → commit Enter limit thread monitor ≡ finished (owned_by monitor thread (monitor.depth + 1))
  commit_enter_again real e low =
      rw (ne_eqb monitor.owner 0 (λ q. real (sym e ∙ q)), eq-eqb monitor.owner thread e, lt-ltb monitor.depth depth_limit low)

  pub commit_too_deep : thread ≢ 0 → monitor.owner ≡ thread → depth_limit ≤ monitor.depth → commit Enter limit thread monitor ≡ unaltered monitor TooDeep
  commit_too_deep real e high =
      rw (ne_eqb monitor.owner 0 (λ q. real (sym e ∙ q)), eq-eqb monitor.owner thread e, le-ltb monitor.depth depth_limit high)

  -- the last exit, and one that stays in
  pub commit_exit_last : monitor.owner ≡ thread → monitor.depth ≡ 1 → commit Exit limit thread monitor ≡ finished (owned_by monitor 0 0)
  commit_exit_last e one = rw (eq-eqb monitor.owner thread e, eq-eqb monitor.depth 1 one)

  pub commit_exit : monitor.owner ≡ thread → monitor.depth ≢ 1 → commit Exit limit thread monitor ≡ finished (owned_by monitor thread (monitor.depth - 1))
  commit_exit e more = rw (eq-eqb monitor.owner thread e, ne_eqb monitor.depth 1 more)

  pub commit_give_up : monitor.woken thread ≡ false → monitor.owner ≡ thread → commit Wait limit thread monitor ≡ give_up limit thread monitor
  commit_give_up asleep e = rw (asleep, eq-eqb monitor.owner thread e)

  pub commit_resume : monitor.woken thread ≡ true → monitor.owner ≡ 0 → commit Wait limit thread monitor ≡ resume thread monitor
  commit_resume woken e = rw (woken, eq-eqb monitor.owner 0 e)

  pub commit_notify : monitor.owner ≡ thread → commit Notify limit thread monitor ≡ wake_first monitor monitor.waiting
  commit_notify e = rw (eq-eqb monitor.owner thread e)

  pub commit_notify_all : monitor.owner ≡ thread → commit NotifyAll limit thread monitor ≡ wake_all monitor
  commit_notify_all e = rw (eq-eqb monitor.owner thread e)

  -- nobody is waiting
  pub commit_notify_nobody : monitor.owner ≡ thread → monitor.waiting ≡ [] → commit Notify limit thread monitor ≡ unaltered monitor (Finished 0)
  commit_notify_nobody e none = commit_notify e ∙ ap (wake_first monitor) none

  pub commit_notify_all_nobody : monitor.owner ≡ thread → monitor.waiting ≡ [] → commit NotifyAll limit thread monitor ≡ unaltered monitor (Finished 0)
  commit_notify_all_nobody e none =
      commit_notify_all e
      ∙ (λ k.
      record {
        monitor = record {
          owner = monitor.owner;
          depth = monitor.depth;
          waiting = sym none k;
          woken = same k;
          saved = monitor.saved;
        };
        answer = Finished (ap length none k);
      })
    where
      same : (λ t. either (above_zero (count t monitor.waiting)) (monitor.woken t)) ≡ monitor.woken
      same = fun_ext (λ t. ap (λ (n : ℕ). either (above_zero n) (monitor.woken t)) (ap (count t) none ∙ count_none t))

  -- an exit, wait or notify of a thread that is neither owner nor woken
  pub commit_not_owner : (operation : Operation) → T (owner_operation operation) → monitor.woken thread ≡ false → monitor.owner ≢ thread
      → commit operation limit thread monitor ≡ unaltered monitor NotOwner
  commit_not_owner Enter o asleep n = absurd o
  commit_not_owner Exit o asleep n = rw (ne_eqb monitor.owner thread n)
  commit_not_owner Wait o asleep n = rw (asleep, ne_eqb monitor.owner thread n)
  commit_not_owner Notify o asleep n = rw (ne_eqb monitor.owner thread n)
  commit_not_owner NotifyAll o asleep n = rw (ne_eqb monitor.owner thread n)
