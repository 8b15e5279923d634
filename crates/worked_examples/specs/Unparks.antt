-- Examples of whom an event unparks, as a set with bit n - 1 for thread n (document 02, L3).
use Rattle.std.specs.Prelude.{◌≡◌, false, [], ◌∷◌, ℕ}
use Rattle.chains.specs.declared.named.Chain.{Chain}
use Rattle.lock_rules.specs.declared.Taken.TheVariants.{First, All}
use Rattle.lock_rules.specs.declared.ChainWork.{ChainWork}
use Rattle.lock_rules.specs.declared.ChainWork.TheVariants.{JoinAndHand, Move, MoveAndLetOut}
use Rattle.lock_table.specs.Access.{thread_at}
use Rattle.lock_table.specs.declared.operation.Operation.TheVariants.{TimedWait}
use Rattle.lock_table.specs.declared.phase.Phase.TheVariants.{Waiting}
use Rattle.lock_table.specs.declared.record.{ObjectRecord.ObjectRecord, Table.Table}
use Rattle.lock_perform.specs.ThreadSet.{thread_set}
use Rattle.lock_work.specs.Tick.{tick_object, tick_to}
use Rattle.lock_work.specs.Work.{work_done}
use Rattle.lock_work.specs.declared.settling.Work.TheVariants.{Chains}
use Rattle.worked_examples.specs.LetOuts.{crowded, crowd}
use Rattle.worked_examples.specs.Ticks.{suspended_at, waited_for, waited}

-- whom the work of a thread at object 1 unparks
abbrev pub unparked_by : Table → ℕ → ObjectRecord → ChainWork → ℕ
unparked_by table thread object work = (work_done (Chains work) table thread 1 (thread_at table thread) object).unparked

-- thread 1 holds the monitor; threads 2, 3 and 4 are queued, 2 and 4 in an exit, and thread 5 contends
abbrev pub by_holder : ChainWork → ℕ
by_holder work = unparked_by crowded 1 (record { word = 0x000101; monitor = crowd; flag = false }) work

-- thread 6 holds the monitor, and threads 2, 1, 3 and 4 wait
abbrev pub by_notifier : ChainWork → ℕ
by_notifier work = unparked_by (waited 6 5) 6 (waited_for 0x000101 6 5 2) work

-- threads 1 and 2 wait for one more tick, each for an object that nobody holds
abbrev pub apart : Table
apart =
    record {
      threadcount = 2;
      objectcount = 2;
      threads = suspended_at 1 TimedWait 1 Waiting 0 ∷ suspended_at 2 TimedWait 1 Waiting 0 ∷ [];
      objects = waited_for 0x000101 0 0 1 ∷ waited_for 0x000201 0 0 2 ∷ [];
    }

pub record UnparkExamples : Type 0 where
  -- the bits of the first and of the last thread
  pub first_bit : thread_set 1 ≡ 0x00000001
  pub last_bit : thread_set 32 ≡ 0x80000000
  -- whoever parks in 8 or 14 hands the monitor to thread 2
  pub contending : by_holder (JoinAndHand Chain.Contention) ≡ 0x00000002
  pub waiting : by_holder (JoinAndHand Chain.Waiting) ≡ 0x00000002
  -- inflating lets threads 2 and 4 out
  pub inflating : by_holder MoveAndLetOut ≡ 0x0000000a
  -- a contender that is told and waiters that are notified stay parked
  pub telling : by_holder (Move Chain.Contention First) ≡ 0x00000000
  pub notifying : by_notifier (Move Chain.Waiting First) ≡ 0x00000000
  pub notifying_all : by_notifier (Move Chain.Waiting All) ≡ 0x00000000
  -- the waits of threads 2 and 4 run out: thread 2 is handed the monitor if nobody holds it, and else both are queued
  pub free : (tick_object (waited 0 0) 1).unparked ≡ 0x00000002
  pub held : (tick_object (waited 6 5) 1).unparked ≡ 0x00000000
  -- a tick's set is that of all its objects
  pub both : (tick_to 2 apart).unparked ≡ 0x00000003
