-- Examples of a tick at one object, of what a limit says, of its refusal, and of both events in bytes (document 02, L1).
use Rattle.std.specs.Prelude.{◌≡◌, true, false, [], ◌∷◌, ℕ, Ok, Err}
use Rattle.lock_rules.specs.Gate.{gate}
use Rattle.lock_rules.specs.Limits.{one_less, run_out}
use Rattle.lock_rules.specs.Operations.{timed_wait}
use Rattle.lock_rules.specs.declared.Limit.TheVariants.{Unlimited, Ticks}
use Rattle.lock_rules.specs.declared.event.Event.TheVariants.{Begin, Tick}
use Rattle.lock_rules.specs.declared.event.ThreadStatus.TheVariants.{Idle, Ready}
use Rattle.lock_rules.specs.declared.event.Refusal.TheVariants.{NotIdle, LimitOutOfRange}
use Rattle.lock_table.specs.Access.{thread_at, object_at}
use Rattle.lock_table.specs.declared.operation.Operation.{Operation}
use Rattle.lock_table.specs.declared.operation.Operation.TheVariants.{Wait, TimedWait}
use Rattle.lock_table.specs.declared.phase.Phase.{Phase}
use Rattle.lock_table.specs.declared.phase.Phase.TheVariants.{Waiting, Queued}
use Rattle.lock_table.specs.declared.phase.Onward.TheVariants.{ToResume}
use Rattle.lock_table.specs.declared.record.{ThreadRecord.ThreadRecord, ObjectRecord.ObjectRecord, Table.Table}
use Rattle.sound_records.specs.Records.{ticks_fit}
use Rattle.lock_work.specs.Tick.{tick_object}
use Rattle.event_bytes.specs.Encoding.{event_at}

-- a thread that gave up an object at depth 1, with so many ticks left and a thread behind it in its chain
abbrev pub suspended_at : ℕ → Operation → ℕ → Phase → ℕ → ThreadRecord
suspended_at object operation ticks phase next =
    record { kept = 0; saved = 1; ticks = ticks; object = object; next = next; rank = 0; operation = operation; phase = phase }

abbrev pub suspended : Operation → ℕ → Phase → ℕ → ThreadRecord
suspended = suspended_at 1

-- an object on which a thread waits
abbrev pub waited_for : ℕ → ℕ → ℕ → ℕ → ObjectRecord
waited_for word holder entry waiting =
    record { word = word; monitor = record { depth = 0; holder = holder; entry = entry; contention = 0; waiting = waiting }; flag = false }

-- Threads 2, 1, 3 and 4 wait in this order: 2 and 4 for one more tick, 1 without a limit, 3 for two more. Thread 5 was notified with one tick left.
abbrev pub waited : ℕ → ℕ → Table
waited holder entry =
    record {
      threadcount = 6;
      objectcount = 1;
      threads =
          suspended Wait 0 Waiting 3
          ∷ suspended TimedWait 1 Waiting 1
          ∷ suspended TimedWait 2 Waiting 4
          ∷ suspended TimedWait 1 Waiting 0
          ∷ suspended TimedWait 1 (Queued ToResume) 0
          ∷ [];
      objects = waited_for 0x000101 holder entry 2 ∷ [];
    }

-- the tick while nobody holds the monitor, and while thread 6 does and thread 5 is queued
abbrev pub free_after : Table
free_after = (tick_object (waited 0 0) 1).table

abbrev pub held_after : Table
held_after = (tick_object (waited 6 5) 1).table

pub record TickExamples : Type 0 where
  -- the first that ran out is handed the monitor, the other one queues
  pub handed : (object_at free_after 1).monitor.holder ≡ 2
  pub queued : (object_at free_after 1).monitor.entry ≡ 4
  -- the untimed waiter stays, and so does the one with a tick left, behind it
  pub stays : (object_at free_after 1).monitor.waiting ≡ 1
  pub behind : (thread_at free_after 1).next ≡ 3
  pub lost : (thread_at free_after 3).ticks ≡ 1
  -- while the monitor is held those that ran out queue in chain order, behind who was there, which keeps its ticks
  pub still_held : (object_at held_after 1).monitor.holder ≡ 6
  pub still_first : (object_at held_after 1).monitor.entry ≡ 5
  pub in_order : (thread_at held_after 5).next ≡ 2
  pub kept_ticks : (thread_at held_after 5).ticks ≡ 1
  -- 0 ticks are for a wait that ran out: queued for 15 or in it, and not waiting still
  pub out_resuming : ticks_fit 5 15 (suspended TimedWait 0 (Queued ToResume) 0) ≡ true
  pub out_waiting : ticks_fit 14 0 (suspended TimedWait 0 Waiting 0) ≡ false
  -- "1 for run out, 0 for notified"; a wait without a limit never runs out
  pub ran_out : run_out (Ticks 0) ≡ 1
  pub notified : run_out (Ticks 1) ≡ 0
  pub unlimited : run_out (one_less Unlimited) ≡ 0
  -- 65,536 ticks are no limit, 65,535 are; 23 comes after 14; an enter's limit is not looked at
  pub too_long : gate true 1 1 (Begin timed_wait 1 1 65536) Idle ≡ Err LimitOutOfRange
  pub longest : gate true 1 1 (Begin timed_wait 1 1 65535) Idle ≡ (Ok tt)
  pub busy : gate true 1 1 (Begin timed_wait 1 1 0) Ready ≡ Err NotIdle
  pub untimed : gate true 1 1 (Begin 1 1 1 0) Idle ≡ (Ok tt)
  -- in bytes the limit's lowest comes first, and a tick is its kind alone
  pub timed_bytes : event_at (0 ∷ 1 ∷ 6 ∷ 2 ∷ 7 ∷ 1 ∷ 0 ∷ 0 ∷ []) 0 ≡ Begin timed_wait 1 2 263
  pub tick_bytes : event_at (2 ∷ 0 ∷ 0 ∷ 0 ∷ 0 ∷ 0 ∷ 0 ∷ 0 ∷ []) 0 ≡ Tick
