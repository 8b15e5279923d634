-- What an interpreter is told of the threads that it may run: what the set of an event means (document 02, L3), and that a run queue which is kept from
-- answers and sets alone is enough (ours).
use Rattle.std.specs.Prelude.{ℕ, ◌≡◌, ◌⊎◌, ◌↔◌, true, false, List, [], ◌∷◌}
use Rattle.lock_rules.specs.Numbers.{refusal_number}
use Rattle.lock_rules.specs.Feed.{feed_all, blank, LetOutRight}
use Rattle.lock_rules.specs.RunQueue.{Queue, own_event, queue_after}
use Rattle.lock_rules.specs.declared.event.Event.{Event}
use Rattle.lock_rules.specs.declared.event.Event.TheVariants.{Step}
use Rattle.lock_rules.specs.declared.event.Refusal.TheVariants.{ThreadIdle}
use Rattle.lock_table.specs.Access.{phase_number_at}
use Rattle.lock_table.specs.WellTyped.{WellTyped}
use Rattle.lock_table.specs.Fresh.{InRange, table_of}
use Rattle.lock_table.specs.declared.fresh_table.FreshRequest.{FreshRequest}
use Rattle.lock_table.specs.declared.record.Table.{Table}
use Rattle.lock_soundness.specs.Sound.{sound_of}
use Rattle.lock_perform.specs.ThreadSet.{has_thread}
use Rattle.lock_records.specs.Agrees.{IsThread}
use Rattle.lock_records.specs.Unparked.{CanStep, UnparkedBetween}
use Rattle.lock_engine.specs.Outcome.{reply_returned}
use Rattle.lock_engine.specs.Handle.{handle}
use Rattle.lock_schedule.specs.Schedule.{final_of, shown_of}
use Rattle.lock_schedule.specs.Demand.{EndedByOther}

-- a set has these threads and nobody else
abbrev pub IsSetOf : ℕ → (ℕ → Type 0) → Type 0
IsSetOf set who = (n : ℕ) → (has_thread set n ≡ true) ↔ who n

-- "A bit must be set if its thread was parked before and is not after, and else clear": of every event on any sound table, reached by a schedule or not.
abbrev pub SetsRight : Type 0
SetsRight =
    (table : Table) → WellTyped table → sound_of table ≡ true → (event : Event)
    → let outcome = handle table event in IsSetOf outcome.unparked (UnparkedBetween table outcome.table)

-- the run queue after a schedule
abbrev pub queue_of : Table → Queue → List Event → Queue
queue_of table queue [] = queue
queue_of table queue (event ∷ rest) =
    let outcome = handle table event in
    queue_of outcome.table (queue_after queue event (reply_returned outcome.reply) (has_thread outcome.unparked)) rest

-- Another's event ended the operation of thread n, an exit (`finished` below), and the thread was neither stepped nor begun since. `was` says whether
-- this held before the schedule.
abbrev pub LetOutSince : ℕ → Type 0 → Table → List Event → Type 0
LetOutSince n was table [] = was
LetOutSince n was table (event ∷ rest) =
    let outcome = handle table event in
    LetOutSince n (EndedByOther event table outcome.table n ⊎ (was × (own_event event (reply_returned outcome.reply) n ≡ false))) outcome.table rest

-- Such a thread is idle and its next step returns 15, which means that its exit finished, 1 with 0.
pub record Unnoticed (first : Table) (events : List Event) (n : ℕ) : Type 0 where
  pub let_out : LetOutSince n ⊥ first events
  pub idle : phase_number_at (final_of first events) n ≡ 0
  pub next : reply_returned (handle (final_of first events) (Step n)).reply ≡ refusal_number ThreadIdle
  pub finished : LetOutRight ((feed_all blank (shown_of first events)).logs n)

-- After every schedule from a fresh table the queue, empty at first, has every thread that can take a step, and besides them only threads as in
-- `Unnoticed`.
abbrev pub EnoughForInterpreter : Type 0
EnoughForInterpreter =
    (request : FreshRequest) → InRange request → (events : List Event)
    → let first = table_of request in
    let last = final_of first events in
    let queue = queue_of first (λ n. false) events in
    (n : ℕ) → (CanStep last n → queue n ≡ true) × (queue n ≡ true → IsThread last n × (CanStep last n ⊎ Unnoticed first events n))
