-- One event on any kind of table: what the gate lets through, once for all kinds.
use Prim.Native.Nat.{ℕ, ◌≤◌, ◌<◌}
use mathlib.Core.Path.{◌≡◌, refl, sym, ap}
use mathlib.Core.Bool.{Bool, true, false}
use mathlib.Core.List.{List, [], ◌∷◌}
use native.Mathlib.Omega.{arith}
use Rattle.laws.proofs.Choice.{false≢true}
use Rattle.lock_rules.specs.Numbers.{asked_for, first_refusal, refusal_number}
use Rattle.lock_rules.specs.Operations.{Operation, Asked, Unknown, Known}
use Rattle.lock_rules.specs.declared.{Limit.Limit, Doing.Doing, ThreadState.ThreadState}
use Rattle.lock_rules.specs.declared.ThreadState.TheVariants.{Idle, Running, Queued, Contending, Waiting}
use Rattle.std.specs.Prelude.{Result, Ok, Err}
use Rattle.lock_rules.specs.declared.event.{Event.Event, ThreadStatus.ThreadStatus, Refusal.Refusal}
use Rattle.lock_rules.specs.declared.event.Event.TheVariants.{Begin, Step, Tick}
use Rattle.lock_rules.specs.declared.event.ThreadStatus.TheVariants.{Idle as IdleThread, Ready, Parked}
use Rattle.lock_rules.specs.declared.event.Refusal.TheVariants.{ThreadIdle, ThreadParked, NoSuchOperation}
use Rattle.lock_rules.specs.Gate.{is_idle, limit_fits, gate, event_thread}
use Rattle.lock_rules.specs.Events.{Reply, Accepted, Refused, Shown}
use Rattle.lock_rules.proofs.Each.{each_state}
use Rattle.lock_rules.proofs.Gating.{Passed, by_gate}

-- what the gate looks at
abbrev pub status_of : ThreadState → ThreadStatus
status_of = each_state _ (IdleThread, λ doing. Ready, λ carried. Parked, Parked, λ suspension. Parked)

-- the table after an event, what the event returned, and whom it unparked
pub record TurnOf (Table : Type 0) : Type 0 where
  pub table : Table
  pub reply : Reply
  pub unparked : ℕ → Bool

-- a kind of table: a thread's state, and a begin (of a thread on an object), a step and a tick that nothing refuses, with whom the tick unparks
pub record Kind : Type 1 where
  pub Table : Type 0
  pub state : Table → ℕ → ThreadState
  pub begins : Table → Operation → Limit → ℕ → ℕ → Table
  pub steps : Table → ℕ → Doing → TurnOf Table
  pub ticks : Table → Table
  pub unparks : Table → ℕ → Bool

module _ (kind : Kind) where
  abbrev pub refuse : kind.Table → ℕ → TurnOf kind.Table
  refuse table number = record { table = table; reply = Refused number; unparked = λ n. false }

  -- the gate lets no other operation through
  abbrev pub begin_asked : kind.Table → Asked → ℕ → ℕ → TurnOf kind.Table
  begin_asked table Unknown thread object = refuse table (refusal_number NoSuchOperation)
  begin_asked table (Known operation limit) thread object =
      record { table = kind.begins table operation limit thread object; reply = Accepted; unparked = λ n. false }

  -- and no other thread
  abbrev pub step_thread : kind.Table → ℕ → ThreadState → TurnOf kind.Table
  step_thread table thread Idle = refuse table (refusal_number ThreadIdle)
  step_thread table thread (Running doing) = kind.steps table thread doing
  step_thread table thread (Queued carried) = refuse table (refusal_number ThreadParked)
  step_thread table thread Contending = refuse table (refusal_number ThreadParked)
  step_thread table thread (Waiting suspension) = refuse table (refusal_number ThreadParked)

  abbrev pub through : Result (Unit {0}) Refusal → kind.Table → Event → TurnOf kind.Table
  through (Ok _) table (Begin number thread object limit) = begin_asked table (asked_for number limit) thread object
  through (Ok _) table (Step thread) = step_thread table thread (kind.state table thread)
  through (Ok _) table Tick = record { table = kind.ticks table; reply = Accepted; unparked = kind.unparks table }
  through (Err refusal) table event = refuse table (refusal_number refusal)

  -- `threads` and `objects` are the sizes of a sound table
  abbrev pub turn_on : ℕ → ℕ → kind.Table → Event → TurnOf kind.Table
  turn_on threads objects table event = through (gate true threads objects event (status_of (kind.state table (event_thread event)))) table event

  -- a whole schedule: the last table, and what was shown
  abbrev pub final_on : ℕ → ℕ → kind.Table → List Event → kind.Table
  final_on threads objects table [] = table
  final_on threads objects table (event ∷ rest) = final_on threads objects (turn_on threads objects table event).table rest

  abbrev pub shown_on : ℕ → ℕ → kind.Table → List Event → List Shown
  shown_on threads objects table [] = []
  shown_on threads objects table (event ∷ rest) =
      record { event = event; reply = (turn_on threads objects table event).reply } ∷ shown_on threads objects (turn_on threads objects table event).table rest

-- an idle thread's status is that of no other
pub status_idle : (state : ThreadState) → status_of state ≡ IdleThread → state ≡ Idle
status_idle Idle e = refl
status_idle (Running doing) e = false≢true (ap is_idle e)
status_idle (Queued carried) e = false≢true (ap is_idle e)
status_idle Contending e = false≢true (ap is_idle e)
status_idle (Waiting suspension) e = false≢true (ap is_idle e)

-- what holds of every refusal but 11, of every begin, every step and every tick that is not refused, holds of every event
module _ (kind : Kind) (threads objects : ℕ) (table : kind.Table) (P : Event → TurnOf kind.Table → Type 0) where
  pub by_event : ((event : Event) (refusal : Refusal) → first_refusal < refusal_number refusal → P event (refuse kind table (refusal_number refusal)))
      → ((number limit : ℕ) (operation : Operation) (given : Limit) (thread object : ℕ) → asked_for number limit ≡ Known operation given
      → limit_fits number limit ≡ true → 1 ≤ thread → thread ≤ threads → 1 ≤ object → object ≤ objects → kind.state table thread ≡ Idle
      → P (Begin number thread object limit) (record { table = kind.begins table operation given thread object; reply = Accepted; unparked = λ n. false }))
      → ((thread : ℕ) (doing : Doing) → 1 ≤ thread → thread ≤ threads → kind.state table thread ≡ Running doing
      → P (Step thread) (kind.steps table thread doing))
      → P Tick (record { table = kind.ticks table; reply = Accepted; unparked = kind.unparks table })
      → (event : Event) → P event (turn_on kind threads objects table event)
  unfolding refusal_number
  by_event refused begins steps ticks event =
      by_gate true threads objects (λ gate. P event (through kind gate table event)) (λ unsound. false≢true (sym unsound))
      (λ refusal sound high. refused event refusal high) event (status_of (kind.state table (event_thread event))) (λ sound. through_open event)
    where
      known : (number limit thread object : ℕ) (asked : Asked) → asked_for number limit ≡ asked → limit_fits number limit ≡ true → 1 ≤ thread
          → thread ≤ threads → 1 ≤ object → object ≤ objects → kind.state table thread ≡ Idle
          → P (Begin number thread object limit) (begin_asked kind table asked thread object)
      known number limit thread object Unknown asked fits low high real small idle = refused (Begin number thread object limit) NoSuchOperation (omega arith)
      known number limit thread object (Known operation given) asked fits low high real small idle =
          begins number limit operation given thread object asked fits low high real small idle

      running : (thread : ℕ) (state : ThreadState) → kind.state table thread ≡ state → 1 ≤ thread → thread ≤ threads
          → P (Step thread) (step_thread kind table thread state)
      running thread Idle is low high = refused (Step thread) ThreadIdle (omega arith)
      running thread (Running doing) is low high = steps thread doing low high is
      running thread (Queued carried) is low high = refused (Step thread) ThreadParked (omega arith)
      running thread Contending is low high = refused (Step thread) ThreadParked (omega arith)
      running thread (Waiting suspension) is low high = refused (Step thread) ThreadParked (omega arith)

      through_open : (event : Event) → Passed threads objects event (status_of (kind.state table (event_thread event))) → P event (through kind (Ok tt) table event)
      through_open (Begin number thread object limit) (low, high, operation, real, small, idle, fits) =
          known number limit thread object (asked_for number limit) refl fits low high real small (status_idle (kind.state table thread) idle)
      through_open (Step thread) (low, high, ready) = running thread (kind.state table thread) refl low high
      through_open Tick passed = ticks
