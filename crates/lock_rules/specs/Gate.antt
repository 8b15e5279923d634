-- The refusals before any rule, in document 01's order ("Returned first": "Order: 11, 12; begin then 17, 13, 14; step then 15, 16, then its rule"),
-- with document 02's 23 behind 14.
-- The engine and the tables with lists use this list; that it refuses as demand 1's own does is proved (lock_refusals).
use Rattle.std.specs.Prelude.{ℕ, Bool, true, false, not, List, [], ◌∷◌, eqb, Result, Ok, Err}
use Rattle.laws.specs.Choice.{pick, within, implies}
use Rattle.lock_word.specs.Ticks.{tick_limit}
use Rattle.lock_rules.specs.Operations.{operation_limit, timed_wait}
use Rattle.lock_rules.specs.declared.event.Event.{Event}
use Rattle.lock_rules.specs.declared.event.Event.TheVariants.{Begin, Step, Tick}
use Rattle.lock_rules.specs.declared.event.ThreadStatus.{ThreadStatus}
use Rattle.lock_rules.specs.declared.event.ThreadStatus.TheVariants.{Idle, Ready, Parked}
use Rattle.lock_rules.specs.declared.event.Refusal.{Refusal}
use Rattle.lock_rules.specs.declared.event.Refusal.TheVariants.{NotSound, NoSuchThread, NoSuchObject, NotIdle, ThreadIdle, ThreadParked}
use Rattle.lock_rules.specs.declared.event.Refusal.TheVariants.{NoSuchOperation, LimitOutOfRange}

-- a refusal, and whether it applies
pub record GateRow : Type 0 where
  pub refusal : Refusal
  pub applies : Bool

abbrev pub refuses : Refusal → Bool → GateRow
refuses refusal applies = record { refusal = refusal; applies = applies }

-- the first that applies
abbrev pub first_refusing : List GateRow → Result (Unit {0}) Refusal
first_refusing [] = (Ok tt)
first_refusing (row ∷ rest) = pick row.applies (Err row.refusal) (first_refusing rest)

abbrev pub is_idle : ThreadStatus → Bool
is_idle Idle = true
is_idle Ready = false
is_idle Parked = false

abbrev pub is_parked : ThreadStatus → Bool
is_parked Idle = false
is_parked Ready = false
is_parked Parked = true

-- 14 and then 23, of a begin
abbrev pub idle_rows : ThreadStatus → Bool → List GateRow
idle_rows status islimit = refuses NotIdle (not (is_idle status)) ∷ refuses LimitOutOfRange (not islimit) ∷ []

-- 15 and 16, of a step
abbrev pub ready_rows : ThreadStatus → List GateRow
ready_rows status = refuses ThreadIdle (is_idle status) ∷ refuses ThreadParked (is_parked status) ∷ []

-- "12; begin then 17, 13, 14", and 23 after 14
abbrev pub begin_rows : Bool → Bool → Bool → Bool → ThreadStatus → List GateRow
begin_rows isthread isoperation isobject islimit status =
    refuses NoSuchThread (not isthread)
    ∷ refuses NoSuchOperation (not isoperation)
    ∷ refuses NoSuchObject (not isobject)
    ∷ idle_rows status islimit

-- "12; step then 15, 16"
abbrev pub step_rows : Bool → ThreadStatus → List GateRow
step_rows isthread status = refuses NoSuchThread (not isthread) ∷ ready_rows status

-- a limit is looked at for a timed wait alone
abbrev pub limit_fits : ℕ → ℕ → Bool
limit_fits operation limit = implies (eqb operation timed_wait) (within 1 tick_limit limit)

-- of an event on a table with so many threads and objects, where the event's thread has this status; a tick names no thread
abbrev pub event_rows : ℕ → ℕ → Event → ThreadStatus → List GateRow
event_rows threads objects (Begin operation thread object limit) status =
    begin_rows (within 1 threads thread) (within 1 operation_limit operation) (within 1 objects object) (limit_fits operation limit) status
event_rows threads objects (Step thread) status = step_rows (within 1 threads thread) status
event_rows threads objects Tick status = []

-- 11 comes first for every event
abbrev pub gate_rows : Bool → ℕ → ℕ → Event → ThreadStatus → List GateRow
gate_rows issound threads objects event status = refuses NotSound (not issound) ∷ event_rows threads objects event status

abbrev pub gate : Bool → ℕ → ℕ → Event → ThreadStatus → Result (Unit {0}) Refusal
gate issound threads objects event status = first_refusing (gate_rows issound threads objects event status)

-- The thread that an event is of, and the object that it is about: a begin names both, a step's object is the one that its thread's operation is on.
-- A tick is of no thread: it reads the first one's record, which every table has, and leaves it.
abbrev pub event_thread : Event → ℕ
event_thread (Begin operation thread object limit) = thread
event_thread (Step thread) = thread
event_thread Tick = 1

abbrev pub event_object : Event → ℕ → ℕ
event_object (Begin operation thread named limit) object = named
event_object (Step thread) object = object
event_object Tick object = 1
