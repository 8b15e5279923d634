-- What the gate says: a refusal after 11 where the table is sound, and of an event that it lets through everything that its refusals ask.
use Prim.Native.Nat.{ℕ, ◌≤◌, ◌<◌}
use mathlib.Core.Path.{◌≡◌, refl, sym, ap}
use mathlib.Core.Bool.{Bool, true, false, not}
use native.Mathlib.Omega.{arith}
use lib.Dec.{leb}
use Rattle.laws.specs.Choice.{both, within}
use Rattle.laws.proofs.Choice.{AtMost, at_most, split, by_test, false≢true, passed, failed}
use Rattle.lock_rules.specs.Operations.{operation_limit}
use Rattle.lock_rules.specs.Numbers.{first_refusal, refusal_number}
use Rattle.lock_rules.specs.Gate.{first_refusing, is_idle, is_parked, limit_fits, event_rows, gate, event_thread}
use Rattle.std.specs.Prelude.{Result, Ok, Err}
use Rattle.lock_rules.specs.declared.event.{Event.Event, ThreadStatus.ThreadStatus, Refusal.Refusal}
use Rattle.lock_rules.specs.declared.event.Event.TheVariants.{Begin, Step, Tick}
use Rattle.lock_rules.specs.declared.event.ThreadStatus.TheVariants.{Idle, Ready, Parked}
use Rattle.lock_rules.specs.declared.event.Refusal.TheVariants.{NotSound, NoSuchThread, NoSuchObject, NotIdle, ThreadIdle, ThreadParked}
use Rattle.lock_rules.specs.declared.event.Refusal.TheVariants.{NoSuchOperation, LimitOutOfRange}

-- what the value of `within low high n` says where it is true
pub within_says : {low high n : ℕ} → within low high n ≡ true → (low ≤ n) × (n ≤ high)
within_says {low} {high} {n} passes = at (leb low n) (leb n high) (at_most low n) (at_most n high) passes
  where
    at : (a b : Bool) → AtMost a low n → AtMost b n high → both a b ≡ true → (low ≤ n) × (n ≤ high)
    at true true l m e = (l, m)
    at true false l m e = false≢true e
    at false b l m e = false≢true e

idle_status : (status : ThreadStatus) → is_idle status ≡ true → status ≡ Idle
idle_status Idle e = refl
idle_status Ready e = false≢true e
idle_status Parked e = false≢true e

ready_status : (status : ThreadStatus) → is_idle status ≡ false → is_parked status ≡ false → status ≡ Ready
ready_status Idle busy free = false≢true (sym busy)
ready_status Ready busy free = refl
ready_status Parked busy free = false≢true (sym free)

-- an event that is let through, on a table of these sizes, by a thread of this status
abbrev pub Passed : ℕ → ℕ → Event → ThreadStatus → Type 0
Passed threads objects (Begin operation thread object limit) status =
    (1 ≤ thread) × (thread ≤ threads) × (within 1 operation_limit operation ≡ true) × (1 ≤ object) × (object ≤ objects) × (status ≡ Idle)
    × (limit_fits operation limit ≡ true)
Passed threads objects (Step thread) status = (1 ≤ thread) × (thread ≤ threads) × (status ≡ Ready)
Passed threads objects Tick status = Unit {0}

module _ (issound : Bool) (threads objects : ℕ) (P : Result (Unit {0}) Refusal → Type 0) (unsound : issound ≡ false → P (Err NotSound))
    (shut : (refusal : Refusal) → issound ≡ true → first_refusal < refusal_number refusal → P (Err refusal)) where
  pub by_gate : (event : Event) (status : ThreadStatus) → (issound ≡ true → Passed threads objects event status → P (Ok tt))
      → P (gate issound threads objects event status)
  unfolding refusal_number
  by_gate event status go =
      by_test P (not issound) (λ e. unsound (failed issound e)) (λ s. let sound = passed issound s in of_sound event sound (go sound))
    where
      of_sound : (event : Event) → issound ≡ true → (Passed threads objects event status → P (Ok tt))
          → P (first_refusing (event_rows threads objects event status))
      of_sound (Begin operation thread object limit) sound go =
          by_test P (not (within 1 threads thread)) (λ e. shut NoSuchThread sound (omega arith))
          (λ t. by_test P (not (within 1 operation_limit operation)) (λ e. shut NoSuchOperation sound (omega arith))
          (λ p. by_test P (not (within 1 objects object)) (λ e. shut NoSuchObject sound (omega arith))
          (λ o. by_test P (not (is_idle status)) (λ e. shut NotIdle sound (omega arith))
          (λ i. by_test P (not (limit_fits operation limit)) (λ e. shut LimitOutOfRange sound (omega arith))
          (λ l.
          let (low, high) = within_says (passed (within 1 threads thread) t) in
          let (real, small) = within_says (passed (within 1 objects object) o) in
          go (low, high, passed (within 1 operation_limit operation) p, real, small, idle_status status (passed (is_idle status) i), passed (limit_fits operation limit) l))))))
      of_sound (Step thread) sound go =
          by_test P (not (within 1 threads thread)) (λ e. shut NoSuchThread sound (omega arith))
          (λ t. by_test P (is_idle status) (λ e. shut ThreadIdle sound (omega arith))
          (λ i. by_test P (is_parked status) (λ e. shut ThreadParked sound (omega arith))
          (λ p. let (low, high) = within_says (passed (within 1 threads thread) t) in go (low, high, ready_status status i p))))
      of_sound Tick sound go = go tt

-- the status of a thread that the table does not have is not looked at, nor is anybody's for a tick
pub gate_same : (issound : Bool) (threads objects : ℕ) (event : Event) (one other : ThreadStatus)
    → (within 1 threads (event_thread event) ≡ true → one ≡ other) → gate issound threads objects event one ≡ gate issound threads objects event other
gate_same issound threads objects event one other same =
    split (within 1 threads (event_thread event)) (λ inside. ap (gate issound threads objects event) (same inside)) (λ outside. at event outside)
  where
    at : (event : Event) → within 1 threads (event_thread event) ≡ false
        → gate issound threads objects event one ≡ gate issound threads objects event other
    at (Begin operation thread object limit) outside = rw outside refl
    at (Step thread) outside = rw outside refl
    at Tick outside = refl
