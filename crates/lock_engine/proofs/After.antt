-- What an event that is not refused, nor a tick, leaves in the records of its thread and its object: those of its turn.
use Prim.Native.Nat.{ℕ, ◌<◌}
use mathlib.Core.Path.{◌≡◌, refl, sym, ap, ◌∙◌}
use mathlib.Core.Logic.{◌⊎◌, inl, inr}
use mathlib.Core.Bool.{Bool, true, false}
use native.Mathlib.Omega.{arith}
use Rattle.laws.specs.Choice.{within}
use Rattle.laws.proofs.Choice.{by_test, both_first, false≢true}
use Rattle.laws.proofs.Update.{update_same}
use Rattle.lock_rules.specs.Numbers.{first_refusal}
use Rattle.lock_rules.specs.Gate.{event_thread}
use Rattle.lock_rules.specs.declared.event.Refusal.{Refusal}
use Rattle.lock_rules.specs.declared.event.{Event.Event}
use Rattle.lock_rules.specs.declared.event.Event.TheVariants.{Begin, Step, Tick}
use Rattle.lock_rules.specs.declared.event.Refusal.TheVariants.{NotSound}
use Rattle.std.specs.Prelude.{Option, Some, None, Result, Ok, Err}
use Rattle.lock_word.specs.declared.reading.LockWord.{LockWord}
use Rattle.lock_rules.specs.declared.Effect.{Effect}
use Rattle.lock_rules.specs.declared.{ChainWork.ChainWork, Doing.Doing, ThreadState.ThreadState}
use Rattle.lock_rules.specs.declared.ChainWork.TheVariants.{Stay}
use Rattle.lock_rules.specs.declared.ThreadState.TheVariants.{Idle, Running, Queued, Contending, Waiting}
use Rattle.lock_rules.proofs.Gating.{Passed, by_gate}
use Rattle.lock_table.specs.Limits.{thread_limit, object_limit}
use Rattle.lock_table.specs.Record.{with_next, with_monitor}
use Rattle.lock_table.specs.Access.{thread_at, set_thread, object_at, set_object, next_of}
use Rattle.lock_table.specs.declared.record.{ThreadRecord.ThreadRecord, ObjectRecord.ObjectRecord, Table.Table}
use Rattle.lock_table.proofs.Records.{thread_set, object_set, thread_beside_object}
use Rattle.lock_table.proofs.Places.{Has, Lacks, has?}
use Rattle.lock_perform.specs.Moving.{carry_out}
use Rattle.lock_perform.specs.State.{read_thread}
use Rattle.lock_soundness.specs.Sound.{sound_of}
use Rattle.lock_engine.specs.Outcome.{reply_returned}
use Rattle.lock_engine.specs.Turn.{action_turn, word_turn, state_turn, step_turn, open_turn, gate_turn}
use Rattle.lock_engine.specs.declared.turning.Turn.{Turn}
use Rattle.lock_work.specs.declared.settling.Work.TheVariants.{Chains}
use Rattle.lock_gate.specs.Status.{thread_status}
use Rattle.lock_work.specs.Work.{work_stays, work_done}
use Rattle.lock_engine.specs.Handle.{trusted, outcome_of, handle_trusting}
use Rattle.lock_engine.proofs.InPlace.{first_there, parts_of, keeps_object, shut_thread, own_in_place, number_in_place, object_in_place}
use Rattle.lock_engine.proofs.InPlace.{gate_here, turn_here, own_here, object_here}
use Rattle.lock_engine.proofs.Full.{Full, full_thread, full_carried}
use Rattle.lock_rules.proofs.RefusalNumbers.{of_gate}
use Rattle.lock_engine.proofs.Narrow.{sizes}

-- both records are read as they were written
both_read : (t : Table) → Full t → (n o : ℕ) (own : ThreadRecord) (object : ObjectRecord) → Has thread_limit n → Has object_limit o
    → let after = set_object (set_thread t n own) o object in (thread_at after n ≡ own) × (object_at after o ≡ object)
both_read t full n o own object (some, high) (real, small) = (
  thread_beside_object (set_thread t n own) n o object
      ∙ (ap (λ (f : ℕ → ThreadRecord). f n) (thread_set t n own full.threads (omega (arith, some)) high) ∙ update_same (thread_at t) n own),
  ap (λ (f : ℕ → ObjectRecord). f o) (object_set (set_thread t n own) o object (full_thread n own full).objects (omega (arith, real)) small)
      ∙ update_same (object_at (set_thread t n own)) o object,
)

-- the phase and the word after a turn
abbrev pub Leaves : ℕ → ℕ → ThreadRecord → ObjectRecord → Table → Type 0
Leaves n o own object after = ((thread_at after n).phase ≡ own.phase) × ((object_at after o).word ≡ object.word)

-- The work of every event but a tick is on the chains of its object. A tick is of no thread and about no object.
abbrev pub is_tick : Event → Bool
is_tick (Begin operation thread object limit) = false
is_tick (Step thread) = false
is_tick Tick = true

abbrev OnChains : Turn → Type 0
OnChains turn = (work : ChainWork) × (turn.work ≡ Chains work)

action_on_chains : (n : ℕ) (own : ThreadRecord) (object : ObjectRecord) (action : Option Effect) → OnChains (action_turn n own object action)
unfolding action_turn
action_on_chains n own object None = (Stay, refl)
action_on_chains n own object (Some effect) = (effect.work, refl)

word_on_chains : (n : ℕ) (own : ThreadRecord) (object : ObjectRecord) (waiters : ℕ) (doing : Doing) (word : Option LockWord)
    → OnChains (word_turn n own object waiters doing word)
unfolding word_turn
word_on_chains n own object waiters doing None = (Stay, refl)
word_on_chains n own object waiters doing (Some word) = action_on_chains n own object _

state_on_chains : (n : ℕ) (own : ThreadRecord) (object : ObjectRecord) (waiters : ℕ) (state : ThreadState)
    → OnChains (state_turn n own object waiters state)
unfolding state_turn
state_on_chains n own object waiters Idle = (Stay, refl)
state_on_chains n own object waiters (Running doing) = word_on_chains n own object waiters doing _
state_on_chains n own object waiters (Queued carried) = (Stay, refl)
state_on_chains n own object waiters Contending = (Stay, refl)
state_on_chains n own object waiters (Waiting suspension) = (Stay, refl)

on_chains : (gated : Result (Unit {0}) Refusal) (event : Event) (own : ThreadRecord) (object : ObjectRecord) (waiters : ℕ) → is_tick event ≡ false
    → OnChains (gate_turn gated event own object waiters)
unfolding gate_turn open_turn step_turn
on_chains (Ok _) (Begin operation thread number limit) own object waiters other = (Stay, refl)
on_chains (Ok _) (Step thread) own object waiters other =
    by_test OnChains (within 1 object_limit own.object) (λ inside. state_on_chains thread own object waiters (read_thread own)) (λ outside. (Stay, refl))
on_chains (Ok _) Tick own object waiters other = false≢true (sym other)
on_chains (Err refusal) event own object waiters other = (Stay, refl)

worked_leaves : (t : Table) → Full t → (n o : ℕ) (turn : Turn) (work : ChainWork) → Has thread_limit n → Has object_limit o
    → Leaves n o turn.own turn.object (work_done (Chains work) t n o turn.own turn.object).table
unfolding work_done
worked_leaves t full n o turn work has_n has_o =
    let carried = carry_out t turn.object.monitor work n o in
    let (thread, home) = both_read carried.table (full_carried t turn.object.monitor work n o full) n o
    (with_next turn.own (next_of carried.table n)) (with_monitor turn.object carried.monitor) has_n has_o in
    (ap (λ (x : ThreadRecord). x.phase) thread, ap (λ (x : ObjectRecord). x.word) home)

outcome_leaves : (t : Table) → Full t → (n o : ℕ) (turn : Turn) → OnChains turn → Has thread_limit n → Has object_limit o
    → Leaves n o turn.own turn.object (outcome_of t n o turn).table
unfolding work_done
outcome_leaves t full n o turn (work, is) has_n has_o =
    by_test (Leaves n o turn.own turn.object) (work_stays turn.work)
    (λ stay.
    let (thread, home) = both_read t full n o turn.own turn.object has_n has_o in
    (ap (λ (x : ThreadRecord). x.phase) thread, ap (λ (x : ObjectRecord). x.word) home))
    (λ some. rw is (worked_leaves t full n o turn work has_n has_o))

module _ (t : Table) (event : Event) (issound : Bool) (known : issound ≡ sound_of t) where
  abbrev pub Accepted : Type 0
  Accepted = reply_returned (turn_here t event issound).reply < first_refusal

  pub has_thread : Accepted → Has thread_limit (event_thread event)
  unfolding gate_turn reply_returned
  has_thread low = at (has? thread_limit (event_thread event))
    where
      at : Has thread_limit (event_thread event) ⊎ Lacks thread_limit (event_thread event) → Has thread_limit (event_thread event)
      at (inl has) = has
      at (inr lacks) =
          let (refusal, shut) = shut_thread issound t.threadcount t.objectcount event lacks in
          absurd (omega (arith, (of_gate refusal).high, rw (shut (thread_status (own_in_place t event issound).phase)) at low))

  -- what is said of an object that has no record is refused
  refused_here : Lacks object_limit (number_in_place t event issound)
      → reply_returned (parts_of (gate_here t event issound) event (own_in_place t event issound)).reply < first_refusal → ⊥
  unfolding reply_returned
  refused_here lacks =
      by_gate (trusted t issound) t.threadcount t.objectcount
      (λ (gated : Result (Unit {0}) Refusal). reply_returned (parts_of gated event (own_in_place t event issound)).reply < first_refusal → ⊥)
      (λ unsound low. omega (arith, (of_gate NotSound).high, low)) (λ refusal is high low. omega (arith, (of_gate refusal).high, low)) event
      (thread_status (own_in_place t event issound).phase) (λ is passed. at event (sym known ∙ both_first issound _ is) passed lacks)
    where
      at : (event : Event) → sound_of t ≡ true → Passed t.threadcount t.objectcount event (thread_status (own_in_place t event issound).phase)
          → Lacks object_limit (number_in_place t event issound)
          → reply_returned (parts_of (Ok tt) event (own_in_place t event issound)).reply < first_refusal → ⊥
      at (Begin operation thread object limit) sound (low, high, known, real, small, idle, fits) (inl none) accepted = omega (arith, real, none)
      at (Begin operation thread object limit) sound (low, high, known, real, small, idle, fits) (inr past) accepted =
          let few = (sizes t sound).1 in omega (arith, small, few, past)
      at (Step thread) sound passed lacks accepted = omega (arith, (of_gate NotSound).high, accepted)
      at Tick sound passed lacks accepted = first_there object_limit (omega arith) lacks

  has_object : Accepted → Has object_limit (number_in_place t event issound)
  has_object low = at (has? object_limit (number_in_place t event issound))
    where
      at : Has object_limit (number_in_place t event issound) ⊎ Lacks object_limit (number_in_place t event issound)
          → Has object_limit (number_in_place t event issound)
      at (inl has) = has
      at (inr lacks) =
          absurd
          (refused_here lacks
          (rw (keeps_object (gate_here t event issound) event (own_in_place t event issound) (object_in_place t event issound) _ lacks) at low))

  pub event_leaves : Full t → is_tick event ≡ false → Accepted
      → Leaves (event_thread event) (number_in_place t event issound) (turn_here t event issound).own (turn_here t event issound).object
      (handle_trusting t event issound).table
  unfolding handle_trusting
  event_leaves full other low =
      let thread = has_thread low in
      let object = has_object low in
      rw (own_here t event issound thread, object_here t event issound object)
      (outcome_leaves t full (event_thread event) (number_in_place t event issound) (turn_here t event issound)
      (on_chains (gate_here t event issound) event (own_in_place t event issound) (object_in_place t event issound) _ other) thread object)
