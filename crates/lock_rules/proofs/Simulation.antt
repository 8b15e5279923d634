-- Another kind of table that stands for tables with lists, event by event: what it owes, and that then a whole schedule shows the same on both.
use Prim.Native.Nat.{ℕ, ◌≤◌}
use mathlib.Core.Path.{◌≡◌, refl, sym, ap}
use mathlib.Core.Bool.{true}
use mathlib.Core.List.{List, [], ◌∷◌}
use Rattle.laws.proofs.Choice.{false≢true}
use Rattle.lock_rules.specs.{Numbers.asked_for, Gate.event_thread}
use Rattle.lock_rules.specs.Operations.{Operation, Asked, Unknown, Known}
use Rattle.lock_rules.specs.declared.{Limit.Limit, Doing.Doing, ThreadState.ThreadState}
use Rattle.lock_rules.specs.declared.ThreadState.TheVariants.{Idle, Running, Queued, Contending, Waiting}
use Rattle.lock_rules.specs.declared.event.Event.{Event}
use Rattle.lock_rules.specs.declared.event.Event.TheVariants.{Begin, Step, Tick}
use Rattle.std.specs.Prelude.{Ok}
use Rattle.lock_rules.proofs.Gating.{Passed, within_says, by_gate, gate_same}
use Rattle.lock_rules.proofs.TableKinds.{TurnOf, Kind, status_of, status_idle, begin_asked, step_thread, through, turn_on, final_on, shown_on}
use Rattle.lock_rules.proofs.Tables.{ListTable, begin_at, step_at, tick_all, tick_all_unparks, list_kind, turn, final, shown}

-- the same table, the same reply, and the same threads unparked
abbrev pub SameTurnOf : (kind : Kind) → (kind.Table → ListTable → Type 0) → TurnOf kind.Table → TurnOf ListTable → Type 0
SameTurnOf kind R a b = R a.table b.table × (a.reply ≡ b.reply) × ((n : ℕ) → a.unparked n ≡ b.unparked n)

-- R relates a table of the kind to the table with lists that it stands for; W holds of every table with lists that matters
pub record Simulates (kind : Kind) (threads objects : ℕ) (R : kind.Table → ListTable → Type 0) (W : ListTable → Type 0) : Type 0 where
  pub state : (x : kind.Table) (table : ListTable) → R x table → W table → (t : ℕ) → 1 ≤ t → t ≤ threads → kind.state x t ≡ (table.threads t).state
  pub begins : (x : kind.Table) (table : ListTable) → R x table → W table → (operation : Operation) (limit : Limit) (t o : ℕ) → 1 ≤ t → t ≤ threads
      → 1 ≤ o → o ≤ objects → (table.threads t).state ≡ Idle → R (kind.begins x operation limit t o) (begin_at table operation limit t o)
  pub steps : (x : kind.Table) (table : ListTable) → R x table → W table → (t : ℕ) (doing : Doing) → 1 ≤ t → t ≤ threads
      → (table.threads t).state ≡ Running doing
      → SameTurnOf kind R (kind.steps x t doing) (step_at table t doing)
  pub ticks : (x : kind.Table) (table : ListTable) → R x table → W table
      → R (kind.ticks x) (tick_all table) × ((n : ℕ) → kind.unparks x n ≡ tick_all_unparks table n)
  pub keeps : (table : ListTable) (event : Event) → W table → W (turn threads objects table event).table

module _ (kind : Kind) (threads objects : ℕ) (R : kind.Table → ListTable → Type 0) (W : ListTable → Type 0) (simulates : Simulates kind threads objects R W)
  where
    abbrev SameTurn : TurnOf kind.Table → TurnOf ListTable → Type 0
    SameTurn = SameTurnOf kind R

    pub simulated_turn : (x : kind.Table) (table : ListTable) → R x table → W table → (event : Event)
        → SameTurn (turn_on kind threads objects x event) (turn threads objects table event)
    simulated_turn x table r w event =
        rw (gate_same true threads objects event (status_of (kind.state x (event_thread event))) (status_of (table.threads (event_thread event)).state)
        (λ inside. let (low, high) = within_says inside in ap status_of (simulates.state x table r w (event_thread event) low high)))
        (by_gate true threads objects (λ gate. SameTurn (through kind gate x event) (through list_kind gate table event)) (λ unsound. false≢true (sym unsound))
        (λ refusal sound high. (r, refl, λ n. refl)) event (status_of (table.threads (event_thread event)).state) (λ sound. at event))
      where
        known : (thread object : ℕ) (asked : Asked) → 1 ≤ thread → thread ≤ threads → 1 ≤ object → object ≤ objects → (table.threads thread).state ≡ Idle
            → SameTurn (begin_asked kind x asked thread object) (begin_asked list_kind table asked thread object)
        known thread object Unknown low high real small idle = (r, refl, λ n. refl)
        known thread object (Known operation limit) low high real small idle =
            (simulates.begins x table r w operation limit thread object low high real small idle, refl, λ n. refl)

        running : (thread : ℕ) (state : ThreadState) → (table.threads thread).state ≡ state → 1 ≤ thread → thread ≤ threads
            → SameTurn (step_thread kind x thread state) (step_thread list_kind table thread state)
        running thread Idle is low high = (r, refl, λ n. refl)
        running thread (Running doing) is low high = simulates.steps x table r w thread doing low high is
        running thread (Queued carried) is low high = (r, refl, λ n. refl)
        running thread Contending is low high = (r, refl, λ n. refl)
        running thread (Waiting suspension) is low high = (r, refl, λ n. refl)

        at : (event : Event) → Passed threads objects event (status_of (table.threads (event_thread event)).state)
            → SameTurn (through kind (Ok tt) x event) (through list_kind (Ok tt) table event)
        at (Begin number thread object limit) (low, high, operation, real, small, idle, fits) =
            known thread object (asked_for number limit) low high real small (status_idle (table.threads thread).state idle)
        at (Step thread) (low, high, ready) =
            rw (simulates.state x table r w thread low high) (running thread (table.threads thread).state refl low high)
        at Tick passed = let (after, named) = simulates.ticks x table r w in (after, refl, named)

    -- over a whole schedule it goes on simulates for it, and the same is shown
    pub simulated_run : (events : List Event) (x : kind.Table) (table : ListTable) → R x table → W table
        → R (final_on kind threads objects x events) (final threads objects table events) × W (final threads objects table events)
        × (shown_on kind threads objects x events ≡ shown threads objects table events)
    simulated_run [] x table r w = (r, w, refl)
    simulated_run (event ∷ rest) x table r w =
        let (r', same, named) = simulated_turn x table r w event in
        let (a, b, c) = simulated_run rest (turn_on kind threads objects x event).table (turn threads objects table event).table r'
        (simulates.keeps table event w) in
        (a, b, λ j. record { event = event; reply = same j } ∷ c j)
