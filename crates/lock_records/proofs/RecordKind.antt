-- Tables of records as a kind of table: the begin and the step as the engine does them. They stand for tables with lists, event by event.
use Prim.Native.Nat.{ℕ, ◌≤◌}
use mathlib.Core.Path.{◌≡◌, refl, subst}
use mathlib.Core.Bool.{false}
use lib.Dec.{T}
use Rattle.lock_word.specs.Read.{read_word}
use Rattle.std.specs.Prelude.{Option, Some, None}
use Rattle.lock_word.specs.declared.reading.LockWord.{LockWord}
use Rattle.lock_rules.specs.Rules.{begun, decide}
use Rattle.lock_rules.proofs.{Status.unfinished, Objects.sight_of, ListSound.SoundTable, SoundKept.sound_turn}
use Rattle.lock_rules.specs.declared.event.Event.{Event}
use Rattle.lock_rules.specs.Events.{Refused, Answered}
use Rattle.lock_rules.specs.Operations.{Operation}
use Rattle.lock_rules.specs.declared.Effect.{Effect}
use Rattle.lock_rules.specs.declared.{Limit.Limit, Doing.Doing}
use Rattle.lock_rules.specs.declared.ThreadState.TheVariants.{Idle, Running}
use Rattle.lock_rules.specs.declared.Answer.TheVariants.{NoRule}
use Rattle.lock_rules.proofs.TableKinds.{TurnOf, Kind, turn_on}
use Rattle.lock_rules.proofs.Tables.{ListTable, acted_at, begin_at, step_at, turn}
use Rattle.lock_rules.proofs.Simulation.{SameTurnOf, Simulates, simulated_turn}
use Rattle.lock_table.specs.Access.{thread_at, set_thread, object_at}
use Rattle.lock_table.specs.Record.{with_activity}
use Rattle.lock_table.specs.declared.record.{Activity.Activity, ObjectRecord.ObjectRecord, Table.Table}
use Rattle.lock_perform.specs.State.{read_thread}
use Rattle.lock_perform.specs.Sight.{sight_at}
use Rattle.lock_perform.specs.{Moving.carry_out, Perform.object_after, ThreadSet.has_thread}
use Rattle.lock_perform.proofs.Performed.{perform_of}
use Rattle.lock_records.proofs.Represents.{Represents}
use Rattle.lock_records.proofs.Readings.{busy_in, state_is, home_is, word_is, sight_is}
use Rattle.lock_records.proofs.Performs.{running_unchained, begin_represents, unruled_represents, perform_represents, perform_names}
use Rattle.lock_records.proofs.Operations.{begun_activity, begun_written}
use Rattle.lock_records.proofs.TickRepresents.{tick_represents, tick_names}
use Rattle.lock_work.specs.Tick.{tick}

-- what a rule decided, carried out by thread n on the object of this number
abbrev pub step_acts : Table → ℕ → ℕ → ObjectRecord → Option Effect → TurnOf Table
step_acts t n number object None = record { table = t; reply = Answered NoRule false; unparked = λ m. false }
step_acts t n number object (Some effect) =
    record {
      table = perform_of t n number object effect;
      reply = Answered effect.answer effect.commits;
      unparked = has_thread (carry_out t (object_after n number object effect).monitor effect.work n number).unparked;
    }

-- 11 for a word that is none, which no sound table has
abbrev pub step_reads : Table → ℕ → ℕ → ObjectRecord → Doing → Option LockWord → TurnOf Table
step_reads t n number object doing None = record { table = t; reply = Refused 11; unparked = λ m. false }
step_reads t n number object doing (Some word) = step_acts t n number object (decide n (sight_at t object word) doing)

abbrev pub step_records : Table → ℕ → Doing → TurnOf Table
step_records t n doing =
    let number = (thread_at t n).object in
    let object = object_at t number in
    step_reads t n number object doing (read_word object.word)

abbrev pub begin_records : Table → Operation → Limit → ℕ → ℕ → Table
begin_records t operation limit n o = set_thread t n (with_activity (thread_at t n) (begun_activity operation limit o))

abbrev pub record_kind : Kind
record_kind =
    record {
      Table = Table;
      state = λ t n. read_thread (thread_at t n);
      begins = begin_records;
      steps = step_records;
      ticks = λ t. (tick t).table;
      unparks = λ t. has_thread (tick t).unparked;
    }

module _ (threads objects : ℕ) (t : Table) (lists : ListTable) (represents : Represents threads objects t lists) (sound : SoundTable threads objects lists)
    (n : ℕ) (low : 1 ≤ n) (high : n ≤ threads) where
  begins_alike : (operation : Operation) (limit : Limit) (o : ℕ) → (lists.threads n).state ≡ Idle
      → Represents threads objects (begin_records t operation limit n o) (begin_at lists operation limit n o)
  begins_alike operation limit o idle =
      subst (λ (activity : Activity). Represents threads objects (set_thread t n (with_activity (thread_at t n) activity)) (begin_at lists operation limit n o))
      (begun_written n o limit operation)
      (begin_represents threads objects t lists represents sound n low high (record { object = o; state = Running (begun operation limit) }))

  -- the same table, the same reply, and the same threads unparked
  abbrev Alike : TurnOf Table → TurnOf ListTable → Type 0
  Alike = SameTurnOf record_kind (Represents threads objects)

  module _ (doing : Doing) (running : (lists.threads n).state ≡ Running doing) where
    abbrev home : ℕ
    home = (lists.threads n).object

    acts_alike : 1 ≤ home → home ≤ objects → (action : Option Effect)
        → Alike (step_acts t n home (object_at t home) action) (acted_at lists home n action)
    acts_alike real small None =
        (unruled_represents threads objects t lists represents sound n low high home refl real small (rw running (running_unchained doing)), refl, λ m. refl)
    acts_alike real small (Some effect) = (
      perform_represents threads objects t lists represents sound n low high home refl real small (rw running (running_unchained doing)) effect,
      refl,
      perform_names threads objects t lists represents sound n low high home refl real small (rw running (running_unchained doing)) effect,
    )

    steps_alike : Alike (step_records t n doing) (step_at lists n doing)
    steps_alike =
        let busy : T (unfinished (lists.threads n).state) = rw running tt in
        let (thread, real, small) = busy_in threads objects lists sound n busy in
        rw (
          home_is threads objects t lists represents sound n busy,
          word_is threads objects t lists represents sound home real small,
          sight_is threads objects t lists represents sound home real small,
        )
        (acts_alike real small (decide n (sight_of (lists.objects home)) doing))

-- with soundness, which every event keeps
pub sound_simulates : (threads objects : ℕ) → Simulates record_kind threads objects (Represents threads objects) (SoundTable threads objects)
sound_simulates threads objects =
    record {
      state = λ t lists represents sound n low high. state_is threads objects t lists represents sound n;
      begins = λ t lists represents sound operation limit n o low high real small idle.
          begins_alike threads objects t lists represents sound n low high operation limit o idle;
      steps = λ t lists represents sound n doing low high running. steps_alike threads objects t lists represents sound n low high doing running;
      ticks = λ t lists represents sound. (tick_represents threads objects t lists represents sound, tick_names threads objects t lists represents sound);
      keeps = λ lists event sound. sound_turn threads objects lists sound event;
    }

-- so an event on a represented sound table represents the same event, gives the same reply, names the same threads, and keeps both
pub turn_represents : (threads objects : ℕ) (t : Table) (lists : ListTable) → Represents threads objects t lists → SoundTable threads objects lists
    → (event : Event)
    → Represents threads objects (turn_on record_kind threads objects t event).table (turn threads objects lists event).table
    × SoundTable threads objects (turn threads objects lists event).table
    × ((turn_on record_kind threads objects t event).reply ≡ (turn threads objects lists event).reply)
    × ((n : ℕ) → (turn_on record_kind threads objects t event).unparked n ≡ (turn threads objects lists event).unparked n)
turn_represents threads objects t lists represents sound event =
    let (after, same, named) = simulated_turn record_kind threads objects (Represents threads objects) (SoundTable threads objects) (sound_simulates threads objects)
    t lists represents sound event in
    (after, sound_turn threads objects lists sound event, same, named)
