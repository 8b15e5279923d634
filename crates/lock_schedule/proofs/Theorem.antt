-- Demand 3, what a thread parked inside an exit waits for, that a free number is as new, and that every event on any sound table gives a sound table, well typed as the code's are.
use Prim.Native.Nat.{ℕ, ◌≤◌}
use mathlib.Core.Path.{◌≡◌, refl, sym, ap, ◌∙◌, subst, subst₂}
use mathlib.Core.Logic.{◌≢◌, ◌↔◌}
use lib.Dec.{T}
use mathlib.Core.Bool.{true}
use mathlib.Core.List.{List, [], ◌∷◌}
use Rattle.lock_rules.specs.declared.event.Event.{Event}
use Rattle.lock_rules.specs.declared.event.Event.TheVariants.{Step}
use Rattle.lock_rules.specs.declared.ThreadState.TheVariants.{Idle}
use Rattle.lock_rules.specs.Numbers.{phase_of}
use Rattle.lock_table.proofs.FreshTables.{fresh_rank}
use Rattle.lock_rules.proofs.Status.{unfinished}
use Rattle.lock_rules.specs.Events.{Shown}
use Rattle.lock_rules.specs.Feed.{Plain, feed, feed_all, blank}
use Rattle.lock_rules.proofs.TableKinds.{TurnOf, turn_on, final_on, shown_on}
use Rattle.lock_rules.proofs.Tables.{ListTable, turn, fresh}
use Rattle.lock_rules.proofs.{ListSound.SoundTable, SoundKept.sound_fresh, LetOut.turn_ends}
use Rattle.lock_rules.proofs.Lift.{World, world_turn, world_fresh, world_run}
use Rattle.lock_table.specs.WellTyped.{WellTyped}
use Rattle.lock_table.specs.Fresh.{InRange, table_of}
use Rattle.lock_table.specs.declared.fresh_table.FreshRequest.{FreshRequest}
use Rattle.lock_table.specs.declared.record.Table.{Table}
use Rattle.lock_soundness.specs.Sound.{sound_of}
use Rattle.lock_engine.specs.Handle.{handle}
use Rattle.lock_soundness.proofs.Reading.{sound_reads}
use Rattle.lock_records.specs.Agrees.{Agrees, Ruled}
use Rattle.lock_records.proofs.{Represents.Represents, FreshRecords.fresh_represents, Ruled.schedule_ruled, RepresentedSound.represented_sound}
use Rattle.lock_records.proofs.{SoundRepresents.sound_represents}
use Rattle.lock_records.proofs.RecordKind.{record_kind, turn_represents}
use Rattle.lock_records.proofs.Claim.{schedule_represents, schedule_agrees, phase_is, phase_busy, phase_idle}
use Rattle.lock_records.proofs.ExitsWait.{represents_waits}
use Rattle.lock_records.specs.ExitsWait.{ParkedInExit, WaitsForBusyHolder}
use Rattle.lock_records.specs.AsNew.{FreeNumber, AsNew}
use Rattle.lock_records.proofs.AsNew.{represents_as_new}
use Rattle.lock_rules.proofs.AsNew.{schedule_attended}
use Rattle.lock_schedule.specs.Schedule.{final_of, shown_of}
use Rattle.lock_schedule.specs.Demand.{EndedByOther, OthersEndRight, DemandThree, ExitsWaitForHolder, ExitsWaitForBusyHolder, FreeNumbersAsNew, SoundKept}
use Rattle.lock_schedule.proofs.EngineKind.{turn_of, event_is_turn}
use Rattle.lock_schedule.proofs.RepresentedWellTyped.{represented_well_typed}

-- an operation that another's event ended, on records and on lists
pub ended_so : {threads objects : ℕ} {n : ℕ} (event : Event) (before after : Table) (lists lists_after : ListTable) → Represents threads objects before lists
    → SoundTable threads objects lists → Represents threads objects after lists_after → SoundTable threads objects lists_after
    → EndedByOther event before after n ↔ ((event ≢ Step n) × T (unfinished (lists.threads n).state) × ((lists_after.threads n).state ≡ Idle))
ended_so {threads} {objects} {n} event before after lists lists_after represents sound represents_after sound_after = (
  λ (other, busy, idle). (
    other,
    phase_busy threads objects before lists represents sound n busy,
    phase_idle threads objects after lists_after represents_after sound_after n idle,
  ),
  λ (other, busy, idle). (
    other,
    λ e. absurd (rw (phase_idle threads objects before lists represents sound n e) at busy),
    phase_is threads objects after lists_after represents_after sound_after n ∙ ap phase_of idle,
  ),
)

module _ (threads objects : ℕ) (some_threads : 1 ≤ threads) (some_objects : 1 ≤ objects) where
  -- one event of the engine, on a table that represents a sound one
  pub event_same : (t : Table) (lists : ListTable) → Represents threads objects t lists → SoundTable threads objects lists → (event : Event)
      → turn_of (handle t event) ≡ turn_on record_kind threads objects t event
  event_same t lists represents sound event =
      event_is_turn t (represented_sound threads objects t lists some_threads some_objects represents sound) event
      ∙ (λ j. turn_on record_kind (represents.threadcount j) (represents.objectcount j) t event)

  -- a whole schedule: the same table, and the same is shown
  schedule_same : (events : List Event) (t : Table) (lists : ListTable) → Represents threads objects t lists → SoundTable threads objects lists
      → (final_of t events ≡ final_on record_kind threads objects t events) × (shown_of t events ≡ shown_on record_kind threads objects t events)
  schedule_same [] t lists represents sound = (refl, refl)
  schedule_same (event ∷ rest) t lists represents sound =
      let same = event_same t lists represents sound event in
      let table : (handle t event).table ≡ (turn_on record_kind threads objects t event).table = ap (λ (x : TurnOf Table). x.table) same in
      let (after, sound_after, reply, named) = turn_represents threads objects t lists represents sound event in
      let (last, shown) = schedule_same rest (turn_on record_kind threads objects t event).table (turn threads objects lists event).table after sound_after in (
        ap (λ (x : Table). final_of x rest) table ∙ last,
        λ j. record { event = event; reply = (same j).reply } ∷ (ap (λ (x : Table). shown_of x rest) table ∙ shown) j,
      )

  -- what another's event ends in the engine it ends in the lists, where the plain monitors have its answer
  others_end : (events : List Event) (t : Table) (lists : ListTable) (plain : Plain) → Represents threads objects t lists → SoundTable threads objects lists
      → World lists plain → OthersEndRight t plain events
  others_end [] t lists plain represents sound world = tt
  others_end (event ∷ rest) t lists plain represents sound world =
      let (after, sound_after, reply, named) = turn_represents threads objects t lists represents sound event in
      let turned = turn threads objects lists event in
      let same = event_same t lists represents sound event in
      rw (ap (λ (x : TurnOf Table). x.table) same, ap (λ (x : TurnOf Table). x.reply) same ∙ reply) (
        λ n ended. let (other, busy, idle) = (ended_so event t _ lists turned.table represents sound after sound_after).0 ended in
            turn_ends threads objects lists plain world n busy event other idle,
        others_end rest _ turned.table (feed plain event turned.reply) after sound_after (world_turn threads objects lists plain world event),
      )

-- the same of a schedule from a fresh table
module _ (request : FreshRequest) (in_range : InRange request) (events : List Event) where
  pub from_fresh : let table = table_of request in
      (final_of table events ≡ final_on record_kind request.threads request.objects table events)
      × (shown_of table events ≡ shown_on record_kind request.threads request.objects table events)
  from_fresh =
      schedule_same request.threads request.objects in_range.0 in_range.2 events (table_of request) (fresh request.reserved (fresh_rank request))
      (fresh_represents request in_range) (sound_fresh request.threads request.objects request.reserved (fresh_rank request))

  pub reached_sound : sound_of (final_of (table_of request) events) ≡ true
  reached_sound =
      let (represents, sound, same) = schedule_represents request in_range events in
      rw from_fresh.0 (represented_sound request.threads request.objects _ _ in_range.0 in_range.2 represents sound)

  pub reached_well_typed : WellTyped (final_of (table_of request) events)
  reached_well_typed =
      let (represents, sound, same) = schedule_represents request in_range events in
      rw from_fresh.0 (represented_well_typed request.threads request.objects _ _ represents sound)

pub demand_three : DemandThree
demand_three request in_range events =
    let (last, shown) = from_fresh request in_range events in (
      subst₂ (λ (x : Table) (y : List Shown). Agrees x (feed_all blank y)) (sym last) (sym shown) (schedule_agrees request in_range events),
      subst Ruled (sym shown) (schedule_ruled request in_range events),
      others_end request.threads request.objects in_range.0 in_range.2 events (table_of request) (fresh request.reserved (fresh_rank request)) blank
          (fresh_represents request in_range) (sound_fresh request.threads request.objects request.reserved (fresh_rank request)) (world_fresh request.reserved (fresh_rank request)),
    )

-- a thread parked inside an exit waits for a holder that is at work on that object
pub exits_wait_for_busy_holder : ExitsWaitForBusyHolder
exits_wait_for_busy_holder request in_range events =
    let (represents, sound, same) = schedule_represents request in_range events in
    subst (λ (table : Table). (n : ℕ) → ParkedInExit table n → WaitsForBusyHolder table n) (sym (from_fresh request in_range events).0)
    (represents_waits request.threads request.objects _ _ represents sound _
    (world_run request.threads request.objects events (fresh request.reserved (fresh_rank request)) blank (world_fresh request.reserved (fresh_rank request))))

-- which is more than was asked
pub exits_wait_for_holder : ExitsWaitForHolder
exits_wait_for_holder request in_range events n parked = (exits_wait_for_busy_holder request in_range events n parked).0

-- a free number is as new
pub free_numbers_as_new : FreeNumbersAsNew
free_numbers_as_new request in_range events =
    let (represents, sound, same) = schedule_represents request in_range events in
    subst (λ (table : Table). (o : ℕ) → FreeNumber table o → AsNew table o) (sym (from_fresh request in_range events).0)
    (represents_as_new request.threads request.objects _ _ represents sound _
    (world_run request.threads request.objects events (fresh request.reserved (fresh_rank request)) blank (world_fresh request.reserved (fresh_rank request)))
    (schedule_attended request.threads request.objects request.reserved (fresh_rank request) events))

-- what an event makes of a sound table represents sound lists again
pub event_represents : (t : Table) → WellTyped t → sound_of t ≡ true → (event : Event)
    → (lists : ListTable) × Represents t.threadcount t.objectcount (handle t event).table lists × SoundTable t.threadcount t.objectcount lists
event_represents t typed sound event =
    let (lists, represents, fine) = sound_represents t typed.threads typed.objects (λ o real inside. typed.depths o) sound in
    let (after, fine_after, reply, named) = turn_represents t.threadcount t.objectcount t lists represents fine event in (
      (turn t.threadcount t.objectcount lists event).table,
      rw (ap (λ (x : TurnOf Table). x.table) (event_is_turn t sound event)) after,
      fine_after,
    )

-- a sound table stays sound
pub sound_kept : SoundKept
sound_kept t typed sound event =
    let (lists, represents, fine) = event_represents t typed sound event in
    let (threads, objects) = (sound_reads t sound).sizes in
    represented_sound t.threadcount t.objectcount (handle t event).table lists threads.0 objects.0 represents fine

-- and well typed
pub well_typed_kept : (t : Table) → WellTyped t → sound_of t ≡ true → (event : Event) → WellTyped (handle t event).table
well_typed_kept t typed sound event =
    let (lists, represents, fine) = event_represents t typed sound event in
    represented_well_typed t.threadcount t.objectcount (handle t event).table lists represents fine
