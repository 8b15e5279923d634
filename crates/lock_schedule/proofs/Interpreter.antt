-- The set of an event is what it should be, and a run queue kept from answers and sets alone is enough: both from the tables with lists.
use Prim.Native.Nat.{ℕ, ◌≤◌, ◌<◌}
use mathlib.Core.Path.{◌≡◌, refl, sym, ap, ◌∙◌, subst}
use mathlib.Core.Logic.{◌⊎◌, inl, inr}
use mathlib.Core.Bool.{Bool, true, false, not}
use mathlib.Core.List.{List, [], ◌∷◌}
use native.Mathlib.Omega.{arith}
use lib.Dec.{leb}
use borrow.Author.Tests.{leb-true, leb-false}
use Rattle.laws.specs.Choice.{both}
use Rattle.laws.proofs.Choice.{either_way, split, false≢true}
use Rattle.lock_rules.specs.Events.{returned}
use Rattle.lock_rules.specs.Numbers.{refusal_number, phase_of}
use Rattle.lock_rules.specs.Feed.{OperationLog, Plain, feed, feed_all, blank}
use Rattle.lock_rules.specs.RunQueue.{Queue, own_event, queue_after}
use Rattle.lock_rules.specs.declared.event.Event.{Event}
use Rattle.lock_rules.specs.declared.event.Event.TheVariants.{Step}
use Rattle.lock_rules.specs.declared.event.Refusal.TheVariants.{ThreadIdle}
use Rattle.lock_rules.specs.declared.ThreadState.{ThreadState}
use Rattle.lock_rules.specs.declared.ThreadState.TheVariants.{Idle}
use Rattle.lock_table.proofs.FreshTables.{fresh_rank}
use Rattle.lock_rules.proofs.Status.{unparked}
use Rattle.lock_rules.proofs.TableKinds.{TurnOf, step_thread, turn_on}
use Rattle.lock_rules.proofs.Tables.{ListTable, list_kind, turn, final, fresh}
use Rattle.lock_rules.proofs.{ListSound.SoundTable, SoundKept.sound_fresh}
use Rattle.lock_rules.proofs.Lift.{World, world_turn, world_fresh}
use Rattle.lock_rules.proofs.Unparks.{unparks_says, says_unparks, turn_turned}
use Rattle.lock_rules.proofs.RunQueue.{Kept, own_step, event_kept, outside_kept}
use Rattle.lock_table.specs.Fresh.{InRange, table_of}
use Rattle.lock_table.specs.declared.fresh_table.FreshRequest.{FreshRequest}
use Rattle.lock_table.specs.declared.record.Table.{Table}
use Rattle.lock_perform.specs.ThreadSet.{has_thread}
use Rattle.lock_records.specs.Unparked.{CanStep}
use Rattle.lock_records.proofs.{Represents.Represents, FreshRecords.fresh_represents, SoundRepresents.sound_represents}
use Rattle.lock_records.proofs.Readings.{nobody, past_idle}
use Rattle.lock_records.proofs.RecordKind.{record_kind, turn_represents}
use Rattle.lock_records.proofs.Claim.{schedule_represents, phase_is}
use Rattle.lock_records.proofs.Parking.{parked_so, so_parked, unparked_so, so_unparked, runs_so, so_runs}
use Rattle.lock_engine.specs.{Outcome.reply_returned, Handle.handle}
use Rattle.lock_engine.specs.declared.outcome.Reply.{Reply}
use Rattle.lock_engine.specs.declared.outcome.Reply.TheVariants.{Accepted, Refused, Answered}
use Rattle.lock_schedule.specs.Schedule.{reply_shown, final_of, shown_of}
use Rattle.lock_schedule.specs.Demand.{EndedByOther}
use Rattle.lock_schedule.specs.Interpreter.{SetsRight, queue_of, LetOutSince, Unnoticed, EnoughForInterpreter}
use Rattle.lock_schedule.proofs.EngineKind.{turn_of, event_is_turn}
use Rattle.lock_schedule.proofs.Theorem.{ended_so, event_same, from_fresh}

-- the number that a reply has, as the plain monitors are shown it
pub returned_shown : (reply : Reply) (commits : Bool) → returned (reply_shown reply commits) ≡ reply_returned reply
unfolding reply_returned
returned_shown Accepted commits = refl
returned_shown (Refused refusal) commits = refl
returned_shown (Answered answer) commits = refl

-- what one event of the engine tells, where it is the turn of the records, is what the table with lists does
pub record Told (threads objects : ℕ) (t : Table) (lists : ListTable) (event : Event) : Type 0 where
  pub represents : Represents threads objects (handle t event).table (turn threads objects lists event).table
  pub sound : SoundTable threads objects (turn threads objects lists event).table
  pub shown : reply_shown (handle t event).reply (handle t event).commits ≡ (turn threads objects lists event).reply
  pub number : reply_returned (handle t event).reply ≡ returned (turn threads objects lists event).reply
  pub names : (n : ℕ) → has_thread (handle t event).unparked n ≡ (turn threads objects lists event).unparked n

pub told : (threads objects : ℕ) (t : Table) (lists : ListTable) → Represents threads objects t lists → SoundTable threads objects lists → (event : Event)
    → turn_of (handle t event) ≡ turn_on record_kind threads objects t event → Told threads objects t lists event
told threads objects t lists represents sound event same =
    let (after, sound_after, reply, named) = turn_represents threads objects t lists represents sound event in
    let shown = ap (λ (x : TurnOf Table). x.reply) same ∙ reply in
    record {
      represents = rw (ap (λ (x : TurnOf Table). x.table) same) after;
      sound = sound_after;
      shown = shown;
      number = sym (returned_shown (handle t event).reply (handle t event).commits) ∙ ap returned shown;
      names = λ n. ap (λ (x : TurnOf Table). x.unparked n) same ∙ named n;
    }

-- whom the engine names is whom the table with lists unparks
pub sets_right : SetsRight
sets_right t typed sound event n =
    let (lists, represents, fine) = sound_represents t typed.threads typed.objects (λ o real inside. typed.depths o) sound in
    let threads = t.threadcount in
    let objects = t.objectcount in
    let one = told threads objects t lists represents fine event (event_is_turn t sound event) in
    let after = (turn threads objects lists event).table in
    let before = unparked (lists.threads n).state in
    let now = unparked (after.threads n).state in
    let names : has_thread (handle t event).unparked n ≡ both (not before) now = one.names n ∙ (turn_turned threads objects lists fine n event).names in (
      λ in_set. let (parked, free) = unparks_says before now (sym names ∙ in_set) in (
        so_parked threads objects t lists represents fine n parked,
        so_unparked threads objects (handle t event).table after one.represents one.sound n free,
      ),
      λ (parked, free). names
          ∙ says_unparks before now (parked_so threads objects t lists represents fine n parked)
          (unparked_so threads objects (handle t event).table after one.represents one.sound n free),
    )

-- A schedule on records and the queue: thread n is kept as on the tables with lists that they represent.
module _ (threads objects : ℕ) (some_threads : 1 ≤ threads) (some_objects : 1 ≤ objects) (n : ℕ) (low : 1 ≤ n) (high : n ≤ threads) where
  abbrev KeptAt : Table → Bool → Type 0 → OperationLog → Type 0
  KeptAt t queued out log =
      (lists : ListTable) × Represents threads objects t lists × SoundTable threads objects lists × Kept queued (lists.threads n).state out log

  kept_run : (events : List Event) (t : Table) (lists : ListTable) (plain : Plain) → Represents threads objects t lists → SoundTable threads objects lists
      → World lists plain → (queue : Queue) (out : Type 0) → Kept (queue n) (lists.threads n).state out (plain.logs n)
      → KeptAt (final_of t events) (queue_of t queue events n) (LetOutSince n out t events) ((feed_all plain (shown_of t events)).logs n)
  kept_run [] t lists plain represents sound world queue out kept = (lists, represents, sound, kept)
  kept_run (event ∷ rest) t lists plain represents sound world queue out kept =
      let one = told threads objects t lists represents sound event (event_same threads objects some_threads some_objects t lists represents sound event) in
      let turned = turn threads objects lists event in
      let outcome = handle t event in
      let ended = EndedByOther event t outcome.table n in
      let kept_now = event_kept threads objects lists sound plain world n low high (queue n) out ended kept event
      (ended_so event t outcome.table lists turned.table represents sound one.represents one.sound) in
      kept_run rest outcome.table turned.table (feed plain event (reply_shown outcome.reply outcome.commits)) one.represents one.sound
      (rw one.shown (world_turn threads objects lists plain world event))
      (queue_after queue event (reply_returned outcome.reply) (has_thread outcome.unparked))
      (ended ⊎ (out × (own_event event (reply_returned outcome.reply) n ≡ false)))
      (rw (one.shown, one.number, one.names n) kept_now)

-- the step of an idle thread is refused with 15
idle_next : (threads objects : ℕ) → 1 ≤ threads → 1 ≤ objects → (n : ℕ) → 1 ≤ n → n ≤ threads → (t : Table) (lists : ListTable) → Represents threads objects t lists
    → SoundTable threads objects lists → (lists.threads n).state ≡ Idle → reply_returned (handle t (Step n)).reply ≡ refusal_number ThreadIdle
idle_next threads objects some_threads some_objects n low high t lists represents sound idle =
    (told threads objects t lists represents sound (Step n) (event_same threads objects some_threads some_objects t lists represents sound (Step n))).number
    ∙ (ap (λ (x : TurnOf ListTable). returned x.reply) (own_step threads objects lists n low high (lists.threads n).state refl)
    ∙ ap (λ (state : ThreadState). returned (step_thread list_kind lists n state).reply) idle)

-- a number that is no thread's
abbrev Outside : ℕ → ℕ → Type 0
Outside threads n = (n ≡ 0) ⊎ (threads < n)

inside? : (threads n : ℕ) → ((1 ≤ n) × (n ≤ threads)) ⊎ Outside threads n
inside? threads n =
    split (leb 1 n)
    (λ low. split (leb n threads) (λ high. inl (leb-true 1 n low, leb-true n threads high)) (λ past. inr (inr (leb-false n threads past))))
    (λ none. inr (inl (omega (arith, leb-false 1 n none))))

outside_idle : {threads objects : ℕ} {n : ℕ} (lists : ListTable) → SoundTable threads objects lists → Outside threads n → (lists.threads n).state ≡ Idle
outside_idle {threads} {objects} {n} lists sound outside =
    either_way outside (λ none. rw none (nobody threads objects lists sound)) (past_idle threads objects lists sound n)

-- it never comes into the queue
outside_run : (threads objects : ℕ) → 1 ≤ threads → 1 ≤ objects → (n : ℕ) → Outside threads n → (events : List Event) (t : Table) (lists : ListTable)
    → Represents threads objects t lists → SoundTable threads objects lists → (queue : Queue) → queue n ≡ false → queue_of t queue events n ≡ false
outside_run threads objects some_threads some_objects n outside [] t lists represents sound queue empty = empty
outside_run threads objects some_threads some_objects n outside (event ∷ rest) t lists represents sound queue empty =
    let one = told threads objects t lists represents sound event (event_same threads objects some_threads some_objects t lists represents sound event) in
    outside_run threads objects some_threads some_objects n outside rest (handle t event).table (turn threads objects lists event).table one.represents one.sound
    (queue_after queue event (reply_returned (handle t event).reply) (has_thread (handle t event).unparked))
    (rw (one.number, one.names n, empty)
    (outside_kept threads objects lists sound n event (outside_idle lists sound outside) (outside_idle (turn threads objects lists event).table one.sound outside)))

module _ (request : FreshRequest) (in_range : InRange request) (events : List Event) (n : ℕ) where
  abbrev threads : ℕ
  threads = request.threads

  abbrev objects : ℕ
  objects = request.objects

  abbrev first : Table
  first = table_of request

  abbrev last : Table
  last = final_of first events

  abbrev last_lists : ListTable
  last_lists = final threads objects (fresh request.reserved (fresh_rank request)) events

  reached : Represents threads objects last last_lists × SoundTable threads objects last_lists
  reached =
      let (represents, sound, shown) = schedule_represents request in_range events in
      (subst (λ (t : Table). Represents threads objects t last_lists) (sym (from_fresh request in_range events).0) represents, sound)

  enough_inside : 1 ≤ n → n ≤ threads
      → (CanStep last n → queue_of first (λ m. false) events n ≡ true) × (queue_of first (λ m. false) events n ≡ true → CanStep last n ⊎ Unnoticed first events n)
  enough_inside low high =
      let (lists, represents, sound, kept) = kept_run threads objects in_range.0 in_range.2 n low high events first (fresh request.reserved (fresh_rank request)) blank
      (fresh_represents request in_range) (sound_fresh threads objects request.reserved (fresh_rank request)) (world_fresh request.reserved (fresh_rank request)) (λ m. false) ⊥
      (record { runs = λ runs. absurd runs.1; besides = λ queued. false≢true queued; idle = λ left. absurd left; right = λ left. absurd left }) in (
        λ can. kept.runs (runs_so threads objects last lists represents sound n can),
        λ queued. either_way (kept.besides queued) (λ runs. inl (so_runs threads objects last lists represents sound n runs))
            (λ left. inr
            (record {
              let_out = left;
              idle = phase_is threads objects last lists represents sound n ∙ ap phase_of (kept.idle left);
              next = idle_next threads objects in_range.0 in_range.2 n low high last lists represents sound (kept.idle left);
              finished = kept.right left;
            })),
      )

  enough_outside : Outside threads n → (CanStep last n → ⊥) × (queue_of first (λ m. false) events n ≡ false)
  enough_outside outside =
      let (represents, sound) = reached in (
        λ can. absurd (rw (outside_idle last_lists sound outside) at (runs_so threads objects last last_lists represents sound n can).1),
        outside_run threads objects in_range.0 in_range.2 n outside events first (fresh request.reserved (fresh_rank request)) (fresh_represents request in_range)
            (sound_fresh threads objects request.reserved (fresh_rank request)) (λ m. false) refl,
      )

pub enough_for_interpreter : EnoughForInterpreter
enough_for_interpreter request in_range events n =
    either_way (inside? request.threads n)
    (λ (low, high). let (runs, besides) = enough_inside request in_range events n low high in
    let (represents, sound) = reached request in_range events n in
    (runs, λ queued. ((low, rw represents.threadcount high), besides queued)))
    (λ outside. let (never, empty) = enough_outside request in_range events n outside in
    (λ can. absurd (never can), λ queued. false≢true (sym empty ∙ queued)))
