-- Six steps, and how many by what they are counted from: the engine's schedules have the counts of those on tables with lists.
use Prim.Native.Nat.{ℕ, ◌+◌, ◌≤◌}
use mathlib.Core.Path.{◌≡◌, refl, ap, ◌∙◌}
use mathlib.Core.Bool.{Bool, true}
use mathlib.Core.List.{List, [], ◌∷◌}
use native.Mathlib.Omega.{arith}
use Rattle.lock_rules.specs.Numbers.{phase_of, returned_of}
use Rattle.lock_rules.specs.Events.{Answered, returned}
use Rattle.lock_rules.specs.Feed.{Plain, blank}
use Rattle.lock_rules.specs.declared.{Answer.Answer, ThreadState.ThreadState}
use Rattle.lock_rules.specs.declared.Answer.TheVariants.{GoneOn, Finished, Parked, NotOwner, TooDeep, NoRule}
use Rattle.lock_rules.specs.declared.ThreadState.TheVariants.{Idle, Running, Queued, Contending, Waiting}
use Rattle.lock_rules.specs.declared.event.Event.{Event}
use Rattle.lock_rules.specs.declared.event.Event.TheVariants.{Step}
use Rattle.lock_table.proofs.FreshTables.{fresh_rank}
use Rattle.lock_rules.proofs.{Status.Runs, RunQueue.own_step}
use Rattle.lock_rules.proofs.TableKinds.{TurnOf, step_thread}
use Rattle.lock_rules.proofs.Tables.{ListTable, perform_at, list_kind, turn, final, fresh}
use Rattle.lock_rules.proofs.{ListSound.SoundTable, SoundKept.sound_fresh}
use Rattle.lock_rules.proofs.Lift.{World, world_fresh, world_run}
use Rattle.lock_table.specs.Access.{phase_number_at}
use Rattle.lock_table.specs.Fresh.{InRange, table_of}
use Rattle.lock_table.specs.declared.fresh_table.FreshRequest.{FreshRequest}
use Rattle.lock_table.specs.declared.record.Table.{Table}
use Rattle.lock_records.specs.Agrees.{RuledReply}
use Rattle.lock_records.specs.Unparked.{CanStep}
use Rattle.lock_records.proofs.{Represents.Represents, FreshRecords.fresh_represents, Readings.busy_in, Ruled.step_ruled}
use Rattle.lock_records.proofs.Claim.{schedule_represents, phase_is}
use Rattle.lock_records.proofs.Parking.{runs_so}
use Rattle.lock_engine.specs.{Outcome.reply_returned, Handle.handle}
use Rattle.step_bounds.specs.SixSteps.{is_step, own_steps, kept_after, along, steps_taken, SixSteps}
use Rattle.step_bounds.specs.Starts.{NotBegun, Unparked, most_from, own_start, start_of_steps}
use Rattle.step_bounds.proofs.{Counting.most_six, EveryEvent.left_to}
use Rattle.step_bounds.proofs.Schedules.{runs_some, along_lists, lists_within}
use Rattle.lock_schedule.specs.Schedule.{final_of}
use Rattle.lock_schedule.specs.StepsByStart.{StepsWithin, StepsByStart}
use Rattle.lock_schedule.proofs.Theorem.{event_same, from_fresh}
use Rattle.lock_schedule.proofs.Interpreter.{told}

-- what is kept along a schedule of the engine is what is kept along that on lists
along_same : (threads objects : ℕ) → 1 ≤ threads → 1 ≤ objects → {A : Type 0} (unparked : ℕ → A) (own : Event → ℕ → A → A) (n : ℕ) (events : List Event) (kept : A)
    (t : Table) (lists : ListTable) → Represents threads objects t lists → SoundTable threads objects lists
    → along unparked own n kept t events ≡ along_lists threads objects unparked own n kept lists events
along_same threads objects some_threads some_objects unparked own n [] kept t lists represents sound = refl
along_same threads objects some_threads some_objects unparked own n (event ∷ rest) kept t lists represents sound =
    let after = told threads objects t lists represents sound event (event_same threads objects some_threads some_objects t lists represents sound event) in
    let result = turn threads objects lists event in
    let next = (handle t event).table in
    let same : kept_after unparked own n event (reply_returned (handle t event).reply) (phase_number_at t n) (phase_number_at next n) kept
    ≡ kept_after unparked own n event (returned result.reply) (phase_of (lists.threads n).state) (phase_of (result.table.threads n).state) kept =
    λ j. kept_after unparked own n event (after.number j) (phase_is threads objects t lists represents sound n j)
    (phase_is threads objects next result.table after.represents after.sound n j) kept in
    along_same threads objects some_threads some_objects unparked own n rest _ next result.table after.represents after.sound
    ∙ ap (λ (k : _). along_lists threads objects unparked own n k result.table rest) same

-- a step that has a rule is one of its thread's own
ruled_step : (answer : Answer) (commits : Bool) → RuledReply (Answered answer commits) → is_step (returned_of answer) ≡ true
ruled_step GoneOn commits ruled = refl
ruled_step (Finished woken) commits ruled = refl
ruled_step Parked commits ruled = refl
ruled_step NotOwner commits ruled = refl
ruled_step TooDeep commits ruled = refl
ruled_step NoRule commits ruled = absurd (ruled.1 refl)

-- so is the next step of a thread that can take one
next_step : (threads objects : ℕ) → 1 ≤ threads → 1 ≤ objects → (n : ℕ) (t : Table) (lists : ListTable) (plain : Plain) → Represents threads objects t lists
    → SoundTable threads objects lists → World lists plain → Runs (lists.threads n).state → is_step (reply_returned (handle t (Step n)).reply) ≡ true
next_step threads objects some_threads some_objects n t lists plain represents sound world runs = at (lists.threads n).state refl runs
  where
    number : reply_returned (handle t (Step n)).reply ≡ returned (turn threads objects lists (Step n)).reply
    number =
        (told threads objects t lists represents sound (Step n) (event_same threads objects some_threads some_objects t lists represents sound (Step n))).number

    at : (state : ThreadState) → (lists.threads n).state ≡ state → Runs state → is_step (reply_returned (handle t (Step n)).reply) ≡ true
    at Idle is runs = absurd runs.1
    at (Running doing) is runs =
        let (low, high) = (busy_in threads objects lists sound n (rw is tt)).0 in
        let performed = perform_at lists (lists.threads n).object n doing in
        let stepped = own_step threads objects lists n low high (lists.threads n).state refl ∙ ap (step_thread list_kind lists n) is in
        ap is_step (number ∙ ap (λ (x : TurnOf ListTable). returned x.reply) stepped)
        ∙ ruled_step performed.answer performed.commits (step_ruled threads objects lists plain world n doing low high is)
    at (Queued carried) is runs = absurd runs.0
    at Contending is runs = absurd runs.0
    at (Waiting saved) is runs = absurd runs.0

module _ (request : FreshRequest) (in_range : InRange request) (events : List Event) (n : ℕ) where
  abbrev first : Table
  first = table_of request

  abbrev lists : ListTable
  lists = fresh request.reserved (fresh_rank request)

  pub from_fresh_lists : {A : Type 0} (unparked : ℕ → A) (own : Event → ℕ → A → A) (kept : A)
      → along unparked own n kept first events ≡ along_lists request.threads request.objects unparked own n kept lists events
  from_fresh_lists unparked own kept =
      along_same request.threads request.objects in_range.0 in_range.2 unparked own n events kept first lists (fresh_represents request in_range)
      (sound_fresh request.threads request.objects request.reserved (fresh_rank request))

  abbrev last : ListTable
  last = final request.threads request.objects lists events

  -- steps taken and steps left
  all_within : steps_taken n first events + left_to last n ≤ most_from (start_of_steps n first events)
  all_within =
      rw (from_fresh_lists (λ after. 0) own_steps 0, from_fresh_lists Unparked own_start NotBegun)
      (lists_within request.threads request.objects n events lists blank (world_fresh request.reserved (fresh_rank request)) 0 NotBegun (omega arith))

  steps_within : StepsWithin first events (final_of first events) n
  steps_within =
      let (reached, sound, same) = schedule_represents request in_range events in
      let represents : Represents request.threads request.objects (final_of first events) last = rw (from_fresh request in_range events).0 reached in
      let world = world_run request.threads request.objects events lists blank (world_fresh request.reserved (fresh_rank request)) in
      let runs : CanStep (final_of first events) n → Runs (last.threads n).state =
      runs_so request.threads request.objects (final_of first events) last represents sound n in
      record {
        most = omega (arith, all_within);
        unspent = λ can. omega (arith, all_within, runs_some (last.objects (last.threads n).object).word (last.threads n).state (runs can));
        able = λ can. next_step request.threads request.objects in_range.0 in_range.2 n _ last _ represents sound world (runs can);
      }

pub steps_by_start : StepsByStart
steps_by_start = steps_within

pub six_steps : SixSteps
six_steps request in_range events n =
    let within = steps_within request in_range events n in omega (arith, within.most, most_six (start_of_steps n (table_of request) events))
