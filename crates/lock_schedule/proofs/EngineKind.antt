-- An event of the engine on a sound table is the turn of the tables of records: what the gate lets through is the begin, the step or the tick there.
use Prim.Native.Nat.{ℕ, zero, suc}
use mathlib.Core.Path.{◌≡◌, refl, sym, ap, ◌∙◌, subst, fun_ext}
use mathlib.Core.Bool.{true, false}
use native.Mathlib.Omega.{arith}
use lib.Dec.{T}
use borrow.Author.Tests.{le-leb, lt-leb, le-ltb}
use Rattle.laws.specs.Choice.{pick, within}
use Rattle.laws.proofs.Choice.{false≢true}
use Rattle.lock_word.specs.Ticks.{tick_limit}
use Rattle.lock_word.specs.Read.{read_word}
use Rattle.std.specs.Prelude.{Option, Some, None, Result, Ok}
use Rattle.lock_word.specs.declared.reading.LockWord.{LockWord}
use Rattle.lock_rules.specs.Gate.{limit_fits, gate, event_thread, event_object}
use Rattle.lock_rules.specs.{Operations.operation_limit, Rules.decide}
use Rattle.lock_rules.specs.Numbers.{asked_for, refusal_number}
use Rattle.lock_rules.proofs.Each.{each_limit, each_suspension, each_doing, each_state, each_carried}
use Rattle.lock_rules.proofs.Status.{unfinished}
use Rattle.lock_rules.specs.Events.{Refused}
use Rattle.lock_rules.specs.declared.event.{Event.Event, Refusal.Refusal}
use Rattle.lock_rules.specs.declared.event.Event.TheVariants.{Begin, Step, Tick}
use Rattle.lock_rules.specs.declared.event.ThreadStatus.TheVariants.{Ready}
use Rattle.lock_rules.specs.declared.event.Refusal.TheVariants.{NotSound}
use Rattle.lock_rules.specs.declared.Effect.{Effect}
use Rattle.lock_rules.specs.declared.{Doing.Doing, ThreadState.ThreadState}
use Rattle.lock_rules.specs.declared.ThreadState.TheVariants.{Idle, Running, Queued, Contending, Waiting}
use Rattle.lock_rules.proofs.Gating.{Passed, within_says, by_gate}
use Rattle.lock_rules.proofs.TableKinds.{TurnOf, status_of, refuse, begin_asked, step_thread, through, turn_on}
use Rattle.lock_table.specs.Limits.{thread_limit, object_limit}
use Rattle.lock_table.specs.Operation.{operation_from}
use Rattle.lock_table.specs.Access.{thread_at, set_thread, object_at, set_object}
use Rattle.lock_table.specs.declared.operation.Operation.{Operation}
use Rattle.lock_table.specs.declared.operation.Operation.TheVariants.{Enter, Exit, Wait, Notify, NotifyAll, TimedWait}
use Rattle.lock_table.specs.declared.record.{ThreadRecord.ThreadRecord, ObjectRecord.ObjectRecord, Table.Table}
use Rattle.lock_table.proofs.Records.{object_unchanged, thread_unchanged, object_beside_thread}
use Rattle.lock_perform.specs.ThreadSet.{has_thread}
use Rattle.lock_perform.proofs.ThreadSets.{has_none}
use Rattle.lock_perform.specs.State.{read_thread, write_activity, doing_activity, wait_activity, carried_activity}
use Rattle.lock_perform.specs.{Sight.sight_at, Perform.stays}
use Rattle.lock_soundness.specs.Sound.{sound_of}
use Rattle.lock_soundness.proofs.Reading.{sound_reads}
use Rattle.lock_records.proofs.RecordKind.{record_kind, step_acts, step_reads}
use Rattle.lock_records.proofs.{Settled.settled_performs, Settled.settled_names, EveryNumber.written_at}
use Rattle.lock_records.proofs.ReadBack.{IsWritten, state_back}
use Rattle.lock_engine.specs.Turn.{given_ticks, begun, begin_turn, action_turn, word_turn, state_turn, step_turn, open_turn, gate_turn, refused}
use Rattle.lock_gate.specs.Status.{thread_status}
use Rattle.lock_work.specs.Work.{work_stays, work_done}
use Rattle.lock_engine.specs.Handle.{waiters_of, outcome_of, handle_trusting, handle}
use Rattle.lock_engine.specs.declared.outcome.Outcome.{Outcome}
use Rattle.lock_engine.proofs.{Refused.refusing, Refused.refused_stays, Narrow.sizes}
use Rattle.lock_schedule.specs.Schedule.{reply_shown}

-- an outcome, as the list machine has it
abbrev pub turn_of : Outcome → TurnOf Table
turn_of outcome =
    record { table = outcome.table; reply = reply_shown outcome.reply outcome.commits; unparked = has_thread outcome.unparked }

-- nobody is unparked
nobody : has_thread 0 ≡ (λ n. false)
nobody = fun_ext has_none

refusing_turn : (t : Table) (refusal : Refusal) → turn_of (refusing t refusal) ≡ refuse record_kind t (refusal_number refusal)
refusing_turn t refusal = λ j. record { table = t; reply = Refused (refusal_number refusal); unparked = nobody j }

-- the gate has seen to it that a timed wait's ticks are its limit
ticks_given : (limit : ℕ) → within 1 tick_limit limit ≡ true → given_ticks TimedWait limit ≡ limit
unfolding given_ticks
ticks_given limit inside = rw (le-ltb tick_limit limit (within_says {low = 1} {high = tick_limit} {n = limit} inside).1) refl

-- the status of a record that is written is that of its state
status_written : (n o : ℕ) (state : ThreadState) → thread_status (write_activity n o state).phase ≡ status_of state
unfolding thread_status write_activity doing_activity wait_activity carried_activity
status_written n o =
    each_state _ (
      search,
      each_doing _
          (search, search, (each_limit _ (search), each_limit _ (search), each_limit _ (search), each_limit _ (search), each_limit _ (search), each_suspension _ (search)), search, search),
      each_carried _ (search, search, each_limit _ (search), each_suspension _ (search)),
      search,
      each_suspension _ (search),
    )

module _ (t : Table) where
  -- a begin: the object is written as it stands
  pub begin_settles : (n o : ℕ) (operation : Operation) (limit : ℕ)
      → (outcome_of t n o (begin_turn (thread_at t n) (object_at t o) operation o limit)).table ≡ set_thread t n (begun (thread_at t n) operation o limit)
  unfolding work_stays stays
  begin_settles n o operation limit =
      let own = begun (thread_at t n) operation o limit in
      let after = set_thread t n own in
      subst (λ (object : ObjectRecord). set_object after o object ≡ after) (object_beside_thread t n o own) (object_unchanged after o)

  begin_names : (n o : ℕ) (operation : Operation) (limit : ℕ)
      → has_thread (outcome_of t n o (begin_turn (thread_at t n) (object_at t o) operation o limit)).unparked ≡ (λ m. false)
  unfolding work_stays stays
  begin_names n o operation limit = nobody

  begins_so : (n o number limit : ℕ) → within 1 operation_limit number ≡ true → limit_fits number limit ≡ true
      → turn_of (outcome_of t n o (begin_turn (thread_at t n) (object_at t o) (operation_from number) o limit))
      ≡ begin_asked record_kind t (asked_for number limit) n o
  unfolding asked_for operation_from given_ticks
  begins_so n o zero limit inside fits = false≢true inside
  begins_so n o (suc zero) limit inside fits = rw (begin_settles n o Enter limit, begin_names n o Enter limit) refl
  begins_so n o (suc (suc zero)) limit inside fits = rw (begin_settles n o Exit limit, begin_names n o Exit limit) refl
  begins_so n o (suc (suc (suc zero))) limit inside fits = rw (begin_settles n o Wait limit, begin_names n o Wait limit) refl
  begins_so n o (suc (suc (suc (suc zero)))) limit inside fits = rw (begin_settles n o Notify limit, begin_names n o Notify limit) refl
  begins_so n o (suc (suc (suc (suc (suc zero))))) limit inside fits = rw (begin_settles n o NotifyAll limit, begin_names n o NotifyAll limit) refl
  begins_so n o (suc (suc (suc (suc (suc (suc zero)))))) limit inside fits =
      rw (begin_settles n o TimedWait limit, begin_names n o TimedWait limit, ticks_given limit fits) refl
  begins_so n o (suc (suc (suc (suc (suc (suc (suc more))))))) limit inside fits =
      let number = suc (suc (suc (suc (suc (suc (suc more)))))) in
      false≢true (rw (le-leb 1 number (omega arith), lt-leb number operation_limit (omega arith)) at inside)

  -- a step's rule
  rule_acts : (n : ℕ) (action : Option Effect)
      → let own = thread_at t n in
      turn_of (outcome_of t n own.object (action_turn n own (object_at t own.object) action))
      ≡ step_acts t n own.object (object_at t own.object) action
  unfolding action_turn work_stays work_done
  rule_acts n None = unfold stays in rw (thread_unchanged t n, object_unchanged t (thread_at t n).object, nobody) refl
  rule_acts n (Some effect) =
      let o = (thread_at t n).object in
      rw (settled_performs t n o (object_at t o) effect, settled_names t n o (object_at t o) effect) refl

  word_reads : (n : ℕ) (doing : Doing) (decoded : Option LockWord)
      → let own = thread_at t n in
      let object = object_at t own.object in
      turn_of (outcome_of t n own.object (word_turn n own object (waiters_of t object) doing decoded)) ≡ step_reads t n own.object object doing decoded
  unfolding word_turn refusal_number
  word_reads n doing None = ap turn_of (refused_stays t n (thread_at t n).object NotSound) ∙ refusing_turn t NotSound
  word_reads n doing (Some word) = rule_acts n (decide n (sight_at t (object_at t (thread_at t n).object) word) doing)

  module _ (sound : sound_of t ≡ true) where
    -- each record is the state that it is read as, written
    pub status_read : (n : ℕ) → thread_status (thread_at t n).phase ≡ status_of (read_thread (thread_at t n))
    status_read n =
        let is : IsWritten t.objectcount n (thread_at t n) = written_at t (sound_reads t sound) n in
        ap (λ (own : ThreadRecord). thread_status own.phase) is.written
        ∙ (status_written n (thread_at t n).object is.state ∙ ap status_of (sym (state_back t.objectcount n (thread_at t n) is)))

    -- a busy thread is at an object that has a record
    pub home_inside : (n : ℕ) → T (unfinished (read_thread (thread_at t n))) → within 1 object_limit (thread_at t n).object ≡ true
    home_inside n busy =
        let is : IsWritten t.objectcount n (thread_at t n) = written_at t (sound_reads t sound) n in
        let (low, high) = is.home (subst (λ (state : ThreadState). T (unfinished state)) (state_back t.objectcount n (thread_at t n) is) busy) in
        let few = (sizes t sound).1 in
        rw (le-leb 1 (thread_at t n).object low, le-leb (thread_at t n).object object_limit (omega (arith, high, few))) refl

    steps_so : (n : ℕ) → status_of (read_thread (thread_at t n)) ≡ Ready
        → let own = thread_at t n in
        let object = object_at t own.object in
        turn_of (outcome_of t n own.object (step_turn n own object (waiters_of t object))) ≡ step_thread record_kind t n (read_thread own)
    unfolding step_turn state_turn
    steps_so n ready = at (read_thread (thread_at t n)) refl ready
      where
        at : (state : ThreadState) → read_thread (thread_at t n) ≡ state → status_of state ≡ Ready
            → let own = thread_at t n in
            let object = object_at t own.object in
            turn_of (outcome_of t n own.object
            (pick (within 1 object_limit own.object) (state_turn n own object (waiters_of t object) state) (refused own object NotSound)))
            ≡ step_thread record_kind t n state
        at Idle is ready = cc
        at (Running doing) is ready =
            rw (home_inside n (rw is tt)) (word_reads n doing (read_word (object_at t (thread_at t n).object).word))
        at (Queued carried) is ready = cc
        at Contending is ready = cc
        at (Waiting suspension) is ready = cc

    -- what the gate gives, and 11 does not apply
    through_gate : (event : Event)
        → let own = thread_at t (event_thread event) in
        let number = event_object event own.object in
        let object = object_at t number in
        let gated = gate true t.threadcount t.objectcount event (status_of (read_thread own)) in
        turn_of (outcome_of t (event_thread event) number (gate_turn gated event own object (waiters_of t object))) ≡ through record_kind gated t event
    unfolding gate_turn open_turn work_stays work_done
    through_gate event =
        let own = thread_at t (event_thread event) in
        let number = event_object event own.object in
        let object = object_at t number in
        by_gate true t.threadcount t.objectcount
        (λ (gated : Result (Unit {0}) Refusal). turn_of (outcome_of t (event_thread event) number (gate_turn gated event own object (waiters_of t object))) ≡ through record_kind gated t event)
        (λ unsound. false≢true (sym unsound)) (λ refusal is high. ap turn_of (refused_stays t (event_thread event) number refusal) ∙ refusing_turn t refusal) event
        (status_of (read_thread own)) (λ is. opened event)
      where
        opened : (event : Event) → Passed t.threadcount t.objectcount event (status_of (read_thread (thread_at t (event_thread event))))
            → let own = thread_at t (event_thread event) in
            let number = event_object event own.object in
            let object = object_at t number in
            turn_of (outcome_of t (event_thread event) number (open_turn event own object (waiters_of t object))) ≡ through record_kind (Ok tt) t event
        opened (Begin number thread object limit) (low, high, operation, real, small, idle, fits) = begins_so thread object number limit operation fits
        opened (Step thread) (low, high, ready) = steps_so thread ready
        opened Tick passed = refl

    pub event_is_turn : (event : Event) → turn_of (handle t event) ≡ turn_on record_kind t.threadcount t.objectcount t event
    unfolding handle handle_trusting
    event_is_turn event =
        rw (sound, le-leb t.threadcount thread_limit (sizes t sound).0, status_read (event_thread event)) (through_gate event)
