-- One event on a sound table, reached by a schedule or not: what is no step leaves the table, and the begin of an operation of a script is accepted, and the
-- next step of its thread is one.
use Prim.Native.Nat.{ℕ, zero, suc, ◌≤◌}
use mathlib.Core.Path.{◌≡◌, refl, sym, ap, ◌∙◌}
use mathlib.Core.Bool.{true, false}
use native.Mathlib.Omega.{arith}
use borrow.Author.Tests.{ne_eqb, le-leb}
use Rattle.laws.proofs.Choice.{false≢true}
use Rattle.laws.proofs.Update.{update_same}
use Rattle.lock_word.specs.Read.{read_word}
use Rattle.std.specs.Prelude.{Option, Some, None, Ok}
use Rattle.lock_word.specs.declared.reading.LockWord.{LockWord}
use Rattle.lock_rules.specs.Numbers.{returned_of}
use Rattle.lock_rules.specs.Events.{returned}
use Rattle.lock_rules.specs.Gate.{gate}
use Rattle.lock_rules.specs.Operations.{Operation, Enter, Exit, Wait, Notify, NotifyAll, operation_limit}
use Rattle.lock_rules.specs.Rules.{decide, begun as begun_doing}
use Rattle.lock_rules.specs.declared.Limit.TheVariants.{Unlimited}
use Rattle.lock_rules.specs.declared.Effect.{Effect}
use Rattle.lock_rules.specs.declared.{Doing.Doing, ThreadState.ThreadState}
use Rattle.lock_rules.specs.declared.ThreadState.TheVariants.{Running}
use Rattle.lock_rules.specs.declared.event.Event.{Event}
use Rattle.lock_rules.specs.declared.event.Event.TheVariants.{Begin, Step}
use Rattle.lock_rules.specs.declared.event.ThreadStatus.TheVariants.{Idle}
use Rattle.lock_rules.proofs.Objects.{ListObject, sight_of}
use Rattle.lock_rules.proofs.Perform.{perform}
use Rattle.lock_rules.proofs.RunQueue.{own_step}
use Rattle.lock_rules.proofs.TableKinds.{TurnOf, step_thread, by_event}
use Rattle.lock_rules.proofs.Tables.{ListTable, states_at, decide_at, list_kind}
use Rattle.lock_table.specs.Limits.{thread_limit}
use Rattle.lock_table.specs.Operation.{operation_from}
use Rattle.lock_table.specs.Access.{thread_at, set_thread, object_at}
use Rattle.lock_table.specs.WellTyped.{WellTyped}
use Rattle.lock_table.specs.declared.record.{ThreadRecord.ThreadRecord, ObjectRecord.ObjectRecord, Table.Table}
use Rattle.lock_table.proofs.Records.{thread_set}
use Rattle.lock_gate.specs.Status.{thread_status}
use Rattle.lock_perform.specs.State.{read_thread, limit_of, look_of, state_by}
use Rattle.lock_perform.specs.{Sight.sight_at, Perform.stays}
use Rattle.lock_soundness.specs.Sound.{sound_of}
use Rattle.lock_work.specs.Work.{work_stays}
use Rattle.lock_engine.specs.Outcome.{reply_returned}
use Rattle.lock_engine.specs.Turn.{begun, open_turn, gate_turn}
use Rattle.lock_engine.specs.Handle.{handle_trusting, handle}
use Rattle.lock_engine.specs.declared.outcome.Outcome.{Outcome}
use Rattle.lock_engine.specs.declared.outcome.Reply.TheVariants.{Accepted}
use Rattle.lock_engine.proofs.Narrow.{sizes}
use Rattle.lock_records.proofs.RecordKind.{record_kind, step_acts, step_reads}
use Rattle.lock_records.proofs.Readings.{state_is}
use Rattle.step_bounds.specs.SixSteps.{is_step}
use Rattle.lock_schedule.proofs.EngineKind.{begin_settles, event_is_turn}
use Rattle.lock_schedule.proofs.Theorem.{event_represents, sound_kept, well_typed_kept}
use Rattle.lock_schedule.proofs.Interpreter.{returned_shown, told}
use Rattle.step_measure.proofs.Theorem.{read}
use Rattle.dispatch_rules.specs.Script.{script_operations}
use Rattle.dispatch_rules.proofs.Answers.{Steps, decide_steps, look_steps}

-- an action that has a rule answers with a step
ruled_steps : (thread : ℕ) (states : ℕ → ThreadState) (o : ListObject) (action : Option Effect) → Steps ⊥ action → is_step (returned_of (perform thread states o action).answer) ≡ true
ruled_steps thread states o None never = absurd never
ruled_steps thread states o (Some effect) steps = steps

module _ (t : Table) where
  -- what is no step leaves the table
  abbrev Leaves : TurnOf Table → Type 0
  Leaves result = is_step (returned result.reply) ≡ false → result.table ≡ t

  acts_leave : (n number : ℕ) (object : ObjectRecord) (action : Option Effect) → Steps Unit action → Leaves (step_acts t n number object action)
  acts_leave n number object None steps none = refl
  acts_leave n number object (Some effect) steps none = false≢true (sym none ∙ steps)

  reads_leave : (n number : ℕ) (object : ObjectRecord) (doing : Doing) (word : Option LockWord) → Leaves (step_reads t n number object doing word)
  reads_leave n number object doing None = λ none. refl
  reads_leave n number object doing (Some word) = acts_leave n number object (decide n (sight_at t object word) doing) (decide_steps n (sight_at t object word) doing)

  pub no_step_leaves : sound_of t ≡ true → (event : Event) → is_step (reply_returned (handle t event).reply) ≡ false → (handle t event).table ≡ t
  no_step_leaves sound event none =
      let same = event_is_turn t sound event in
      ap (λ (result : TurnOf Table). result.table) same
      ∙ by_event record_kind t.threadcount t.objectcount t (λ event. Leaves) (λ event refusal high none. refl)
      (λ number limit operation given n o asked fits low high real small idle none. false≢true (sym none))
      (λ n doing low high running. reads_leave n (thread_at t n).object (object_at t (thread_at t n).object) doing (read_word (object_at t (thread_at t n).object).word))
      (λ none. false≢true (sym none)) event
      (ap is_step (ap (λ (result : TurnOf Table). returned result.reply) (sym same) ∙ returned_shown (handle t event).reply (handle t event).commits) ∙ none)

-- an event keeps the sizes
pub sizes_kept : (t : Table) → WellTyped t → sound_of t ≡ true → (event : Event)
    → let after = (handle t event).table in (after.threadcount ≡ t.threadcount) × (after.objectcount ≡ t.objectcount)
sizes_kept t typed sound event = let (lists, represents, fine) = event_represents t typed sound event in (represents.threadcount, represents.objectcount)

-- the step of a thread at its look is one
look_is_step : (t : Table) → WellTyped t → sound_of t ≡ true → (n : ℕ) → 1 ≤ n → n ≤ t.threadcount → (operation : Operation)
    → read_thread (thread_at t n) ≡ Running (begun_doing operation Unlimited) → is_step (reply_returned (handle t (Step n)).reply) ≡ true
look_is_step t typed sound n low high operation looks =
    let threads = t.threadcount in
    let objects = t.objectcount in
    let (lists, represents, fine) = read t typed sound in
    let home = (lists.threads n).object in
    let state = sym (state_is threads objects t lists represents fine n) ∙ looks in
    let stepped = own_step threads objects lists n low high (lists.threads n).state refl ∙ ap (step_thread list_kind lists n) state in
    ap is_step
    ((told threads objects t lists represents fine (Step n) (event_is_turn t sound (Step n))).number ∙ ap (λ (result : TurnOf ListTable). returned result.reply) stepped)
    ∙ ruled_steps n (states_at lists home) (lists.objects home) (decide_at lists home n (begun_doing operation Unlimited)) (look_steps n (sight_of (lists.objects home)) operation Unlimited)

-- what begins an operation of a script leaves its thread at a look
begun_looks : (own : ThreadRecord) (operation object : ℕ) → (1 ≤ operation) × (operation ≤ script_operations)
    → (asked : Operation) × (read_thread (begun own (operation_from operation) object 0) ≡ Running (begun_doing asked Unlimited))
unfolding operation_from state_by look_of limit_of
begun_looks own zero object known = absurd (omega (arith, known.0))
begun_looks own (suc zero) object known = (Enter, refl)
begun_looks own (suc (suc zero)) object known = (Exit, refl)
begun_looks own (suc (suc (suc zero))) object known = (Wait, refl)
begun_looks own (suc (suc (suc (suc zero)))) object known = (Notify, refl)
begun_looks own (suc (suc (suc (suc (suc zero))))) object known = (NotifyAll, refl)
begun_looks own (suc (suc (suc (suc (suc (suc more)))))) object known = absurd (omega (arith, known.1))

-- one of a script's operations, which an idle thread may begin
pub record MayBegin (t : Table) (n operation object : ℕ) : Type 0 where
  pub real : 1 ≤ n
  pub inside : n ≤ t.threadcount
  pub idle : thread_status (thread_at t n).phase ≡ Idle
  pub operations : (1 ≤ operation) × (operation ≤ script_operations)
  pub objects : (1 ≤ object) × (object ≤ t.objectcount)

module _ (t : Table) (typed : WellTyped t) (sound : sound_of t ≡ true) (n operation object : ℕ) (may : MayBegin t n operation object) where
  abbrev event : Event
  event = Begin operation n object 0

  abbrev own : ThreadRecord
  own = begun (thread_at t n) (operation_from operation) object 0

  -- nothing refuses it; its limit is not looked at
  begin_open : gate true t.threadcount t.objectcount event Idle ≡ (Ok tt)
  begin_open =
      let (low, high) = may.operations in
      rw (
        le-leb 1 n may.real,
        le-leb n t.threadcount may.inside,
        le-leb 1 operation low,
        le-leb operation operation_limit (omega (arith, high)),
        le-leb 1 object may.objects.0,
        le-leb object t.objectcount may.objects.1,
        ne_eqb operation operation_limit (λ e. omega (arith, high, e)),
      )
      refl

  pub begin_taken : handle t event ≡ record { table = set_thread t n own; reply = Accepted; commits = false; unparked = 0 }
  unfolding handle handle_trusting gate_turn open_turn work_stays stays
  begin_taken =
      rw (sound, le-leb t.threadcount thread_limit (sizes t sound).0, may.idle, begin_open)
      (λ j. record { table = begin_settles t n object (operation_from operation) 0 j; reply = Accepted; commits = false; unparked = 0 })

  -- and the next step is one
  pub begun_steps : is_step (reply_returned (handle (handle t event).table (Step n)).reply) ≡ true
  begun_steps =
      let is : thread_at (handle t event).table n ≡ own =
      ap (λ (outcome : Outcome). thread_at outcome.table n) begin_taken
      ∙ (ap (λ (f : ℕ → ThreadRecord). f n) (thread_set t n own typed.threads may.real (omega (arith, may.inside, (sizes t sound).0))) ∙ update_same (thread_at t) n own) in
      let (asked, looks) = begun_looks (thread_at t n) operation object may.operations in
      look_is_step (handle t event).table (well_typed_kept t typed sound event) (sound_kept t typed sound event) n may.real (rw (sizes_kept t typed sound event).0 may.inside) asked
      (ap read_thread is ∙ looks)
