-- An enter finishes in phase 1 on a free, a flat or an anonymous word, or in phase 2, 4, 6 or 7: its way is one of the five.
use Prim.Native.Nat.{ℕ}
use mathlib.Core.Path.{◌≡◌, ap, subst}
use mathlib.Core.Logic.{◌≢◌}
use mathlib.Core.Bool.{true}
use native.Mathlib.Omega.{arith}
use lib.Dec.{eqb, ltb}
use Rattle.laws.specs.Choice.{within}
use Rattle.laws.proofs.Choice.{by_test, false≢true}
use Rattle.lock_word.specs.Layout.{count_limit}
use Rattle.lock_word.specs.Meaning.{kept_count, seen_word}
use Rattle.lock_word.specs.Read.{read_word}
use Rattle.lock_word.specs.declared.reading.LockWord.TheVariants.{Free as FreeWord, Flat as FlatWord, Anonymous as AnonymousWord}
use Rattle.lock_word.specs.declared.reading.LockWord.TheVariants.{Reserved as ReservedWord, Fat as FatWord}
use Rattle.std.specs.Prelude.{Option, Some, None}
use Rattle.lock_word.specs.declared.reading.LockWord.{LockWord}
use Rattle.lock_word.specs.declared.meaning.WordSeen.{WordSeen}
use Rattle.lock_word.specs.declared.meaning.WordSeen.TheVariants.{Fat, Reserved}
use Rattle.lock_rules.specs.Rules.{enter_look, cancel, decide}
use Rattle.lock_rules.specs.declared.Effect.{Effect}
use Rattle.lock_rules.specs.declared.{Suspension.Suspension, Sight.Sight}
use Rattle.lock_rules.specs.declared.Doing.TheVariants.{EnterLook, EnterCancel}
use Rattle.lock_rules.specs.declared.event.Refusal.TheVariants.{NotSound}
use Rattle.lock_rules.proofs.Each.{each_word}
use Rattle.lock_table.specs.Limits.{object_limit}
use Rattle.lock_table.specs.Phase.{phase_number}
use Rattle.lock_table.specs.Access.{thread_at, object_at}
use Rattle.lock_table.specs.declared.operation.Operation.{Operation}
use Rattle.lock_table.specs.declared.operation.Operation.TheVariants.{Enter}
use Rattle.lock_table.specs.declared.phase.Phase.{Phase}
use Rattle.lock_table.specs.declared.phase.Phase.TheVariants.{Idle, Look, Store, Cancel, GoIn, Queued, Check, Try, Contending, Test, Tell}
use Rattle.lock_table.specs.declared.phase.Phase.TheVariants.{Leave, Inflate, GiveUp, Waiting, Resume}
use Rattle.lock_table.specs.declared.record.{ThreadRecord.ThreadRecord, ObjectRecord.ObjectRecord, Table.Table}
use Rattle.lock_soundness.specs.Sound.{uses_phase}
use Rattle.lock_perform.specs.State.{limit_of, look_of, cancel_of, state_by}
use Rattle.lock_engine.specs.Outcome.{reply_returned}
use Rattle.lock_engine.specs.Turn.{action_turn, word_turn, state_turn, step_turn}
use Rattle.lock_engine.specs.Handle.{waiters_of}
use Rattle.lock_engine.specs.declared.turning.Turn.{Turn}
use Rattle.report_tally.specs.Way.{finished_number, way_by_meaning, way_by_word, way_of}
use Rattle.report_tally.specs.declared.way.Way.{Way}
use Rattle.report_tally.specs.declared.way.Way.TheVariants.{NoEnter}
use Rattle.report_counts.specs.Enters.{step_enters}
use Rattle.report_counts.specs.Report.{way_number}
use Rattle.report_tally.proofs.RefusalOther.{refusal_other}
use Rattle.report_counts.proofs.ReturnedOne.{entering}

-- a way whose number is not 0
other_way : {way : Way} → way_number way ≢ 0 → way ≢ NoEnter
unfolding way_number
other_way some is = some (ap way_number is)

module _ (thread : ℕ) (own : ThreadRecord) (object : ObjectRecord) where
  -- an action that does not finish its operation
  abbrev Unfinished : Option Effect → Type 0
  Unfinished action = reply_returned (action_turn thread own object action).reply ≢ finished_number

  -- phase 1 goes on where the word is reserved or fat
  look_fat : (sight : Sight) → Unfinished (enter_look thread sight Fat)
  unfolding enter_look action_turn reply_returned
  look_fat sight = omega arith

  look_reserved : (sight : Sight) (owner count : ℕ) → Unfinished (enter_look thread sight (Reserved owner count))
  unfolding enter_look action_turn reply_returned
  look_reserved sight owner count =
      by_test Unfinished (eqb owner thread) (λ same. by_test Unfinished (ltb count count_limit) (λ below. omega arith) (λ full. omega arith))
      (λ other. omega arith)

  -- phase 3 goes on whatever the word is
  cancel_goes_on : (sight : Sight) (word : WordSeen) → Unfinished (cancel sight EnterLook word)
  unfolding cancel action_turn reply_returned
  cancel_goes_on sight =
      each_word (λ word. Unfinished (cancel sight EnterLook word))
      (omega arith, omega arith, omega arith, λ owner count. omega arith, λ owner count. omega arith)

  module _ (waiters : ℕ) where
    cancel_word : (decoded : Option LockWord) → reply_returned (word_turn thread own object waiters EnterCancel decoded).reply ≢ finished_number
    unfolding word_turn decide reply_returned
    cancel_word None = refusal_other NotSound
    cancel_word (Some word) = cancel_goes_on _ (seen_word word)

    look_word : (decoded : Option LockWord) → reply_returned (word_turn thread own object waiters EnterLook decoded).reply ≡ finished_number
        → way_by_word decoded ≢ NoEnter
    unfolding word_turn decide reply_returned seen_word way_by_word way_by_meaning way_number
    look_word None is = absurd (refusal_other NotSound is)
    look_word (Some FreeWord) is = other_way (omega arith)
    look_word (Some (FlatWord owner count)) is = other_way (omega arith)
    look_word (Some AnonymousWord) is = other_way (omega arith)
    look_word (Some (ReservedWord owner count)) is = absurd (look_reserved _ owner.0 count is)
    look_word (Some (FatWord monitor)) is = absurd (look_fat _ is)

    -- by the phase, which is one that an enter uses
    phase_way : (phase : Phase) (count : ℕ) (suspension : Suspension) → uses_phase Enter (phase_number phase) ≡ true
        → reply_returned (state_turn thread own object waiters (state_by phase Enter count suspension)).reply ≡ finished_number
        → way_of phase object.word ≢ NoEnter
    unfolding uses_phase phase_number state_turn state_by look_of cancel_of reply_returned way_of way_number
    phase_way Idle count suspension other is = false≢true other
    phase_way Look count suspension uses is = look_word (read_word object.word) is
    phase_way Store count suspension uses is = other_way (omega arith)
    phase_way Cancel count suspension uses is = absurd (cancel_word (read_word object.word) is)
    phase_way GoIn count suspension uses is = other_way (omega arith)
    phase_way (Queued onward) count suspension uses is = absurd (refusal_other NotSound is)
    phase_way Check count suspension uses is = other_way (omega arith)
    phase_way Try count suspension uses is = other_way (omega arith)
    phase_way Contending count suspension uses is = absurd (refusal_other NotSound is)
    phase_way Test count suspension other is = false≢true other
    phase_way Tell count suspension other is = false≢true other
    phase_way Leave count suspension other is = false≢true other
    phase_way Inflate count suspension other is = false≢true other
    phase_way GiveUp count suspension other is = false≢true other
    phase_way Waiting count suspension other is = false≢true other
    phase_way Resume count suspension other is = false≢true other

    -- what the thread's record keeps, and that its step finishes, were its operation this one
    abbrev keeps : Operation → Suspension
    keeps operation = record { depth = own.saved; limit = limit_of operation own.ticks }

    abbrev Finishes : Operation → Type 0
    Finishes operation =
        let state = state_by own.phase operation (kept_count (read_word own.kept)) (keeps operation) in
        reply_returned (state_turn thread own object waiters state).reply ≡ finished_number

    -- by the thread's record, whose operation is enter
    turn_way : own.operation ≡ Enter → uses_phase Enter (phase_number own.phase) ≡ true
        → reply_returned (step_turn thread own object waiters).reply ≡ finished_number → way_of own.phase object.word ≢ NoEnter
    unfolding step_turn reply_returned
    turn_way enters uses =
        by_test (λ (turn : Turn). reply_returned turn.reply ≡ finished_number → way_of own.phase object.word ≢ NoEnter)
        (within 1 object_limit own.object) (λ inside is. phase_way own.phase _ (keeps Enter) uses (subst Finishes enters is))
        (λ outside is. absurd (refusal_other NotSound is))

-- FINISHED SOMEHOW
pub finished_somehow : (table : Table) (thread : ℕ) → step_enters table thread ≡ true
    → (way_of (thread_at table thread).phase (object_at table (thread_at table thread).object).word ≡ NoEnter → ⊥)
finished_somehow table thread finishes =
    let own = thread_at table thread in
    let object = object_at table own.object in
    let e = entering table thread finishes in turn_way thread own object (waiters_of table object) e.enters e.uses e.returned
