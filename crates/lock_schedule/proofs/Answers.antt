-- The answer of a thread's own event fits the thread after it: from the tables with lists.
use Prim.Native.Nat.{ℕ}
use mathlib.Core.Path.{◌≡◌, refl, sym, ap, ◌∙◌}
use mathlib.Core.Bool.{true}
use borrow.Author.Tests.{eq-eqb}
use Rattle.lock_rules.specs.{Numbers.phase_of, RunQueue.own_event}
use Rattle.lock_rules.specs.declared.event.Event.{Event}
use Rattle.lock_rules.specs.declared.event.Event.TheVariants.{Begin, Step}
use Rattle.lock_rules.specs.declared.ThreadState.TheVariants.{Idle}
use Rattle.lock_rules.proofs.Tables.{turn}
use Rattle.lock_rules.proofs.AnswerFits.{turn_fits}
use Rattle.lock_table.specs.{Access.phase_number_at, WellTyped.WellTyped}
use Rattle.lock_table.specs.declared.record.Table.{Table}
use Rattle.lock_soundness.specs.Sound.{sound_of}
use Rattle.lock_records.proofs.{SoundRepresents.sound_represents, Claim.phase_is}
use Rattle.lock_records.proofs.Parking.{so_parked, so_runs}
use Rattle.lock_engine.specs.{Outcome.reply_returned, Handle.handle}
use Rattle.lock_schedule.specs.Answers.{AnswerFits, AnswersFit}
use Rattle.lock_schedule.proofs.EngineKind.{event_is_turn}
use Rattle.lock_schedule.proofs.Interpreter.{told}

-- an event of thread n: a step, or a begin that is accepted
event_fits : (t : Table) → WellTyped t → sound_of t ≡ true → (n : ℕ) (event : Event)
    → own_event event (reply_returned (handle t event).reply) n ≡ true → AnswerFits n (handle t event)
event_fits t typed sound n event own =
    let threads = t.threadcount in
    let objects = t.objectcount in
    let (lists, represents, fine) = sound_represents t typed.threads typed.objects (λ o real inside. typed.depths o) sound in
    let one = told threads objects t lists represents fine event (event_is_turn t sound event) in
    let after = (turn threads objects lists event).table in
    let fits = turn_fits threads objects lists fine n event (sym (ap (λ (number : ℕ). own_event event number n) one.number) ∙ own) in
    let idle : (after.threads n).state ≡ Idle → phase_number_at (handle t event).table n ≡ 0 = λ e.
    phase_is threads objects (handle t event).table after one.represents one.sound n ∙ ap phase_of e in
    record {
      gone_on = λ e. so_runs threads objects (handle t event).table after one.represents one.sound n (fits.gone_on (sym one.number ∙ e));
      finished = λ e. idle (fits.finished (sym one.number ∙ e));
      parked = λ e. so_parked threads objects (handle t event).table after one.represents one.sound n (fits.parked (sym one.number ∙ e));
      not_owner = λ e. idle (fits.not_owner (sym one.number ∙ e));
      too_deep = λ e. idle (fits.too_deep (sym one.number ∙ e));
    }

pub answers_fit : AnswersFit
unfolding own_event
answers_fit t typed sound n = (
  event_fits t typed sound n (Step n) (eq-eqb n n refl),
  λ operation object limit accepted. (event_fits t typed sound n (Begin operation n object limit) (rw (eq-eqb n n refl, accepted) refl)).gone_on accepted,
)
