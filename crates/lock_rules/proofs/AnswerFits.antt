-- What the number that a thread's own event returns says of the thread's state after it.
use Prim.Native.Nat.{ℕ}
use mathlib.Core.Path.{◌≡◌, sym, ◌∙◌}
use mathlib.Core.Bool.{true, false}
use native.Mathlib.Omega.{arith}
use lib.Dec.{eqb}
use borrow.Author.Tests.{eq-eqb}
use Rattle.laws.proofs.Choice.{false≢true}
use Rattle.lock_rules.specs.Numbers.{refusal_number, returned_of}
use Rattle.lock_rules.specs.{Events.returned, RunQueue.own_event}
use Rattle.lock_rules.specs.declared.{ThreadState.ThreadState, Answer.Answer}
use Rattle.lock_rules.specs.declared.ThreadState.TheVariants.{Idle}
use Rattle.lock_rules.specs.declared.Answer.TheVariants.{GoneOn, Finished, Parked, NotOwner, TooDeep, NoRule}
use Rattle.lock_rules.specs.declared.event.{Event.Event, Refusal.Refusal}
use Rattle.lock_rules.proofs.RefusalNumbers.{of_gate}
use Rattle.lock_rules.proofs.Status.{unparked, Runs}
use Rattle.lock_rules.proofs.SoundEffects.{Answers}
use Rattle.lock_rules.proofs.TableKinds.{TurnOf, by_event}
use Rattle.lock_rules.proofs.Tables.{ListTable, perform_at, list_kind, turn}
use Rattle.lock_rules.proofs.ListSound.{SoundTable}
use Rattle.lock_rules.proofs.Unparks.{begun_turned, step_turned}

pub record Fits (number : ℕ) (state : ThreadState) : Type 0 where
  pub gone_on : number ≡ returned_of GoneOn → Runs state
  pub finished : number ≡ returned_of (Finished 0) → state ≡ Idle
  pub parked : number ≡ returned_of Parked → unparked state ≡ false
  pub not_owner : number ≡ returned_of NotOwner → state ≡ Idle
  pub too_deep : number ≡ returned_of TooDeep → state ≡ Idle

-- a number from 11 up that is neither 18 nor 19 says nothing
refused_fits : (refusal : Refusal) (state : ThreadState) → Fits (refusal_number refusal) state
refused_fits refusal state =
    let numbers = of_gate refusal in
    record {
      gone_on = λ e. absurd (omega (arith, numbers.high, e));
      finished = λ e. absurd (omega (arith, numbers.high, e));
      parked = λ e. absurd (omega (arith, numbers.high, e));
      not_owner = λ e. absurd (numbers.owner e);
      too_deep = λ e. absurd (numbers.shallow e);
    }

-- numbers that differ
never : {A : Type 0} {a b : ℕ} → eqb a b ≡ false → a ≡ b → A
never {a = a} {b = b} apart e = false≢true (sym apart ∙ eq-eqb a b e)

-- no two answers that say different things have the same number
answer_fits : (answer : Answer) (state : ThreadState) → Answers answer state → Fits (returned_of answer) state
answer_fits GoneOn state says = search (never)
answer_fits (Finished woken) state says = search (never)
answer_fits Parked state says = search (never)
answer_fits NotOwner state says = search (never)
answer_fits TooDeep state says = search (never)
answer_fits NoRule state says = search (never)

module _ (threads objects : ℕ) (table : ListTable) (sound : SoundTable threads objects table) (n : ℕ) where
  -- of thread n, where the event is one of its own: a step, or a begin that is accepted
  abbrev FitsAfter : Event → TurnOf ListTable → Type 0
  FitsAfter event result = own_event event (returned result.reply) n ≡ true → Fits (returned result.reply) (result.table.threads n).state

  pub turn_fits : (event : Event) → FitsAfter event (turn threads objects table event)
  unfolding own_event
  turn_fits =
      by_event list_kind threads objects table FitsAfter (λ event refusal high own. refused_fits refusal (table.threads n).state)
      (λ number limit operation given t o asked fits low high real small idle own.
      answer_fits GoneOn _ ((begun_turned threads objects table sound n number limit operation given t o idle).own own))
      (λ t doing low high running own. answer_fits (perform_at table (table.threads t).object t doing).answer _ ((step_turned threads objects table sound n t doing low high running).own own)) (λ own. false≢true own)
