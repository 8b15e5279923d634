-- An outcome with the number it is refused with and the table that it leaves: of a refusal before any rule, and of what a rule decided.
use Prim.Native.Nat.{ℕ, ◌≤◌}
use mathlib.Core.Path.{◌≡◌, refl, sym, ap, ◌∙◌, subst}
use mathlib.Core.Logic.{◌≢◌}
use native.Mathlib.Omega.{arith}
use borrow.Author.Tests.{ne_eqb, le-leb}
use Rattle.lock_word.specs.declared.reading.LockWord.{LockWord}
use Rattle.std.specs.Prelude.{Option, Some, None}
use Rattle.lock_rules.specs.declared.{Answer.Answer, Effect.Effect}
use Rattle.lock_rules.specs.declared.ChainWork.TheVariants.{Stay}
use Rattle.lock_rules.specs.declared.Answer.TheVariants.{GoneOn, Finished, Parked, NotOwner, TooDeep, NoRule}
use Rattle.lock_rules.specs.Numbers.{refusal_number}
use Rattle.lock_rules.proofs.RefusalNumbers.{of_gate}
use Rattle.lock_rules.specs.declared.event.{Event.Event, Refusal.Refusal}
use Rattle.lock_rules.specs.declared.event.Event.TheVariants.{Begin, Step, Tick}
use Rattle.lock_table.specs.Access.{thread_at, object_at}
use Rattle.lock_table.specs.declared.record.{ThreadRecord.ThreadRecord, Table.Table}
use Rattle.laws.specs.Choice.{pick}
use Rattle.lock_perform.specs.{Sight.sight_at, Moving.carry_out, Perform.stays, Perform.object_after}
use Rattle.lock_table.proofs.Records.{object_unchanged, thread_unchanged}
use Rattle.lock_perform.proofs.Performed.{perform_of}
use Rattle.lock_records.proofs.Settled.{settled_performs}
use Rattle.lock_engine.specs.{Outcome.reply_returned, Turn.action_turn}
use Rattle.lock_work.specs.Work.{work_stays, work_done}
use Rattle.lock_engine.specs.Handle.{outcome_of}
use Rattle.lock_engine.specs.declared.outcome.Reply.TheVariants.{Answered}
use Rattle.lock_engine.specs.declared.outcome.Outcome.{Outcome}
use Rattle.lock_engine.proofs.Refused.{refusing}
use Rattle.lock_refusals.specs.Demand.{returned, Leaves}
use Rattle.lock_refusals.specs.Interpreter.{CarriesNone}
use Rattle.lock_refusals.proofs.Rows.{refused_number}
use Rattle.lock_refusals.proofs.RuleEnds.{EndsAs, Ends}
use Rattle.lock_refusals.proofs.IdleAgain.{idle_again_performed}

-- an event that is refused with this number, 0 if it is not, and what it leaves
pub record Ended (table : Table) (event : Event) (outcome : Outcome) (number : ℕ) : Type 0 where
  pub refused : refused_number (returned outcome) ≡ number
  pub left : Leaves table event outcome
  pub nobody : CarriesNone outcome

-- the same of an event that comes to no rule: refused, it leaves the table as it is and unparks nobody, and it is not refused with 18 or 19
pub record EndedSame (table : Table) (outcome : Outcome) (number : ℕ) : Type 0 where
  pub refused : refused_number (returned outcome) ≡ number
  pub same : 11 ≤ returned outcome → outcome.table ≡ table
  pub nobody : outcome.unparked ≡ 0
  pub before_rule : (returned outcome ≢ 18) × (returned outcome ≢ 19)

pub same_ended : {table : Table} {outcome : Outcome} {number : ℕ} (event : Event) → EndedSame table outcome number → Ended table event outcome number
same_ended {table} {outcome} event ended = record { refused = ended.refused; left = at event; nobody = λ high. ended.nobody }
  where
    at : (event : Event) → Leaves table event outcome
    at (Begin operation thread object limit) high = ended.same high
    at (Step thread) high =
        let (owner, shallow) = ended.before_rule in
        simp (ne_eqb (returned outcome) 18 owner, ne_eqb (returned outcome) 19 shallow) (ended.same high)
    at Tick high = ended.same high

pub refuse_same : (table : Table) (refusal : Refusal) → EndedSame table (refusing table refusal) (refusal_number refusal)
unfolding reply_returned
refuse_same table refusal =
    let numbers = of_gate refusal in
    record { refused = rw (le-leb 11 (refusal_number refusal) numbers.high) refl; same = λ high. refl; nobody = refl; before_rule = (numbers.owner, numbers.shallow) }

pub refuse_ended : (table : Table) (event : Event) (refusal : Refusal) → Ended table event (refusing table refusal) (refusal_number refusal)
refuse_ended table event refusal = same_ended event (refuse_same table refusal)

module _ (table : Table) (thread : ℕ) where
  abbrev own : ThreadRecord
  own = thread_at table thread

  abbrev o : ℕ
  o = own.object

  -- the table and the answer of an effect; without work on chains it unparks nobody
  performed_ended : (word : LockWord) (effect : Effect) (answer : Answer) (number unparked : ℕ) → (effect.work ≡ Stay → unparked ≡ 0)
      → EndsAs (sight_at table (object_at table o) word) effect answer number
      → Ended table (Step thread)
      (record { table = perform_of table thread o (object_at table o) effect; reply = Answered answer; commits = effect.commits; unparked = unparked }) number
  unfolding reply_returned
  performed_ended word effect GoneOn number unparked unworked none =
      record { refused = sym none; left = λ high. absurd (omega (arith, high)); nobody = λ high. absurd (omega (arith, high)) }
  performed_ended word effect (Finished woken) number unparked unworked none =
      record { refused = sym none; left = λ high. absurd (omega (arith, high)); nobody = λ high. absurd (omega (arith, high)) }
  performed_ended word effect Parked number unparked unworked none =
      record { refused = sym none; left = λ high. absurd (omega (arith, high)); nobody = λ high. absurd (omega (arith, high)) }
  performed_ended word effect NotOwner number unparked unworked (is, same) =
      record {
        refused = sym is;
        left = λ high. ap (perform_of table thread o (object_at table o)) same ∙ idle_again_performed table thread o word NotOwner;
        nobody = λ high. unworked (ap (λ (effect : Effect). effect.work) same);
      }
  performed_ended word effect TooDeep number unparked unworked (is, same) =
      record {
        refused = sym is;
        left = λ high. ap (perform_of table thread o (object_at table o)) same ∙ idle_again_performed table thread o word TooDeep;
        nobody = λ high. unworked (ap (λ (effect : Effect). effect.work) same);
      }
  performed_ended word effect NoRule number unparked unworked never = absurd never

  -- what a rule decided, carried out
  pub action_ended : (word : LockWord) (action : Option Effect) (number : ℕ) → Ends (sight_at table (object_at table o) word) action number
      → Ended table (Step thread) (outcome_of table thread o (action_turn thread own (object_at table o) action)) number
  unfolding action_turn reply_returned work_stays work_done stays
  action_ended word None number ends =
      record { refused = sym ends; left = λ high. rw (thread_unchanged table thread, object_unchanged table o) refl; nobody = λ high. refl }
  action_ended word (Some effect) number ends =
      let unparked = pick (stays effect.work) 0 (carry_out table (object_after thread o (object_at table o) effect).monitor effect.work thread o).unparked in
      subst (λ (after : Table). Ended table (Step thread) (record { table = after; reply = Answered effect.answer; commits = effect.commits; unparked = unparked }) number)
      (sym (settled_performs table thread o (object_at table o) effect))
      (performed_ended word effect effect.answer number unparked (λ stay. rw (stay) refl) ends)
