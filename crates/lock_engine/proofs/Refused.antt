-- An event that the gate refuses leaves the table as it is.
use Prim.Native.Nat.{ℕ}
use mathlib.Core.Path.{◌≡◌, refl}
use mathlib.Core.Bool.{Bool, false}
use Rattle.lock_rules.specs.Gate.{gate, event_thread, event_object}
use Rattle.lock_rules.specs.declared.event.{Event.Event, Refusal.Refusal}
use Rattle.std.specs.Prelude.{Err}
use Rattle.lock_table.specs.Access.{thread_at, object_at}
use Rattle.lock_table.specs.declared.record.Table.{Table}
use Rattle.lock_table.proofs.Records.{thread_unchanged, object_unchanged}
use Rattle.lock_perform.specs.Perform.{stays}
use Rattle.lock_engine.specs.Turn.{refused, gate_turn}
use Rattle.lock_gate.specs.Status.{thread_status}
use Rattle.lock_work.specs.Work.{work_stays}
use Rattle.lock_engine.specs.Handle.{trusted, outcome_of, handle_trusting}
use Rattle.lock_engine.specs.declared.outcome.Reply.TheVariants.{Refused}
use Rattle.lock_engine.specs.declared.outcome.Outcome.{Outcome}

abbrev pub refusing : Table → Refusal → Outcome
refusing table refusal = record { table = table; reply = Refused refusal; commits = false; unparked = 0 }

-- a turn that is refused, of the records that stand there
pub refused_stays : (t : Table) (n o : ℕ) (refusal : Refusal) → outcome_of t n o (refused (thread_at t n) (object_at t o) refusal) ≡ refusing t refusal
unfolding work_stays stays
refused_stays t n o refusal = rw (thread_unchanged t n, object_unchanged t o) refl

module _ (t : Table) (event : Event) (issound : Bool) where
  pub handle_shut : (refusal : Refusal)
      → gate (trusted t issound) t.threadcount t.objectcount event (thread_status (thread_at t (event_thread event)).phase) ≡ Err refusal
      → handle_trusting t event issound ≡ refusing t refusal
  unfolding handle_trusting gate_turn
  handle_shut refusal shut =
      rw shut (refused_stays t (event_thread event) (event_object event (thread_at t (event_thread event)).object) refusal)
