-- What the answer of a thread's own event says of the thread after it (document 01, "Returned first"): on every sound table, reached by a schedule or not.
use Rattle.std.specs.Prelude.{ℕ, ◌≡◌, true}
use Rattle.lock_rules.specs.declared.event.Event.TheVariants.{Begin, Step}
use Rattle.lock_table.specs.Access.{phase_number_at}
use Rattle.lock_table.specs.WellTyped.{WellTyped}
use Rattle.lock_table.specs.declared.record.Table.{Table}
use Rattle.lock_soundness.specs.Sound.{sound_of}
use Rattle.lock_records.specs.Unparked.{Parked, CanStep}
use Rattle.lock_engine.specs.Outcome.{reply_returned}
use Rattle.lock_engine.specs.Handle.{handle}
use Rattle.lock_engine.specs.declared.outcome.Outcome.{Outcome}

-- of thread n, whose event it was
pub record AnswerFits (n : ℕ) (outcome : Outcome) : Type 0 where
  -- "begun, or gone on": it can take a step
  pub gone_on : reply_returned outcome.reply ≡ 0 → CanStep outcome.table n
  -- "operation finished .. thread idle"
  pub finished : reply_returned outcome.reply ≡ 1 → phase_number_at outcome.table n ≡ 0
  -- "thread parked"
  pub parked : reply_returned outcome.reply ≡ 2 → Parked outcome.table n
  -- "not the owner", "enter at depth 65,535": "thread idle"
  pub not_owner : reply_returned outcome.reply ≡ 18 → phase_number_at outcome.table n ≡ 0
  pub too_deep : reply_returned outcome.reply ≡ 19 → phase_number_at outcome.table n ≡ 0

-- a step of thread n, and a begin that is accepted
abbrev pub AnswersFit : Type 0
AnswersFit =
    (table : Table) → WellTyped table → sound_of table ≡ true → (n : ℕ)
    → AnswerFits n (handle table (Step n))
    × ((operation object limit : ℕ) → let outcome = handle table (Begin operation n object limit) in reply_returned outcome.reply ≡ 0 → CanStep outcome.table n)
