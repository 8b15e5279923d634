-- Parting.antt, Queueing.antt, Moving.antt and Perform.antt as the code does them, one record at a time, which it reads and writes at its place. Nothing of this is
-- needed to say what a step does.
use Rattle.std.specs.Prelude.{ℕ, List, eqb, ltb, get_or}
use Rattle.laws.specs.Choice.{pick}
use Rattle.lock_rules.specs.declared.ChainWork.{ChainWork}
use Rattle.lock_table.specs.Limits.{thread_limit, object_limit}
use Rattle.lock_table.specs.Record.{no_thread, with_next, with_monitor}
use Rattle.lock_table.specs.Place.{thread_place}
use Rattle.lock_table.specs.declared.record.ThreadRecord.{ThreadRecord}
use Rattle.lock_table.specs.declared.record.ObjectRecord.{ObjectRecord}
use Rattle.lock_table.specs.declared.record.Monitor.{Monitor}
use Rattle.lock_perform.specs.Moving.{touched, plan}
use Rattle.lock_perform.specs.declared.moving.ChainPlan.{ChainPlan}

-- what is read and written for a number: number 0 and numbers past the end have no record
unfoldable pub if_record : ℕ → ThreadRecord → ThreadRecord → ThreadRecord
if_record number there other = pick (eqb number 0) other (pick (ltb thread_limit number) other there)

-- the plan by the record that is at the place of the changed one; where nobody's changes, that record stays
abbrev pub plan_at : ChainWork → Monitor → ℕ → ℕ → ThreadRecord → ChainPlan
plan_at work monitor thread object there =
    let number = touched work monitor in
    let planned = plan work monitor thread object (if_record number there no_thread) in
    record {
      changed = if_record number planned.changed there;
      monitor = planned.monitor;
      unparked = planned.unparked;
      back = planned.back;
      into = planned.into;
    }

-- a record read at the place of a number, from the records alone
abbrev pub record_in : List ThreadRecord → ℕ → ThreadRecord
record_in threads n = get_or threads (thread_place n) no_thread

-- what is written at the place of the last thread of a chain, where `there` is what stood there
abbrev pub linked_to : ℕ → ThreadRecord → ℕ → ThreadRecord
linked_to last there thread = if_record last (with_next there thread) there

-- what is written at the places of the two records, where `there` is what stood there after the work
abbrev pub own_written : ℕ → ThreadRecord → ThreadRecord → ThreadRecord
own_written thread own there = if_record thread (with_next own there.next) there

unfoldable pub if_object : ℕ → ObjectRecord → ObjectRecord → ObjectRecord
if_object number there other = pick (eqb number 0) other (pick (ltb object_limit number) other there)

abbrev pub object_written : ℕ → ObjectRecord → Monitor → ObjectRecord → ObjectRecord
object_written number object monitor there = if_object number (with_monitor object monitor) there
