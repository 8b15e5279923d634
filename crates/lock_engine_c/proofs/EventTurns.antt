-- An event by its turn: what the code's locals are when the turn has been stored gives what the definitions say.
use Prim.Native.Nat.{ℕ}
use mathlib.Core.Path.{◌≡◌, ap, ◌∙◌}
use mathlib.Core.Bool.{Bool}
use mathlib.Core.List.{List}
use Rattle.laws.specs.Choice.{pick}
use Rattle.lock_rules.specs.Gate.{event_thread, event_object}
use Rattle.lock_rules.specs.declared.event.Event.{Event}
use Rattle.lock_table.specs.Access.{thread_at, object_at}
use Rattle.lock_table.specs.declared.record.{ThreadRecord.ThreadRecord, ObjectRecord.ObjectRecord, Table.Table}
use Rattle.lock_soundness.specs.Sound.{sound_of}
use Rattle.lock_engine.specs.Outcome.{reply_returned, reply_woken}
use Rattle.lock_work.specs.Work.{work_stays}
use Rattle.lock_engine.specs.Handle.{turn_with, work_done_of, handle_trusting, handle}
use Rattle.lock_engine.specs.declared.turning.Turn.{Turn}
use Rattle.event_bytes.specs.Answer.{packed_of}
use Rattle.lock_engine_c.specs.Calls.{outcome_answer, reply_changes, event_number, event_turn, store_turn}

module _ (event : Event) {first table : Table} {thread number : ℕ} {own : ThreadRecord} {object : ObjectRecord} {issound : Bool} {turn : Turn}
    (table_is : table ≡ first) (thread_is : thread ≡ event_thread event) (own_is : own ≡ thread_at first thread)
    (number_is : number ≡ event_object event own.object) (object_is : object ≡ object_at first number) (sound_is : issound ≡ sound_of table)
    (turn_is : turn ≡ turn_with table event issound own object) where
  own_same : own ≡ thread_at first (event_thread event)
  own_same = own_is ∙ ap (thread_at first) thread_is

  number_same : number ≡ event_number first event
  number_same = number_is ∙ ap (λ (said : ThreadRecord). event_object event said.object) own_same

  turn_same : turn ≡ event_turn first event
  turn_same =
      turn_is
      ∙ (λ j. turn_with (table_is j) event ((sound_is ∙ ap sound_of table_is) j) (own_same j) ((object_is ∙ ap (object_at first) number_same) j))

  pub turn_answers :
      packed_of (reply_returned turn.reply) (reply_woken turn.reply) turn.commits
      (pick (work_stays turn.work) 0 (work_done_of table thread number turn).unparked)
      ≡ outcome_answer (handle first event)
  unfolding handle handle_trusting
  turn_answers =
      λ j. packed_of (reply_returned (turn_same j).reply) (reply_woken (turn_same j).reply) (turn_same j).commits
      (pick (work_stays (turn_same j).work) 0 (work_done_of (table_is j) (thread_is j) (number_same j) (turn_same j)).unparked)

  pub turn_stores : (bytes : List ℕ)
      → store_turn bytes table thread number turn (reply_changes turn.reply)
      ≡ store_turn bytes first (event_thread event) (event_number first event) (event_turn first event) (reply_changes (event_turn first event).reply)
  turn_stores bytes = λ j. store_turn bytes (table_is j) (thread_is j) (number_same j) (turn_same j) (reply_changes (turn_same j).reply)
