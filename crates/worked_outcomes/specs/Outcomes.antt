-- Examples of what the library for C stores of a reply and says of a lock word and of a parked thread, and of what the replay prints of an outcome.
use Rattle.std.specs.Prelude.{ℕ, ◌≡◌, true, false, Ok, Err}
use Rattle.lock_word.specs.Read.{read_word}
use Rattle.lock_rules.specs.declared.event.Refusal.{Refusal}
use Rattle.lock_rules.specs.declared.event.Refusal.TheVariants.{NotSound}
use Rattle.lock_engine.specs.Outcome.{reply_returned, reply_woken}
use Rattle.lock_engine.specs.declared.outcome.Outcome.{Outcome}
use Rattle.lock_engine.specs.declared.outcome.Reply.{Reply}
use Rattle.lock_engine.specs.declared.outcome.Reply.TheVariants.{Accepted, Refused}
use Rattle.event_bytes.specs.Answer.{packed_of}
use Rattle.dispatch_rules.specs.declared.DispatchRefusal.TheVariants.{QuantumOutOfRange}
use Rattle.lock_table.specs.Access.{object_at, set_object}
use Rattle.lock_table.specs.Fresh.{sized_request, table_of}
use Rattle.lock_table.specs.Record.{with_word}
use Rattle.lock_table.specs.declared.record.Table.{Table}
use Rattle.table_questions.specs.Questions.{kind_number, named_thread, blocker_of}
use Rattle.lock_engine_c.specs.Calls.{reply_changes}
use Rattle.lock_engine_c.specs.Dispatch.{run_answer}
use Rattle.replay_text.specs.declared.answer.Answer.TheVariants.{Alone, Ticked, Accepted as Printed}
use Rattle.replay_session.specs.Session.{phase_of, word_of, answer_with, after_event, after_tick}

-- an outcome with this reply
abbrev pub replied : Outcome → Reply → Outcome
replied outcome reply = record { table = outcome.table; reply = reply; commits = outcome.commits; unparked = outcome.unparked }

-- of two objects thread 1 owns the second; an event of it there unparked thread 4
abbrev pub second_owned : Table
second_owned = let fresh = (table_of (sized_request 4 2 false)) in set_object fresh 2 (with_word (object_at fresh 2) 0x000100)

abbrev pub told : Outcome
told = record { table = second_owned; reply = Accepted; commits = false; unparked = 0x00000008 }

pub record OutcomeExamples : Type 0 where
  -- a begin or a tick that was not refused is stored, a refused event is not
  pub stored : reply_changes Accepted ≡ true
  pub kept : (refusal : Refusal) → reply_changes (Refused refusal) ≡ false
  -- an answer for C has the set from bit 32 on: here thread 1 and thread 32
  pub answered : packed_of 2 0 true 0x80000001 ≡ 0x8000000100010002
  -- a run's answer for C has its steps from bit 8 on: here three steps, and a refused run
  pub ran : (table : Table) → run_answer (record { table = table; answer = Ok tt; steps = 3 }) ≡ 0x300
  pub run_refused : (table : Table) → run_answer (record { table = table; answer = Err QuantumOutOfRange; steps = 0 }) ≡ 25
  -- a word that is reserved for thread 3 names it, though nobody owns the object; and a word that is none has a kind of its own
  pub reserved_kind : kind_number (read_word 0x000302) ≡ 3
  pub reserved_named : named_thread (read_word 0x000302) ≡ 3
  pub no_lock_word : kind_number (read_word 0x000003) ≡ 5
  -- thread 1 is queued, thread 3 owns the object and thread 2 holds the monitor: the owner keeps an enter, the holder an exit; and nobody keeps itself
  pub enter_kept : blocker_of 1 5 1 3 2 ≡ 3
  pub exit_kept : blocker_of 2 5 1 3 2 ≡ 0x10002
  pub holder_kept : blocker_of 1 5 1 0 1 ≡ 0
  -- the phase is that of the thread, the word that of the object, the set that of the outcome
  pub printed : (outcome : Outcome) (thread object : ℕ)
      → (after_event outcome thread object).answer
      ≡ answer_with (reply_returned outcome.reply) (phase_of outcome.table thread) (reply_woken outcome.reply) (word_of outcome.table object) outcome.unparked
  pub printed_there : (after_event told 1 2).answer ≡ Printed 0 0 0 0x000100 0x00000008
  -- an accepted tick prints the set behind its number, a refused one its number alone
  pub ticked : (outcome : Outcome) → (after_tick (replied outcome Accepted)).answer ≡ Ticked 0 outcome.unparked
  pub tick_refused : (outcome : Outcome) → (after_tick (replied outcome (Refused NotSound))).answer ≡ Alone 11
