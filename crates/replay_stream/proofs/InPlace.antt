-- An event of a line carried out in place is what the line does: the table that the engine leaves, and what is printed by the records in it.
use Prim.Native.Nat.{ℕ}
use mathlib.Core.Path.{◌≡◌, refl, ap, ◌∙◌}
use mathlib.Core.Bool.{Bool, true}
use Rattle.laws.proofs.Choice.{false≢true}
use Rattle.lock_rules.specs.Gate.{event_thread, event_object}
use Rattle.lock_rules.specs.declared.event.Event.{Event}
use Rattle.lock_table.specs.Access.{thread_at, object_at}
use Rattle.lock_table.specs.declared.record.{Table.Table}
use Rattle.lock_engine.specs.Handle.{handle_trusting}
use Rattle.lock_engine.specs.declared.outcome.Outcome.{Outcome}
use Rattle.replay_lines.specs.declared.reading.Line.{Line}
use Rattle.replay_lines.specs.declared.reading.Line.TheVariants.{Header, Begin, Step, Tick, BadHeader, Malformed}
use Rattle.replay_text.specs.declared.answer.Answer.{Answer}
use Rattle.replay_session.specs.Trusting.{event_known, line_event, is_thread_event, runs_thread_event, turn_answer, run_by, react_by, react_trusting}
use Rattle.replay_session.specs.declared.session.Stage.{Stage}
use Rattle.replay_session.specs.declared.session.Stage.TheVariants.{Opening, Running, Over}

-- what the code's locals are when an event has been carried out: its thread, the object that it is about, and what the engine made of it
pub record Carried (table : Table) (event : Event) (issound : Bool) (thread number : ℕ) (outcome : Outcome) : Type 0 where
  pub thread_is : thread ≡ event_thread event
  pub number_is : number ≡ event_object event (thread_at table thread).object
  pub outcome_is : outcome ≡ handle_trusting table event issound

-- what is printed of it
abbrev pub printed_of : Outcome → ℕ → ℕ → Answer
printed_of outcome thread number = turn_answer outcome.reply (thread_at outcome.table thread).phase (object_at outcome.table number).word outcome.unparked

-- so the event is what was to be known of it
event_so : {table : Table} {event : Event} {issound : Bool} {thread number : ℕ} {outcome : Outcome}
    → Carried table event issound thread number outcome
    → record { session = record { stage = Running; table = outcome.table }; answer = printed_of outcome thread number } ≡ event_known table event issound
event_so carried = rw (carried.outcome_is, carried.number_is, carried.thread_is) refl

-- a line that is an event of a thread
pub event_line : (table : Table) (line : Line) (issound : Bool) → is_thread_event line ≡ true → event_known table (line_event line) issound ≡ run_by table line issound
unfolding is_thread_event line_event run_by
event_line table (Header threads objects reserved) issound is = false≢true is
event_line table (Begin operation thread object limit) issound is = refl
event_line table (Step thread) issound is = refl
event_line table Tick issound is = false≢true is
event_line table BadHeader issound is = false≢true is
event_line table Malformed issound is = false≢true is

-- A LINE IN PLACE
pub line_in_place : (stage : Stage) {table : Table} {line said : Line} {event : Event} {issound : Bool} {thread number : ℕ} {outcome : Outcome}
    → Carried table event issound thread number outcome → runs_thread_event stage line ≡ true → line ≡ said → event ≡ line_event line
    → record { session = record { stage = stage; table = outcome.table }; answer = printed_of outcome thread number }
    ≡ react_trusting (record { stage = stage; table = table }) said issound
unfolding runs_thread_event react_by
line_in_place Opening carried runs read asks = false≢true runs
line_in_place Running {table} {line} {issound = issound} carried runs read asks =
    event_so carried
    ∙ (ap (λ (event : Event). event_known table event issound) asks
    ∙ (event_line table line issound runs ∙ ap (λ (line : Line). run_by table line issound) read))
line_in_place Over carried runs read asks = false≢true runs
