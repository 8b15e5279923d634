-- An event of a line carried out in place is what the line does to a state: the replay prints it, and the report counts it.
use Prim.Native.Nat.{ℕ, ◌<◌}
use mathlib.Core.Path.{◌≡◌, refl, sym, ap, ◌∙◌}
use mathlib.Core.Bool.{Bool, true, false}
use lib.Dec.{ltb}
use borrow.Author.Tests.{ltb-true}
use Rattle.laws.specs.Choice.{either}
use Rattle.laws.proofs.Choice.{false≢true, both_first, both_second, either_no}
use Rattle.lock_rules.specs.declared.event.Event.{Event}
use Rattle.lock_table.specs.Phase.{phase_number}
use Rattle.lock_table.specs.Access.{thread_at, object_at}
use Rattle.lock_table.specs.Place.{object_place}
use Rattle.lock_table.specs.declared.record.Table.{Table}
use Rattle.lock_engine.specs.Outcome.{reply_returned, reply_woken}
use Rattle.lock_engine.specs.declared.outcome.Outcome.{Outcome}
use Rattle.replay_lines.specs.Grammar.{is_header}
use Rattle.replay_lines.specs.declared.reading.Line.{Line}
use Rattle.replay_lines.specs.declared.reading.Line.TheVariants.{Header, Begin, Step, Tick, BadHeader, Malformed}
use Rattle.replay_text.specs.declared.answer.Answer.{Answer}
use Rattle.replay_text.specs.declared.answer.Answer.TheVariants.{Silent}
use Rattle.replay_session.specs.Trusting.{line_event, is_thread_event, runs_thread_event}
use Rattle.replay_session.specs.declared.session.Stage.{Stage}
use Rattle.replay_session.specs.declared.session.Stage.TheVariants.{Opening, Running, Over}
use Rattle.replay_session.specs.declared.reacting.Reaction.{Reaction}
use Rattle.report_tally.specs.Tally.{most_lines, counted_at}
use Rattle.report_tally.specs.Way.{way_finished}
use Rattle.report_tally.specs.declared.tally.Tally.{Tally}
use Rattle.program_state.specs.Take.{returned_in, stage_tally, one_line, take_with}
use Rattle.program_state.specs.Trusting.{knowing, sound_after, runs_in_place}
use Rattle.program_state.proofs.ReturnedIn.{answer_returned}
use Rattle.replay_stream.specs.Stream.{joined}
use Rattle.replay_stream.proofs.InPlace.{Carried, printed_of, line_in_place}
use Rattle.replay_stream.proofs.InTally.{line_counted}

-- an event of a thread is no header
pub event_no_header : (line : Line) → is_thread_event line ≡ true → is_header line ≡ false
unfolding is_thread_event is_header
event_no_header (Header threads objects reserved) is = false≢true is
event_no_header (Begin operation thread object limit) is = refl
event_no_header (Step thread) is = refl
event_no_header Tick is = false≢true is
event_no_header BadHeader is = false≢true is
event_no_header Malformed is = false≢true is

-- such a line runs where a session runs
pub runs_event : (stage : Stage) (line : Line) → runs_thread_event stage line ≡ true → is_thread_event line ≡ true
unfolding runs_thread_event
runs_event Opening line runs = false≢true runs
runs_event Running line runs = runs
runs_event Over line runs = false≢true runs

-- what the code's locals are when an event of a line has been carried out
pub record EventDone (stage : Stage) (table : Table) (line said : Line) (event : Event) (issound : Bool) (thread number : ℕ) (outcome : Outcome) : Type 0 where
  pub carried : Carried table event issound thread number outcome
  pub read : line ≡ said
  pub asks : event ≡ line_event line

module _ {stage : Stage} {table : Table} {line said : Line} {event : Event} {issound : Bool} {thread number : ℕ} {outcome : Outcome}
    (done : EventDone stage table line said event issound thread number outcome) (tally : Tally) where
  reacted : runs_thread_event stage line ≡ true
      → record { session = record { stage = stage; table = outcome.table }; answer = printed_of outcome thread number }
      ≡ knowing issound (record { stage = stage; table = table }) said
  reacted runs = line_in_place stage done.carried runs done.read done.asks

  -- the replay prints it
  pub replayed : {reporting : Bool} {printed : Answer} → reporting ≡ false → runs_in_place reporting tally.lines stage line ≡ true
      → printed ≡ printed_of outcome thread number
      → record { state = joined reporting stage outcome.table tally; answer = printed } ≡ take_with (knowing issound) (joined reporting stage table tally) said
  unfolding take_with runs_in_place
  replayed {reporting} {printed} replays runs prints =
      let did = reacted (rw replays at runs) in
      rw (replays, prints) (λ j. record { state = record { reporting = false; session = (did j).session; tally = tally }; answer = (did j).answer })

  abbrev way_tally : Tally
  way_tally =
      counted_at (one_line tally) (object_place number)
      (way_finished event (thread_at table thread) (object_at table number).word (reply_returned outcome.reply))

  counted : (stage : Stage) → runs_thread_event stage line ≡ true
      → way_tally ≡ stage_tally (one_line tally) stage table line (reply_returned outcome.reply)
  unfolding stage_tally runs_thread_event
  counted Opening runs = false≢true runs
  counted Running runs = line_counted (one_line tally) table line (reply_returned outcome.reply) done.carried runs done.asks
  counted Over runs = false≢true runs

  -- the report counts it
  pub reported : {reporting : Bool} → reporting ≡ true → runs_in_place reporting tally.lines stage line ≡ true
      → record { state = joined reporting stage outcome.table way_tally; answer = Silent } ≡ take_with (knowing issound) (joined reporting stage table tally) said
  unfolding take_with runs_in_place
  reported {reporting} reports runs =
      let still = rw reports at runs in
      let event_runs = both_second (ltb tally.lines most_lines) _ still in
      let did = reacted event_runs in
      let number = ap (λ (x : Reaction). returned_in x.answer) (sym did)
      ∙ answer_returned (reply_returned outcome.reply) (phase_number (thread_at outcome.table thread).phase) (reply_woken outcome.reply)
      (object_at outcome.table number).word outcome.unparked in
      let no_Header = ap is_header (sym done.read) ∙ event_no_header line (runs_event stage line event_runs) in
      let tallied =
      counted stage event_runs
      ∙ (λ j. stage_tally (one_line tally) stage table (done.read j) (sym number j)) in
      rw (reports, no_Header, both_first (ltb tally.lines most_lines) _ still)
      (λ j. record { state = record { reporting = true; session = (did j).session; tally = tallied j }; answer = Silent })

  -- while there are lines to count
  pub lines_left : {reporting : Bool} → reporting ≡ true → runs_in_place reporting tally.lines stage line ≡ true → tally.lines < most_lines
  unfolding runs_in_place
  lines_left reports runs = ltb-true tally.lines most_lines (both_first (ltb tally.lines most_lines) _ (rw reports at runs))

  -- and what is known of the table's soundness goes on
  pub sound_stays : (reporting : Bool) → runs_in_place reporting tally.lines stage line ≡ true → issound ≡ sound_after reporting said issound
  unfolding runs_in_place sound_after
  sound_stays true runs =
      let is = runs_event stage line (both_second (ltb tally.lines most_lines) _ runs) in
      sym (ap (either issound) (ap is_header (sym done.read) ∙ event_no_header line is) ∙ either_no issound)
  sound_stays false runs = refl
