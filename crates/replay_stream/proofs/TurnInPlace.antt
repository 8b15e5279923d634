-- What an event of a line is where a caller carries it out by its turn and writes the turn's two records itself: what is printed of these records is what
-- the table after it says, and the enter that is counted by what was read in place is the one that the line adds.
use Prim.Native.Nat.{ℕ, ◌<◌}
use mathlib.Core.Path.{◌≡◌, refl, sym, ap, ◌∙◌}
use mathlib.Core.Bool.{Bool, true, false}
use lib.Dec.{leb, eqb, ltb}
use borrow.Author.Tests.{leb-false, eqb-true}
use Rattle.laws.proofs.Choice.{split, false≢true, both_no, both_first, both_second}
use Rattle.lock_rules.specs.Numbers.{first_refusal, refusal_number}
use Rattle.lock_rules.specs.Gate.{event_thread, event_object}
use Rattle.lock_table.specs.{Phase.phase_number, WellTyped.WellTyped, Narrow.narrow_of, Limits.thread_limit, Limits.object_limit}
use Rattle.lock_table.specs.Access.{thread_at, object_at}
use Rattle.lock_table.specs.declared.record.{ThreadRecord.ThreadRecord, Table.Table}
use Rattle.lock_soundness.specs.Sound.{sound_of}
use Rattle.lock_engine.specs.Outcome.{reply_returned, reply_woken}
use Rattle.lock_engine.specs.Handle.{handle_trusting}
use Rattle.lock_engine.specs.declared.outcome.Outcome.{Outcome}
use Rattle.lock_engine.specs.declared.turning.Turn.{Turn}
use Rattle.lock_engine.proofs.InPlace.{turn_here, own_here, in_place, Taken, own_in_place, number_in_place, object_in_place, object_here, gate_here, keeps_object, parts_of}
use Rattle.lock_engine.proofs.Full.{Full}
use Rattle.lock_engine.proofs.After.{is_tick, has_thread, event_leaves}
use Rattle.replay_lines.specs.declared.reading.Line.{Line}
use Rattle.replay_lines.specs.declared.reading.Line.TheVariants.{Header, Begin, Step, Tick, BadHeader, Malformed}
use Rattle.replay_text.specs.declared.answer.Answer.{Answer}
use Rattle.replay_session.specs.Session.{answer_from, answer_with}
use Rattle.replay_session.specs.Trusting.{sound_by, event_known, line_event, is_thread_event, runs_thread_event, turn_answer, run_by, react_by, react_trusting}
use Rattle.replay_session.specs.declared.session.Stage.{Stage}
use Rattle.replay_session.specs.declared.session.Stage.TheVariants.{Opening, Running, Over}
use Rattle.replay_stream.proofs.SoundSession.{WellTypedBy}
use mathlib.Core.Logic.{◌⊎◌, inl, inr}
use native.Mathlib.Omega.{arith}
use lib.ListN.{get_or}
use Rattle.lock_rules.specs.declared.event.{Event.Event, Refusal.Refusal}
use Rattle.lock_rules.specs.declared.event.Event.TheVariants.{Step as StepEvent}
use Rattle.lock_rules.specs.declared.event.Refusal.TheVariants.{NotSound}
use Rattle.lock_table.specs.Record.{no_thread, no_object}
use Rattle.lock_table.specs.Place.{object_place}
use Rattle.lock_table.proofs.Places.{Has, Lacks, has?}
use Rattle.report_tally.specs.Way.{finished_number, is_enter, finishes_enter, way_finished}
use Rattle.report_tally.specs.Tally.{counted_at, tallied, most_lines}
use Rattle.report_tally.specs.declared.way.Way.TheVariants.{NoEnter}
use Rattle.report_tally.specs.declared.tally.Tally.{Tally}
use Rattle.report_tally.proofs.RefusalOther.{refusal_other}
use Rattle.program_state.specs.Take.{step_tally, line_tally, returned_in, stage_tally, one_line, take_with}
use Rattle.lock_table.specs.Phase.{phase_number}
use Rattle.lock_table.specs.declared.record.Table.{Table}
use Rattle.replay_lines.specs.Grammar.{is_header}
use Rattle.replay_text.specs.declared.answer.Answer.TheVariants.{Silent}
use Rattle.replay_session.specs.declared.reacting.Reaction.{Reaction}
use Rattle.program_state.specs.Trusting.{knowing, runs_in_place}
use Rattle.program_state.proofs.ReturnedIn.{answer_returned}
use Rattle.replay_stream.specs.Stream.{joined}
use Rattle.std.specs.Prelude.{Result, Ok, Err}
use Rattle.replay_stream.proofs.InPlace.{event_line}
use Rattle.replay_stream.proofs.InTally.{counted_none, narrow_tally}
use Rattle.replay_stream.proofs.StateInPlace.{event_no_header, runs_event}

-- a refusal prints its number, whatever else there is to print
refused_alike : (number phase woken word unparked phase' word' : ℕ) → leb first_refusal number ≡ true
    → answer_with number phase woken word unparked ≡ answer_with number phase' woken word' unparked
unfolding answer_from
refused_alike number phase woken word unparked phase' word' high = rw high refl

module _ (t : Table) (event : Event) (issound : Bool) (known : issound ≡ sound_of t) (typed : WellTyped t)
    (other : is_tick event ≡ false) where
  abbrev outcome : Outcome
  outcome = handle_trusting t event issound

  abbrev turned : Turn
  turned = turn_here t event issound

  -- what is printed of the turn is what the table after it says
  prints_here : turn_answer turned.reply turned.own.phase turned.object.word outcome.unparked ≡ (event_known t event issound).answer
  prints_here =
      rw (ap (λ (x : Outcome). x.reply) (in_place t event issound))
      (split (leb first_refusal (reply_returned turned.reply))
      (λ high. refused_alike (reply_returned turned.reply) _ (reply_woken turned.reply) _ outcome.unparked _ _ high)
      (λ low.
      let accepted : reply_returned turned.reply < first_refusal = leb-false first_refusal (reply_returned turned.reply) low in
      let full : Full t = record { threads = typed.threads; objects = typed.objects } in
      let (phase, word) = event_leaves t event issound known full other accepted in
      let own = own_here t event issound (has_thread t event issound known accepted) in
      sym
      (ap
      (λ (x : ThreadRecord). answer_with (reply_returned turned.reply) (phase_number (thread_at outcome.table (event_thread event)).phase)
      (reply_woken turned.reply) (object_at outcome.table (event_object event x.object)).word outcome.unparked) own
      ∙ (λ j. answer_with (reply_returned turned.reply) (phase_number (phase j)) (reply_woken turned.reply) (word j) outcome.unparked))))

module _ {t : Table} {event : Event} {issound : Bool} {thread place number home : ℕ} {turn : Turn}
    (taken : Taken t event issound thread place number home turn) (known : issound ≡ sound_of t) (typed : WellTyped t)
    (other : is_tick event ≡ false) where
  prints_so : turn_answer turn.reply turn.own.phase turn.object.word (handle_trusting t event issound).unparked ≡ (event_known t event issound).answer
  prints_so =
      rw (taken.turn_is, taken.home_is, taken.number_is, taken.place_is, taken.thread_is) (prints_here t event issound known typed other)

  -- so the event is what was to be known of it
  pub event_so : {after : Table} {unparked : ℕ} {answer : Answer}
      → record { table = after; reply = turn.reply; commits = turn.commits; unparked = unparked } ≡ handle_trusting t event issound
      → answer ≡ turn_answer turn.reply turn.own.phase turn.object.word unparked
      → record { session = record { stage = Running; table = after }; answer = answer } ≡ event_known t event issound
  event_so handled is =
      let printed = is ∙ ap (λ (x : Outcome). turn_answer turn.reply turn.own.phase turn.object.word x.unparked) handled ∙ prints_so in
      λ j. record { session = record { stage = Running; table = (handled j).table }; answer = printed j }

-- it is no tick
no_tick : (line : Line) → is_tick (line_event line) ≡ false
unfolding line_event
no_tick (Header threads objects reserved) = refl
no_tick (Begin operation thread object limit) = refl
no_tick (Step thread) = refl
no_tick Tick = refl
no_tick BadHeader = refl
no_tick Malformed = refl

-- a line in place
pub turn_in_place : (stage : Stage) {table : Table} {line said : Line} {event : Event} {issound : Bool}
    {thread place number home unparked : ℕ} {turn : Turn} {after : Table} {answer : Answer}
    → Taken table event issound thread place number home turn → runs_thread_event stage line ≡ true → line ≡ said → event ≡ line_event line
    → issound ≡ sound_by stage table → WellTypedBy stage table
    → record { table = after; reply = turn.reply; commits = turn.commits; unparked = unparked } ≡ handle_trusting table event issound
    → answer ≡ turn_answer turn.reply turn.own.phase turn.object.word unparked
    → record { session = record { stage = stage; table = after }; answer = answer }
    ≡ react_trusting (record { stage = stage; table = table }) said issound
unfolding runs_thread_event react_by sound_by
turn_in_place Opening taken runs read asks known typed handled is = false≢true runs
turn_in_place Running {table} {line} {issound = issound} taken runs read asks known typed handled is =
    event_so taken known typed (ap is_tick asks ∙ no_tick line) handled is
    ∙ (ap (λ (event : Event). event_known table event issound) asks
    ∙ (event_line table line issound runs ∙ ap (λ (line : Line). run_by table line issound) read))
turn_in_place Over taken runs read asks known typed handled is = false≢true runs

-- an event that returned another number than 1 finished nothing
not_finished : (thread : ℕ) (own : ThreadRecord) (word number : ℕ) → eqb number finished_number ≡ false → way_finished (StepEvent thread) own word number ≡ NoEnter
unfolding way_finished finishes_enter
not_finished thread own word number other = rw (other, both_no (is_enter own.operation)) refl

-- a step that is about no object's record is refused
kept_other : (gated : Result (Unit {0}) Refusal) (thread : ℕ) (own : ThreadRecord) → eqb (reply_returned (parts_of gated (StepEvent thread) own).reply) finished_number ≡ true → ⊥
unfolding reply_returned
kept_other (Ok _) thread own is = refusal_other NotSound (eqb-true (refusal_number NotSound) finished_number is)
kept_other (Err refusal) thread own is = refusal_other refusal (eqb-true (refusal_number refusal) finished_number is)

module _ (t : Table) (thread : ℕ) (issound : Bool) (known : issound ≡ sound_of t) where
  abbrev event : Event
  event = StepEvent thread

  abbrev number : ℕ
  number = reply_returned (turn_here t event issound).reply

  abbrev own : ThreadRecord
  own = thread_at t thread

  abbrev here : ThreadRecord
  here = own_in_place t event issound

  -- a step that returned 1 has a thread and an object with records
  finished_has : eqb number finished_number ≡ true → Has thread_limit thread × Has object_limit (number_in_place t event issound)
  finished_has is =
      let one = eqb-true number finished_number is in
      (has_thread t event issound known (omega (arith, one)), object (has? object_limit (number_in_place t event issound)))
    where
      object : Has object_limit (number_in_place t event issound) ⊎ Lacks object_limit (number_in_place t event issound)
          → Has object_limit (number_in_place t event issound)
      object (inl has) = has
      object (inr lacks) =
          let kept = keeps_object (gate_here t event issound) event here (object_in_place t event issound) _ lacks in
          absurd (kept_other (gate_here t event issound) thread here (ap (λ (x : Turn). eqb (reply_returned x.reply) finished_number) (sym kept) ∙ is))

  abbrev counted_here : Tally → Tally
  counted_here tally =
      counted_at tally (object_place (number_in_place t event issound)) (way_finished event here (object_in_place t event issound).word number)

  pub step_in_place : (tally : Tally) → counted_here tally ≡ step_tally tally t thread number
  unfolding tallied
  step_in_place tally =
      split (eqb number finished_number)
      (λ is.
      let (has, object) = finished_has is in
      let same : here ≡ own = sym (own_here t event issound has) in
      let word : object_in_place t event issound ≡ object_at t here.object = sym (object_here t event issound object) in
      rw (word, same) refl)
      (λ other.
      ap (counted_at tally (object_place (number_in_place t event issound))) (not_finished thread here (object_in_place t event issound).word number other)
      ∙ counted_none tally (object_place (number_in_place t event issound))
      ∙ sym (ap (counted_at tally (object_place own.object)) (not_finished thread own (object_at t own.object).word number other)
      ∙ counted_none tally (object_place own.object)))

-- a line that is an event of a thread, counted in place
pub turn_counted : (tally : Tally) (table : Table) (line : Line) {event : Event} {issound : Bool} {thread place number home : ℕ} {turn : Turn}
    → Taken table event issound thread place number home turn → is_thread_event line ≡ true → event ≡ line_event line → issound ≡ sound_of table
    → counted_at tally home (way_finished event (get_or table.threads place no_thread) (get_or table.objects home no_object).word (reply_returned turn.reply))
    ≡ line_tally tally table line (reply_returned turn.reply)
unfolding is_thread_event line_event line_tally way_finished finishes_enter
turn_counted tally table (Header threads objects reserved) taken is asks known = false≢true is
turn_counted tally table (Begin operation thread object limit) {home = home} taken is asks known = rw asks (counted_none tally home)
turn_counted tally table (Step thread) {issound = issound} taken is asks known =
    rw (taken.turn_is, taken.home_is, taken.number_is, taken.place_is, taken.thread_is, asks)
    (step_in_place table (narrow_of thread) issound known tally
    ∙ narrow_tally tally table thread (reply_returned (turn_here table (StepEvent (narrow_of thread)) issound).reply))
turn_counted tally table Tick taken is asks known = false≢true is
turn_counted tally table BadHeader taken is asks known = false≢true is
turn_counted tally table Malformed taken is asks known = false≢true is

-- what the locals of a caller are when it has carried out an event of a line
pub record TurnDone (stage : Stage) (table : Table) (line said : Line) (event : Event) (issound : Bool) (thread place number home unparked : ℕ) (turn : Turn)
    (after : Table) : Type 0 where
  pub taken : Taken table event issound thread place number home turn
  pub read : line ≡ said
  pub asks : event ≡ line_event line
  pub known : issound ≡ sound_by stage table
  pub typed : WellTypedBy stage table
  pub handled : record { table = after; reply = turn.reply; commits = turn.commits; unparked = unparked } ≡ handle_trusting table event issound

module _ {stage : Stage} {table : Table} {line said : Line} {event : Event} {issound : Bool} {thread place number home unparked : ℕ} {turn : Turn}
    {after : Table} (done : TurnDone stage table line said event issound thread place number home unparked turn after) (tally : Tally) where
  abbrev answer : Answer
  answer = turn_answer turn.reply turn.own.phase turn.object.word unparked

  reacted : runs_thread_event stage line ≡ true
      → record { session = record { stage = stage; table = after }; answer = answer } ≡ knowing issound (record { stage = stage; table = table }) said
  reacted runs =
      turn_in_place stage done.taken runs done.read done.asks done.known done.typed done.handled refl

  -- the replay prints it
  pub turn_replayed : {reporting : Bool} {printed : Answer} → reporting ≡ false → runs_in_place reporting tally.lines stage line ≡ true → printed ≡ answer
      → record { state = joined reporting stage after tally; answer = printed } ≡ take_with (knowing issound) (joined reporting stage table tally) said
  unfolding take_with runs_in_place
  turn_replayed {reporting} {printed} replays runs prints =
      let did = reacted (rw replays at runs) in
      rw (replays, prints) (λ j. record { state = record { reporting = false; session = (did j).session; tally = tally }; answer = (did j).answer })

  abbrev way_tally : Tally
  way_tally =
      counted_at (one_line tally) home
      (way_finished event (get_or table.threads place no_thread) (get_or table.objects home no_object).word (reply_returned turn.reply))

  counted : (stage : Stage) → runs_thread_event stage line ≡ true → issound ≡ sound_by stage table
      → way_tally ≡ stage_tally (one_line tally) stage table line (reply_returned turn.reply)
  unfolding stage_tally runs_thread_event sound_by
  counted Opening runs known = false≢true runs
  counted Running runs known = turn_counted (one_line tally) table line done.taken runs done.asks known
  counted Over runs known = false≢true runs

  -- the report counts it
  pub turn_reported : {reporting : Bool} → reporting ≡ true → runs_in_place reporting tally.lines stage line ≡ true
      → record { state = joined reporting stage after way_tally; answer = Silent } ≡ take_with (knowing issound) (joined reporting stage table tally) said
  unfolding take_with runs_in_place
  turn_reported {reporting} reports runs =
      let still = rw reports at runs in
      let event_runs = both_second (ltb tally.lines most_lines) _ still in
      let did = reacted event_runs in
      let number = ap (λ (x : Reaction). returned_in x.answer) (sym did) ∙ answer_returned (reply_returned turn.reply) (phase_number turn.own.phase) (reply_woken turn.reply) turn.object.word unparked in
      let no_Header = ap is_header (sym done.read) ∙ event_no_header line (runs_event stage line event_runs) in
      let tallied =
      counted stage event_runs done.known
      ∙ (λ j. stage_tally (one_line tally) stage table (done.read j) (sym number j)) in
      rw (reports, no_Header, both_first (ltb tally.lines most_lines) _ still)
      (λ j. record { state = record { reporting = true; session = (did j).session; tally = tallied j }; answer = Silent })
