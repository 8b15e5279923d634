-- A session's table stays sound, or stays unsound, with every line. So what a line does where soundness is known, with its numbers in eight bits, is
-- what document 01 says of it.
use mathlib.Core.Path.{◌≡◌, refl, sym, ap, ◌∙◌, subst}
use mathlib.Core.Logic.{◌⊎◌, inl, inr}
use mathlib.Core.Bool.{Bool, true, false}
use mathlib.Core.List.{[]}
use Rattle.lock_rules.specs.declared.event.Event.{Event}
use Rattle.lock_rules.specs.declared.event.Event.TheVariants.{Begin as BeginEvent, Step as StepEvent, Tick as TickEvent}
use Rattle.lock_table.specs.{Access.thread_at, WellTyped.WellTyped, Narrow.narrow_of}
use Rattle.lock_table.specs.Fresh.{sized_request, InRange, fresh_of}
use Rattle.lock_table.proofs.FreshTables.{fresh_made, fresh_either}
use Rattle.lock_table.specs.declared.record.Table.{Table}
use Rattle.lock_table.specs.declared.fresh_table.{FreshRequest.FreshRequest, FreshRefusal.FreshRefusal}
use Rattle.lock_soundness.specs.Sound.{sound_of}
use Rattle.lock_rules.specs.Gate.{gate, event_thread}
use Rattle.lock_rules.specs.declared.event.Refusal.TheVariants.{NotSound}
use Rattle.std.specs.Prelude.{Result, Err}
use Rattle.lock_gate.specs.Status.{thread_status}
use Rattle.lock_engine.specs.Handle.{handle_trusting, handle}
use Rattle.lock_engine.specs.declared.outcome.Outcome.{Outcome}
use Rattle.lock_engine.proofs.Refused.{handle_shut}
use Rattle.lock_schedule.proofs.Theorem.{reached_sound, reached_well_typed, sound_kept, well_typed_kept}
use Rattle.replay_lines.specs.declared.reading.Line.{Line}
use Rattle.replay_lines.specs.declared.reading.Line.TheVariants.{Header, Begin, Step, Tick, BadHeader, Malformed}
use Rattle.replay_stream.proofs.Numbers.{narrow_begun, narrow_stepped}
use Rattle.replay_session.specs.Session.{opened_by, open_by, after_event, after_tick, run_of, react_at_stage, react_of}
use Rattle.replay_session.specs.Trusting.{sound_by, session_sound, run_by, react_by, react_trusting}
use Rattle.replay_session.specs.declared.session.{Stage.Stage, Session.Session}
use Rattle.replay_session.specs.declared.session.Stage.TheVariants.{Opening, Running, Over}

-- told right, an event is the one that tests the table
event_told : (table : Table) {issound : Bool} → issound ≡ sound_of table → (event : Event) → handle_trusting table event issound ≡ handle table event
unfolding handle
event_told table known event = ap (handle_trusting table event) known

run_known : (table : Table) {issound : Bool} → issound ≡ sound_of table → (line : Line) → run_by table line issound ≡ run_of table line
unfolding run_by run_of
run_known table known (Header threads objects reserved) = refl
run_known table known (Begin operation thread object limit) =
    let number = narrow_of thread in
    let place = narrow_of object in
    ap (λ (outcome : Outcome). after_event outcome number place) (event_told table known (BeginEvent operation number place limit))
    ∙ narrow_begun table thread operation object limit
run_known table known (Step thread) =
    let number = narrow_of thread in
    ap (λ (outcome : Outcome). after_event outcome number (thread_at table number).object) (event_told table known (StepEvent number))
    ∙ narrow_stepped table thread
run_known table known Tick = ap after_tick (event_told table known TickEvent)
run_known table known BadHeader = refl
run_known table known Malformed = refl

react_with : (stage : Stage) (table : Table) {issound : Bool} → issound ≡ sound_by stage table → (line : Line) → react_by stage table line issound ≡ react_at_stage stage table line
unfolding react_by react_at_stage sound_by
react_with Opening table known line = refl
react_with Running table known line = run_known table known line
react_with Over table known line = refl

-- known as it is, soundness is what every event would have found
pub react_known : (session : Session) (line : Line) {issound : Bool} → issound ≡ session_sound session → react_trusting session line issound ≡ react_of session line
react_known session line known = react_with session.stage session.table known line

-- an unsound table is left alone
refused_same : (table : Table) (event : Event) → sound_of table ≡ false → (handle table event).table ≡ table
unfolding handle
refused_same table event unsound = rw unsound (ap (λ (outcome : Outcome). outcome.table) (handle_shut table event false NotSound (shut event)))
  where
    shut : (event : Event)
        → gate false table.threadcount table.objectcount event (thread_status (thread_at table (event_thread event)).phase) ≡ Err NotSound
    shut (BeginEvent operation thread object limit) = refl
    shut (StepEvent thread) = refl
    shut TickEvent = refl

event_same : (table : Table) → WellTyped table → (event : Event) (issound : Bool) → sound_of table ≡ issound → sound_of (handle table event).table ≡ sound_of table
event_same table typed event true sound = sound_kept table typed sound event ∙ sym sound
event_same table typed event false unsound = ap sound_of (refused_same table event unsound)

-- the table of a session that has one is well typed
abbrev pub WellTypedBy : Stage → Table → Type 0
WellTypedBy Opening table = Unit {0}
WellTypedBy Running table = WellTyped table
WellTypedBy Over table = Unit {0}

pub well_typed_by : (stage : Stage) {table : Table} → WellTyped table → WellTypedBy stage table
well_typed_by Opening typed = tt
well_typed_by Running typed = typed
well_typed_by Over typed = tt

-- a header opens the session with a sound table, which is well typed, or ends it
abbrev Opens : Result Table FreshRefusal → Type 0
Opens made = let session = (opened_by made).session in (session_sound session ≡ true) × WellTypedBy session.stage session.table

opens : (request : FreshRequest) → Opens (fresh_of request)
unfolding opened_by sound_by
opens request = at (fresh_either request)
  where
    at : InRange request ⊎ ((refusal : FreshRefusal) × (fresh_of request ≡ Err refusal)) → Opens (fresh_of request)
    at (inl in_range) =
        rw (fresh_made request in_range) (reached_sound request in_range [], reached_well_typed request in_range [])
    at (inr (refusal, refused)) = rw refused (refl, tt)

open_kept : (table : Table) (line : Line) → let session = (open_by table line).session in (session_sound session ≡ true) × WellTypedBy session.stage session.table
unfolding open_by sound_by
open_kept table (Header threads objects reserved) = opens (sized_request threads objects reserved)
open_kept table (Begin operation thread object limit) = (refl, tt)
open_kept table (Step thread) = (refl, tt)
open_kept table Tick = (refl, tt)
open_kept table BadHeader = (refl, tt)
open_kept table Malformed = (refl, tt)

-- an event keeps the table well typed, too
event_well_typed : (table : Table) → WellTyped table → (event : Event) (issound : Bool) → sound_of table ≡ issound → WellTyped (handle table event).table
event_well_typed table typed event true sound = well_typed_kept table typed sound event
event_well_typed table typed event false unsound = subst WellTyped (sym (refused_same table event unsound)) typed

abbrev Kept : Table → Session → Type 0
Kept table session = (session_sound session ≡ sound_of table) × WellTypedBy session.stage session.table

run_kept : (table : Table) → WellTyped table → (line : Line) → Kept table (run_of table line).session
unfolding run_of sound_by
run_kept table typed (Header threads objects reserved) = (refl, typed)
run_kept table typed (Begin operation thread object limit) =
    let event = BeginEvent operation thread object limit in
    (event_same table typed event (sound_of table) refl, event_well_typed table typed event (sound_of table) refl)
run_kept table typed (Step thread) =
    (event_same table typed (StepEvent thread) (sound_of table) refl, event_well_typed table typed (StepEvent thread) (sound_of table) refl)
run_kept table typed Tick =
    (event_same table typed TickEvent (sound_of table) refl, event_well_typed table typed TickEvent (sound_of table) refl)
run_kept table typed BadHeader = (refl, typed)
run_kept table typed Malformed = (refl, typed)

react_kept : (stage : Stage) (table : Table) → WellTypedBy stage table → (line : Line)
    → let session = (react_at_stage stage table line).session in
    (session_sound session ≡ sound_by stage table) × WellTypedBy session.stage session.table
unfolding react_at_stage sound_by
react_kept Opening table typed line = open_kept table line
react_kept Running table typed line = run_kept table typed line
react_kept Over table typed line = (refl, tt)

-- no line changes whether the table is sound, and it stays well typed
pub session_kept : (session : Session) → WellTypedBy session.stage session.table → (line : Line)
    → let after = (react_of session line).session in (session_sound after ≡ session_sound session) × WellTypedBy after.stage after.table
session_kept session typed line = react_kept session.stage session.table typed line
