-- The objects of the report's sessions: no line but a header changes their number, so that the largest number of a good header bounds them.
use Prim.Native.Nat.{ℕ, ◌≤◌}
use mathlib.Core.Path.{◌≡◌, refl, sym, ap, ◌∙◌}
use mathlib.Core.Bool.{true, false}
use mathlib.Core.List.{List, [], ◌∷◌}
use native.Mathlib.Omega.{arith}
use Rattle.laws.proofs.Choice.{split, false≢true}
use Rattle.lock_rules.specs.declared.event.Event.{Event}
use Rattle.lock_rules.specs.declared.event.Event.TheVariants.{Begin as BeginEvent, Step as StepEvent, Tick as TickEvent}
use Rattle.lock_rules.proofs.TableKinds.{TurnOf}
use Rattle.lock_table.specs.Limits.{object_limit}
use Rattle.lock_table.specs.WellTyped.{WellTyped}
use Rattle.lock_table.specs.declared.record.Table.{Table}
use Rattle.lock_soundness.specs.Sound.{sound_of}
use Rattle.lock_engine.specs.Handle.{handle}
use Rattle.lock_records.proofs.RecordKind.{turn_represents}
use Rattle.lock_records.proofs.SoundRepresents.{sound_represents}
use Rattle.lock_schedule.proofs.EngineKind.{event_is_turn}
use Rattle.replay_lines.specs.Bytes.{letter_L}
use Rattle.replay_lines.specs.Grammar.{is_header, read_line}
use Rattle.replay_lines.specs.LineText.{begins_with}
use Rattle.replay_lines.specs.declared.reading.Line.{Line}
use Rattle.replay_lines.specs.declared.reading.Line.TheVariants.{Header, Begin, Step, Tick, BadHeader, Malformed}
use Rattle.replay_lines.proofs.Headers.{header_begins}
use Rattle.replay_session.specs.Session.{fresh_session, open_by, run_of, react_at_stage}
use Rattle.replay_session.specs.Trusting.{sound_by, session_sound}
use Rattle.replay_session.specs.declared.session.Stage.{Stage}
use Rattle.replay_session.specs.declared.session.Stage.TheVariants.{Opening, Running, Over}
use Rattle.replay_session.specs.declared.session.Session.{Session}
use Rattle.replay_stream.proofs.SoundSession.{WellTypedBy, session_kept}
use Rattle.report_counts.specs.Enters.{session_behind, opened_objects, largest_objects}
use Rattle.report_counts.proofs.Opened.{header_opens, opened_small}

-- an event keeps the number of objects
event_objects : (table : Table) → WellTyped table → sound_of table ≡ true → (event : Event)
    → (handle table event).table.objectcount ≡ table.objectcount
event_objects table typed sound event =
    let (lists, represents, fine) = sound_represents table typed.threads typed.objects (λ object real inside. typed.depths object) sound in
    ap (λ (turn : TurnOf Table). turn.table.objectcount) (event_is_turn table sound event)
    ∙ (turn_represents table.threadcount table.objectcount table lists represents fine event).0.objectcount

run_objects : (table : Table) → WellTyped table → sound_of table ≡ true → (line : Line)
    → (run_of table line).session.table.objectcount ≡ table.objectcount
unfolding run_of
run_objects table typed sound (Header threads objects reserved) = refl
run_objects table typed sound (Begin operation thread object limit) = event_objects table typed sound (BeginEvent operation thread object limit)
run_objects table typed sound (Step thread) = event_objects table typed sound (StepEvent thread)
run_objects table typed sound Tick = event_objects table typed sound TickEvent
run_objects table typed sound BadHeader = refl
run_objects table typed sound Malformed = refl

open_objects : (table : Table) (line : Line) → is_header line ≡ false → (open_by table line).session.table.objectcount ≡ table.objectcount
unfolding open_by is_header
open_objects table (Header threads objects reserved) other = false≢true (sym other)
open_objects table (Begin operation thread object limit) other = refl
open_objects table (Step thread) other = refl
open_objects table Tick other = refl
open_objects table BadHeader other = refl
open_objects table Malformed other = refl

stage_objects : (stage : Stage) (table : Table) → WellTypedBy stage table → sound_by stage table ≡ true → (line : Line) → is_header line ≡ false
    → (react_at_stage stage table line).session.table.objectcount ≡ table.objectcount
unfolding react_at_stage sound_by
stage_objects Opening table typed sound line other = open_objects table line other
stage_objects Running table typed sound line other = run_objects table typed sound line
stage_objects Over table typed sound line other = refl

-- a session with at most so many objects, whose table, if it has one, is sound and well typed
pub record Fine (limit : ℕ) (session : Session) : Type 0 where
  pub sound : session_sound session ≡ true
  pub typed : WellTypedBy session.stage session.table
  pub known : session.table.objectcount ≤ limit

pub fine_behind : {limit : ℕ} {session : Session} (line : List ℕ) → Fine limit session → opened_objects line ≤ limit
    → Fine limit (session_behind session line)
unfolding sound_by
fine_behind {limit} {session} line fine few =
    split (begins_with letter_L line)
    (λ header.
    let (sound, typed) = session_kept fresh_session tt (read_line line) in
    rw header (record { sound = sound; typed = typed; known = omega (arith, header_opens line header, few) }))
    (λ other.
    let (sound, typed) = session_kept session fine.typed (read_line line) in
    let same = stage_objects session.stage session.table fine.typed fine.sound (read_line line) (header_begins line ∙ other) in
    rw other (record { sound = sound ∙ fine.sound; typed = typed; known = omega (arith, same, fine.known) }))

-- the largest number stays within the report's rows
pub largest_small : (lines : List (List ℕ)) → largest_objects lines ≤ object_limit
unfolding largest_objects
largest_small [] = omega arith
largest_small (line ∷ lines) =
    let rest = largest_small lines in omega (arith, rest, opened_small line)

-- and it is none smaller than that of any header
pub largest_first : (line : List ℕ) (lines : List (List ℕ))
    → (opened_objects line ≤ largest_objects (line ∷ lines)) × (largest_objects lines ≤ largest_objects (line ∷ lines))
unfolding largest_objects
largest_first line lines = (omega arith, omega arith)
