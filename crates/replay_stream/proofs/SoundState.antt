-- The table of a state's session stays sound, or unsound, with every line but a header of the report, whose table is new and sound. So what a line
-- does to a state where soundness is known is what the documents say of it.
use mathlib.Core.Path.{◌≡◌, refl}
use mathlib.Core.Bool.{Bool, true, false}
use lib.Dec.{ltb}
use Rattle.laws.specs.Choice.{pick}
use Rattle.laws.proofs.Choice.{split, either_no, either_yes}
use Rattle.replay_lines.specs.Grammar.{is_header}
use Rattle.replay_lines.specs.declared.reading.Line.{Line}
use Rattle.replay_session.specs.Session.{fresh_session, react_at_stage, react_of}
use Rattle.replay_session.specs.Trusting.{sound_by, session_sound, react_by, react_trusting}
use Rattle.replay_session.specs.declared.session.Session.{Session}
use Rattle.replay_session.specs.declared.reacting.Reaction.{Reaction}
use Rattle.report_tally.specs.Tally.{most_lines}
use Rattle.report_tally.specs.declared.tally.Tally.{Tally}
use Rattle.program_state.specs.Take.{Took, replay_line, header_line, counted_line, excess_line, take_with, take_line}
use Rattle.program_state.specs.Trusting.{knowing, sound_after}
use Rattle.program_state.specs.declared.state.State.{State}
use Rattle.replay_stream.proofs.SoundSession.{WellTypedBy, react_known, session_kept}

-- a line that opens a session asks for no table
opening_known : (line : Line) (issound : Bool) → react_trusting fresh_session line issound ≡ react_of fresh_session line
unfolding react_by react_at_stage
opening_known line issound = refl

-- what a line does, by what it does to a fresh session and to the state's own
abbrev taken_by : State → Line → Reaction → Reaction → Took
taken_by state line opened reacted =
    pick state.reporting
    (pick (is_header line) (header_line (λ session said. opened) state line)
    (pick (ltb state.tally.lines most_lines) (counted_line (λ session said. reacted) state line) (excess_line state)))
    (replay_line (λ session said. reacted) state line)

-- known as it is, soundness is what every event would have found
pub take_known : (state : State) (line : Line) {issound : Bool} → issound ≡ session_sound state.session → take_with (knowing issound) state line ≡ take_line state line
unfolding take_with
take_known state line {issound} known =
    let opened = opening_known line issound in
    let reacted = react_known state.session line known in
    λ j. taken_by state line (opened j) (reacted j)

abbrev Kept : State → Line → State → Type 0
Kept state line after =
    (session_sound after.session ≡ sound_after state.reporting line (session_sound state.session))
    × WellTypedBy after.session.stage after.session.table

module _ (session : Session) (tally : Tally) (typed : WellTypedBy session.stage session.table) (line : Line) where
  abbrev reporting : State
  reporting = record { reporting = true; session = session; tally = tally }

  abbrev replaying : State
  replaying = record { reporting = false; session = session; tally = tally }

  replay_kept : Kept replaying line (take_line replaying line).state
  unfolding take_with sound_after
  replay_kept = session_kept session typed line

  report_kept : Kept reporting line (take_line reporting line).state
  unfolding take_with sound_after sound_by
  report_kept =
      split (is_header line)
      (λ header.
      let (sound, whole) = session_kept fresh_session tt line in rw (header, either_yes (session_sound session)) (sound, whole))
      (λ other. split (ltb tally.lines most_lines)
      (λ few. let (sound, whole) = session_kept session typed line in rw (other, few, either_no (session_sound session)) (sound, whole))
      (λ many. rw (other, many, either_no (session_sound session)) (refl, typed)))

-- what is known of soundness behind the line, and that the table stays well typed
pub state_kept : (state : State) → WellTypedBy state.session.stage state.session.table → (line : Line) → Kept state line (take_line state line).state
state_kept state typed line = at state.reporting
  where
    at : (which : Bool) → let told : State = record { reporting = which; session = state.session; tally = state.tally } in Kept told line (take_line told line).state
    at true = report_kept state.session state.tally typed line
    at false = replay_kept state.session state.tally typed line

-- a program stays the one it is
pub reporting_kept : (react : Session → Line → Reaction) (state : State) (line : Line) → (take_with react state line).state.reporting ≡ state.reporting
unfolding take_with
reporting_kept react state line = at state.reporting
  where
    at : (which : Bool)
        → let told : State = record { reporting = which; session = state.session; tally = state.tally } in (take_with react told line).state.reporting ≡ which
    at true =
        split (is_header line) (λ header. rw header refl)
        (λ other. split (ltb state.tally.lines most_lines) (λ few. rw (other, few) refl) (λ many. rw (other, many) refl))
    at false = refl
