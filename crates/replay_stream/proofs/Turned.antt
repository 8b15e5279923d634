-- What a line and the end of the input print, as their answers are put.
use Prim.Native.Nat.{ℕ, ◌+◌, ◌-◌, ◌≤◌}
use mathlib.Core.Path.{◌≡◌, refl, sym, ap, ◌∙◌, subst}
use mathlib.Core.Bool.{Bool, false}
use mathlib.Core.List.{List, [], ◌++◌, append-nil}
use native.Mathlib.Omega.{arith}
use lib.ListN.{length, take, drop}
use Rattle.replay_lines.specs.{Cutting.line_end, Grammar.read_line}
use Rattle.replay_text.specs.Text.{answer_text, line_room}
use Rattle.replay_text.specs.Row.{report_room}
use Rattle.replay_text.specs.Written.{Put}
use Rattle.replay_text.specs.declared.answer.Answer.{Answer}
use Rattle.replay_text.proofs.Lengths.{answer_fits}
use Rattle.replay_text.proofs.Room.{put_front, put_most, put_within}
use Rattle.replay_parts.proofs.Turn.{Going, going_next}
use Rattle.replay_lines.specs.declared.reading.Line.{Line}
use Rattle.replay_session.specs.Trusting.{session_sound}
use Rattle.replay_session.specs.declared.reacting.Reaction.{Reaction}
use Rattle.program_state.specs.Take.{Took, took, take_line, take_with, closing_text, closed_state, program}
use Rattle.program_state.specs.Trusting.{knowing, line_reaction, line_answer, lines_after, largest_after, runs_in_place, sound_after}
use Rattle.program_state.specs.declared.state.State.{State}
use Rattle.program_state.proofs.Parts.{by_parts}
use Rattle.program_state.proofs.Ends.{closing_fits, closed_once}
use Rattle.replay_stream.proofs.SoundSession.{WellTypedBy}
use Rattle.replay_stream.proofs.SoundState.{take_known, state_kept, reporting_kept}
use Rattle.replay_stream.specs.Stream.{Turned, Closed}

module _ {before after : List ℕ} {at wrote : ℕ} (state : State) where
  pub turned : at + line_room ≤ length before → (line : List ℕ) {issound : Bool} → issound ≡ session_sound state.session
      → {took : Took} → took ≡ take_with (knowing issound) state (read_line line)
      → Put line_room before after at wrote (answer_text took.answer)
      → Turned state line before after at (record { state = took.state; wrote = wrote })
  turned fits line known {took} gave put =
      let short = answer_fits took.answer in
      let reacted : took ≡ take_line state (read_line line) = gave ∙ take_known state (read_line line) known in
      record {
        moved = ap (λ (x : Took). x.state) reacted;
        front = put_front fits short put ∙ ap (λ (x : Took). take at before ++ answer_text x.answer) reacted;
        most = put_most fits short put;
        within = put_within fits short put;
      }

  pub closed : at + report_room ≤ length before → {closing : State} → closing ≡ closed_state state → Put report_room before after at wrote (closing_text state)
      → Closed state before after at (record { state = closing; wrote = wrote })
  closed fits {closing} is put =
      let short = closing_fits state in
      record { front = put_front fits short put; silent = ap (λ (x : State). program.closing x) is ∙ closed_once state; within = put_within fits short put }

-- a line that runs nothing in place was taken by its parts
pub taken_by_parts : (state : State) (issound : Bool) {line said : Line} {reaction : Reaction} {answer : Answer} {lines largest : ℕ}
    → runs_in_place state.reporting state.tally.lines state.session.stage line ≡ false → line ≡ said
    → reaction ≡ line_reaction state.reporting state.tally.lines state.session.stage state.session.table line issound
    → answer ≡ line_answer state.reporting state.tally.lines line reaction.answer
    → lines ≡ lines_after state.reporting state.tally.lines line
    → largest ≡ largest_after state.reporting state.tally.largest line reaction.session.table.objectcount
    → let tally = state.tally in
    took
    (record {
      reporting = state.reporting;
      session = reaction.session;
      tally = record { lines = lines; largest = largest; printed = tally.printed; all = tally.all; objects = tally.objects };
    })
    answer
    ≡ take_with (knowing issound) state said
taken_by_parts state issound {line} other read reacted says counted kept =
    rw (counted, kept, says, reacted) (sym (by_parts state line issound other) ∙ ap (take_with (knowing issound) state) read)

-- what holds between two lines, of a state whose table's soundness is known
abbrev pub Between : State → List ℕ → List ℕ → Bool → List ℕ → State → List ℕ → ℕ → Type 0
Between start input out₀ issound out state rest wrote =
    Going program start input out₀ out state rest wrote × (issound ≡ session_sound state.session) × WellTypedBy state.session.stage state.session.table

-- a turn of the loop over lines: n bytes of the rest are a line, which was taken
module _ {start state : State} {input out₀ out rest : List ℕ} {issound : Bool} {wrote n : ℕ} (between : Between start input out₀ issound out state rest wrote)
    (end : n ≡ line_end rest) (some : n ≡ 0 → ⊥) {took : Took} (gave : took ≡ take_with (knowing issound) state (read_line (take n rest))) where
  abbrev line : List ℕ
  line = take n rest

  abbrev behind : List ℕ
  behind = take (length rest - n) (drop n rest)

  -- the state behind it, of the same program
  abbrev next : State
  next = record { reporting = state.reporting; session = took.state.session; tally = took.state.tally }

  same_program : took.state ≡ next
  same_program =
      let kept = ap (λ (x : Took). x.state.reporting) gave ∙ reporting_kept (knowing issound) state (read_line line) in
      λ j. record { reporting = kept j; session = took.state.session; tally = took.state.tally }

  next_known : {after : Bool} → after ≡ sound_after state.reporting (read_line line) issound
      → (after ≡ session_sound took.state.session) × WellTypedBy took.state.session.stage took.state.session.table
  next_known told =
      let (going, known, typed) = between in
      let reacted = gave ∙ take_known state (read_line line) known in
      let (sound, whole) = state_kept state typed (read_line line) in (
        told ∙ ap (sound_after state.reporting (read_line line)) known ∙ sym sound ∙ ap (λ (x : Took). session_sound x.state.session) (sym reacted),
        subst (λ (x : Took). WellTypedBy x.state.session.stage x.state.session.table) (sym reacted) whole,
      )

  -- its answer was put
  pub next_line : {out' : List ℕ} {wrote' : ℕ} {after : Bool} → line_room ≤ length out - wrote → Put line_room out out' wrote wrote' (answer_text took.answer)
      → length out' ≡ length out → after ≡ sound_after state.reporting (read_line line) issound
      → Between start input out₀ after out' next behind wrote'
  next_line room put kept told =
      let (going, known, typed) = between in
      let fits = turned state (omega (arith, room, going.wrote_within)) line known gave put in
      let (sound, whole) = next_known told in
      (going_next going end some (sym same_program ∙ fits.moved) fits.front fits.within kept, sound, whole)

  -- it has none
  pub next_silent : {after : Bool} → answer_text took.answer ≡ [] → after ≡ sound_after state.reporting (read_line line) issound
      → Between start input out₀ after out next behind wrote
  next_silent silent told =
      let (going, known, typed) = between in
      let reacted = gave ∙ take_known state (read_line line) known in
      let prints : take wrote out ≡ take wrote out ++ program.prints state (read_line line) =
      sym (append-nil (take wrote out)) ∙ ap (λ (x : List ℕ). take wrote out ++ x) (sym (sym (ap (λ (x : Took). answer_text x.answer) reacted) ∙ silent)) in
      let (sound, whole) = next_known told in
      (going_next going end some (sym same_program ∙ ap (λ (x : Took). x.state) reacted) prints going.wrote_within refl, sound, whole)
