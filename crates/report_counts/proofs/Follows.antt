-- What one line does to the report's state: it follows the session of the definitions, counts the line, and prints nothing, until the lines are full.
use Prim.Native.Nat.{ℕ, ◌+◌, ◌≤◌, ◌<◌}
use mathlib.Core.Path.{◌≡◌, ◌∙◌}
use mathlib.Core.Bool.{true}
use mathlib.Core.List.{List}
use native.Mathlib.Omega.{arith}
use borrow.Author.Tests.{lt-ltb, le-ltb}
use Rattle.laws.specs.Choice.{pick}
use Rattle.laws.proofs.Choice.{split}
use Rattle.replay_lines.specs.Bytes.{letter_L}
use Rattle.replay_lines.specs.Grammar.{read_line}
use Rattle.replay_lines.specs.LineText.{begins_with}
use Rattle.replay_lines.proofs.Headers.{header_begins}
use Rattle.replay_text.specs.declared.answer.Answer.TheVariants.{Silent, Alone}
use Rattle.replay_session.specs.Session.{fresh_session, react_of}
use Rattle.replay_session.specs.declared.session.Session.{Session}
use Rattle.report_tally.specs.Tally.{most_lines}
use Rattle.report_tally.specs.declared.tally.Tally.{Tally}
use Rattle.program_state.specs.Take.{too_many_lines, took, returned_in, stage_tally, one_line, with_objects, filled, excess_answer}
use Rattle.program_state.specs.Take.{take_with, take_line}
use Rattle.program_state.specs.declared.state.State.{State}
use Rattle.report_counts.specs.Enters.{session_behind, counted}

-- a state of the report
abbrev pub reporting : Session → Tally → State
reporting session tally = record { reporting = true; session = session; tally = tally }

-- the tally behind a header and behind another line
abbrev header_tally : Tally → List ℕ → Tally
header_tally tally line = with_objects tally (react_of fresh_session (read_line line)).session.table.objectcount

abbrev event_tally : Session → Tally → List ℕ → Tally
event_tally session tally line =
    stage_tally (one_line tally) session.stage session.table (read_line line) (returned_in (react_of session (read_line line)).answer)

abbrev pub tally_behind : Session → Tally → List ℕ → Tally
tally_behind session tally line = pick (begins_with letter_L line) (header_tally tally line) (event_tally session tally line)

module _ (session : Session) (tally : Tally) (line : List ℕ) where
  -- a line that the run may hold
  pub took_line : tally.lines + counted line ≤ most_lines
      → take_line (reporting session tally) (read_line line) ≡ took (reporting (session_behind session line) (tally_behind session tally line)) Silent
  unfolding take_with
  took_line room =
      split (begins_with letter_L line) (λ header. rw (header_begins line ∙ header, header))
      (λ other. rw (header_begins line ∙ other, other, lt-ltb tally.lines most_lines (let few = rw other at room in omega (arith, few))))

  -- the first that it may not
  pub took_excess : tally.lines ≤ most_lines → most_lines < tally.lines + counted line
      → take_line (reporting session tally) (read_line line) ≡ took (reporting session (filled tally)) (Alone too_many_lines)
  unfolding take_with excess_answer
  took_excess room many =
      split (begins_with letter_L line) (λ header. let none = rw header at many in absurd (omega (arith, none, room)))
      (λ other.
      let full = rw other at many in
      rw (header_begins line ∙ other, le-ltb tally.lines most_lines (omega (arith, full)), le-ltb most_lines tally.lines room))
