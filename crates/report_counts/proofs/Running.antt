-- What all lines of an input add to the report's tally, and what the report prints of them: by induction over the lines.
use Prim.Native.Nat.{ℕ, ◌+◌, ◌≤◌, ◌<◌, max}
use mathlib.Core.Path.{◌≡◌, refl, sym, ap, ◌∙◌}
use mathlib.Core.Bool.{Bool, true, false}
use mathlib.Core.List.{List, [], ◌∷◌, ◌++◌, append-nil}
use native.Mathlib.Omega.{arith}
use lib.Dec.{leb}
use lib.ListN.{length}
use borrow.Author.Tests.{le-ltb, leb-true, leb-false}
use Rattle.laws.specs.Count.{one_if}
use Rattle.laws.proofs.Choice.{split}
use Rattle.lock_table.specs.Limits.{object_limit}
use Rattle.replay_lines.specs.Bytes.{letter_L}
use Rattle.replay_lines.specs.Grammar.{read_line}
use Rattle.replay_lines.specs.LineText.{begins_with}
use Rattle.replay_text.specs.Text.{number_line, answer_text}
use Rattle.replay_text.specs.declared.answer.Answer.{Answer}
use Rattle.replay_parts.specs.Replay.{output_of}
use Rattle.replay_session.specs.declared.session.Session.{Session}
use Rattle.report_tally.specs.Tally.{most_lines}
use Rattle.report_tally.specs.Rows.{report_text}
use Rattle.report_tally.specs.declared.tally.Tally.{Tally}
use Rattle.program_state.specs.Take.{too_many_lines, took, filled, take_line, closing_text, state_over, program}
use Rattle.program_state.specs.declared.state.State.{State}
use Rattle.program_state.proofs.Over.{lines_over_silent}
use Rattle.report_counts.specs.Enters.{Chosen, session_behind, stage_enters, enters_here, enters, counted, lines_counted, largest_objects}
use Rattle.report_counts.specs.Report.{state_behind}
use Rattle.report_counts.proofs.Follows.{reporting, tally_behind, took_line, took_excess}
use Rattle.report_counts.proofs.Tallied.{Measure, measured, Counts}
use Rattle.report_counts.proofs.Adds.{line_moves, here_adds}

-- a line adds an enter at most, and a header none
pub one_at_most : (chosen : Chosen) (session : Session) (line : List ℕ) → one_if (enters_here chosen session line) ≤ counted line
one_at_most chosen session line =
    split (begins_with letter_L line) (λ header. rw header (omega arith))
    (λ other. rw other (at (stage_enters chosen session.stage session.table (read_line line))))
  where
    at : (test : Bool) → one_if test ≤ 1
    at true = omega arith
    at false = omega arith

-- "each line adds at most one enter"
pub enters_within : (chosen : Chosen) (session : Session) (lines : List (List ℕ)) → enters chosen session lines ≤ lines_counted lines
unfolding enters lines_counted
enters_within chosen session [] = omega arith
enters_within chosen session (line ∷ lines) =
    let rest = enters_within chosen (session_behind session line) lines in omega (arith, one_at_most chosen session line, rest)

-- what the report prints of a line, and its state behind it
module _ (state : State) (line : List ℕ) (lines : List (List ℕ)) {next : State} {answer : Answer}
    (is : take_line state (read_line line) ≡ took next answer) where
  next_output : output_of program state (line ∷ lines) ≡ answer_text answer ++ output_of program next lines
  unfolding output_of
  next_output = λ j. answer_text (is j).answer ++ output_of program (is j).state lines

  next_state : state_behind state (line ∷ lines) ≡ state_behind next lines
  unfolding state_behind
  next_state = λ j. state_behind (is j).state lines

-- what a run that holds its lines does besides its rows: it counts the lines, takes the largest number of objects, and prints at the end alone
pub record Held (session : Session) (tally : Tally) (lines : List (List ℕ)) : Type 0 where
  pub counts : (state_behind (reporting session tally) lines).tally.lines ≡ tally.lines + lines_counted lines
  pub largest : (state_behind (reporting session tally) lines).tally.largest ≡ max tally.largest (largest_objects lines)
  pub printed : (state_behind (reporting session tally) lines).tally.printed ≡ tally.printed
  pub reports : (state_behind (reporting session tally) lines).reporting ≡ true
  pub prints : output_of program (reporting session tally) lines ≡ closing_text (state_behind (reporting session tally) lines)

pub run_held : (lines : List (List ℕ)) (session : Session) (tally : Tally) → tally.lines + lines_counted lines ≤ most_lines → Held session tally lines
unfolding state_behind output_of lines_counted largest_objects answer_text
run_held [] session tally room =
    record { counts = omega arith; largest = omega arith; printed = refl; reports = refl; prints = refl }
run_held (line ∷ lines) session tally room =
    let moves = line_moves session tally line in
    let is = took_line session tally line (omega (arith, room)) in
    let rest = run_held lines (session_behind session line) (tally_behind session tally line) (omega (arith, room, moves.lines)) in
    let behind = next_state (reporting session tally) line lines is in
    record {
      counts = ap (λ (state : State). state.tally.lines) behind ∙ omega (arith, moves.lines, rest.counts);
      largest = ap (λ (state : State). state.tally.largest) behind ∙ omega (arith, moves.largest, rest.largest);
      printed = ap (λ (state : State). state.tally.printed) behind ∙ (rest.printed ∙ moves.printed);
      reports = ap (λ (state : State). state.reporting) behind ∙ rest.reports;
      prints = next_output (reporting session tally) line lines is ∙ (rest.prints ∙ ap closing_text (sym behind));
    }

-- the enters of such a run, by whatever counts them
module _ (measure : Measure) (chosen : Chosen) (counts : Counts measure chosen) where
  pub run_counts : (lines : List (List ℕ)) (session : Session) (tally : Tally) → length tally.objects ≡ object_limit
      → measured measure tally ≤ tally.lines → tally.lines + lines_counted lines ≤ most_lines
      → measured measure (state_behind (reporting session tally) lines).tally ≡ measured measure tally + enters chosen session lines
  unfolding state_behind lines_counted enters
  run_counts [] session tally full few room = omega arith
  run_counts (line ∷ lines) session tally full few room =
      let moves = line_moves session tally line in
      let adds = here_adds measure chosen counts session tally line full (omega (arith, few, room)) in
      let rest = run_counts lines (session_behind session line) (tally_behind session tally line) (moves.full ∙ full)
      (omega (arith, adds, moves.lines, few, one_at_most chosen session line)) (omega (arith, room, moves.lines)) in
      let behind = next_state (reporting session tally) line lines (took_line session tally line (omega (arith, room))) in
      ap (λ (state : State). measured measure state.tally) behind ∙ omega (arith, rest, adds)

-- the end of the input prints the report
pub closing_report : (state : State) → state.reporting ≡ true → state.tally.printed ≡ false → state.tally.lines ≤ most_lines
    → closing_text state ≡ report_text state.tally
unfolding closing_text
closing_report state reports unprinted room = rw (reports, unprinted, le-ltb most_lines state.tally.lines room)

-- "24 when a run has more, in place of the whole report"
pub run_refused : (lines : List (List ℕ)) (session : Session) (tally : Tally) → tally.lines ≤ most_lines
    → most_lines < tally.lines + lines_counted lines → output_of program (reporting session tally) lines ≡ number_line too_many_lines
unfolding answer_text lines_counted state_over
run_refused [] session tally room many = absurd (omega (arith, room, many))
run_refused (line ∷ lines) session tally room many =
    split (leb (tally.lines + counted line) most_lines)
    (λ holds.
    let held = leb-true (tally.lines + counted line) most_lines holds in
    let now = (line_moves session tally line).lines in
    next_output (reporting session tally) line lines (took_line session tally line held)
    ∙ run_refused lines (session_behind session line) (tally_behind session tally line) (omega (arith, now, held)) (omega (arith, now, many)))
    (λ full.
    let excess = leb-false (tally.lines + counted line) most_lines full in
    next_output (reporting session tally) line lines (took_excess session tally line room excess)
    ∙ (ap (◌++◌ (number_line too_many_lines)) (lines_over_silent (reporting session (filled tally)) refl lines) ∙ append-nil _))
