-- THE PROGRAM'S REPORT: what a run of it printed that no failure stopped, of all of its input, or of one that goes on in any way.
use Prim.Native.Nat.{ℕ, zero, suc, ◌≤◌, ◌<◌}
use mathlib.Core.Path.{◌≡◌, refl, sym, ◌∙◌}
use mathlib.Core.Bool.{true, false}
use mathlib.Core.List.{List, [], ◌∷◌, ◌++◌}
use native.Mathlib.Omega.{arith}
use lib.Dec.{eqb}
use lib.ListN.{replicate}
use Rattle.laws.proofs.Choice.{split, false≢true}
use Rattle.replay_lines.specs.Cutting.{before_first, lines_of, later_lines}
use Rattle.replay_text.specs.Bytes.{newline}
use Rattle.replay_text.specs.Text.{number_line}
use Rattle.replay_parts.specs.Part.{Follows}
use Rattle.report_tally.specs.Tally.{most_lines}
use Rattle.program_state.specs.Take.{too_many_lines}
use Rattle.replay_stream.specs.declared.feeding.Stream.{Stream}
use Rattle.replay_program.specs.declared.ending.Ending.TheVariants.{AllRead, Stopped}
use Rattle.replay_program.specs.Run.{Runs}
use Rattle.replay_program.proofs.EndedRuns.{all_read_prints, stopped_prints}
use Rattle.report_counts.specs.Enters.{lines_counted}
use Rattle.report_counts.specs.Report.{report_of, Printed}
use Rattle.report_counts.proofs.Theorem.{report_right}

-- what was printed is what the report prints
printed_right : (input : List ℕ) {printed : List ℕ} → report_of input ≡ printed → Printed input printed
printed_right input is =
    let right = (report_right input).prints in
    record { rows = λ room. sym is ∙ right.rows room; too_many = λ many. sym is ∙ right.too_many many }

-- a newline ends a line that is counted, save that of a header which the input leaves open
newlines_counted : (count : ℕ) → count ≤ lines_counted (lines_of (replicate count newline))
unfolding lines_of lines_counted
newlines_counted zero = omega arith
newlines_counted (suc count) = let rest = newlines_counted count in omega (arith, rest)

later_counted : (lines : List (List ℕ)) → lines_counted (later_lines lines) ≤ lines_counted lines
unfolding lines_counted
later_counted [] = omega arith
later_counted (line ∷ lines) = omega arith

later_before : (byte : ℕ) (lines : List (List ℕ)) → later_lines (before_first byte lines) ≡ later_lines lines
later_before byte [] = refl
later_before byte (line ∷ lines) = refl

behind_first : (count : ℕ) (input : List ℕ) → count ≤ lines_counted (later_lines (lines_of (input ++ replicate (suc count) newline)))
unfolding lines_of
behind_first count [] = newlines_counted count
behind_first count (byte ∷ input) =
    let rest = behind_first count input in
    let lines = lines_of (input ++ replicate (suc count) newline) in
    split (eqb byte newline) (λ ends. rw ends (omega (arith, rest, later_counted lines))) (λ other. rw other (rw (later_before byte lines) rest))

-- so any input may go on with more lines than a run may hold
too_many_behind : (input : List ℕ) (count : ℕ) → most_lines < count → most_lines < lines_counted (lines_of (input ++ replicate (suc count) newline))
too_many_behind input count many =
    let lines = lines_of (input ++ replicate (suc count) newline) in omega (arith, many, behind_first count input, later_counted lines)

module _ {stream : Stream} {held : ℕ} {buffer : List ℕ} where
  -- ALL READ: the report of the input, or 24
  module _ (ran : Runs true buffer (record { stream = stream; held = held; ending = AllRead })) where
    pub report_all_read : Printed ran.input ran.passed.printed
    report_all_read = printed_right ran.input (all_read_prints ran)

  -- STOPPED: the same, whatever may follow what was read
  module _ (ran : Runs true buffer (record { stream = stream; held = held; ending = Stopped })) where
    pub report_stopped : (tail : List ℕ) → Follows ran.ended tail → Printed (ran.input ++ tail) ran.passed.printed
    report_stopped tail follows = printed_right (ran.input ++ tail) (stopped_prints ran tail follows)

    -- so a run that stopped before the end of its input printed 24: more lines than it may hold could have followed
    pub report_stopped_early : ran.ended ≡ false → ran.passed.printed ≡ number_line too_many_lines
    report_stopped_early goes_on = at (suc most_lines) (omega arith)
      where
        at : (count : ℕ) → most_lines < count → ran.passed.printed ≡ number_line too_many_lines
        at count many =
            let all = report_stopped (replicate (suc count) newline) (λ ends. false≢true (sym goes_on ∙ ends)) in
            all.too_many (too_many_behind ran.input count many)
