-- What a line adds to the report's tally: the enter that it finished to what counts it, its objects to the largest number, and itself to the lines.
use Prim.Native.Nat.{ℕ, ◌+◌, ◌≤◌, ◌<◌, max}
use mathlib.Core.Path.{◌≡◌, refl, ap, ◌∙◌}
use mathlib.Core.Bool.{Bool, true, false}
use mathlib.Core.List.{List}
use native.Mathlib.Omega.{arith}
use lib.Dec.{ltb}
use lib.ListN.{length, length-set}
use Rattle.laws.specs.Choice.{pick}
use Rattle.laws.specs.Count.{one_if}
use Rattle.laws.proofs.Choice.{split, Below, below}
use Rattle.lock_table.specs.Limits.{object_limit}
use Rattle.lock_table.specs.declared.record.Table.{Table}
use Rattle.lock_engine.specs.Outcome.{reply_returned}
use Rattle.lock_engine.specs.Handle.{step}
use Rattle.replay_lines.specs.Bytes.{letter_L}
use Rattle.replay_lines.specs.Grammar.{read_line}
use Rattle.replay_lines.specs.LineText.{begins_with}
use Rattle.replay_lines.specs.declared.reading.Line.{Line}
use Rattle.replay_lines.specs.declared.reading.Line.TheVariants.{Header, Begin, Step, Tick, BadHeader, Malformed}
use Rattle.replay_session.specs.Session.{run_of, react_at_stage, react_of}
use Rattle.replay_session.specs.declared.session.Stage.{Stage}
use Rattle.replay_session.specs.declared.session.Stage.TheVariants.{Opening, Running, Over}
use Rattle.replay_session.specs.declared.session.Session.{Session}
use Rattle.report_tally.specs.Tally.{most_lines, tallied}
use Rattle.report_tally.specs.Way.{finishes_enter, way_finished}
use Rattle.report_tally.specs.declared.way.Way.{Way}
use Rattle.report_tally.specs.declared.tally.Tally.{Tally}
use Rattle.program_state.specs.Take.{returned_in, step_tally, line_tally, stage_tally, one_line}
use Rattle.program_state.proofs.ReturnedIn.{answer_returned}
use Rattle.report_counts.specs.Enters.{Chosen, step_enters, line_enters, stage_enters, enters_here, counted, opened_objects}
use Rattle.report_counts.proofs.Opened.{header_opens, other_opens}
use Rattle.report_counts.proofs.Follows.{tally_behind}
use Rattle.report_counts.proofs.Tallied.{Measure, measured, Counts}
use Rattle.report_counts.proofs.Finishes.{finishes}

-- the larger of two, as the code takes it
larger : (a b : ℕ) → pick (ltb a b) b a ≡ max a b
larger a b = at (ltb a b) (below a b)
  where
    at : (test : Bool) → Below test a b → pick test b a ≡ max a b
    at true less = omega (arith, less)
    at false more = omega (arith, more)

-- what an event leaves of a tally besides the rows
pub record Beside (before after : Tally) : Type 0 where
  pub lines : after.lines ≡ before.lines
  pub largest : after.largest ≡ before.largest
  pub printed : after.printed ≡ before.printed
  pub full : length after.objects ≡ length before.objects

same_tally : (tally : Tally) → Beside tally tally
same_tally tally = record { lines = refl; largest = refl; printed = refl; full = refl }

tallied_beside : (tally : Tally) (object : ℕ) (way : Way) → Beside tally (tallied tally object way)
unfolding tallied
tallied_beside tally object way = record { lines = refl; largest = refl; printed = refl; full = length-set tally.objects _ _ }

line_beside : (tally : Tally) (table : Table) (line : Line) (number : ℕ) → Beside tally (line_tally tally table line number)
unfolding line_tally
line_beside tally table (Header threads objects reserved) number = same_tally tally
line_beside tally table (Begin operation thread object limit) number = same_tally tally
line_beside tally table (Step thread) number = tallied_beside tally _ _
line_beside tally table Tick number = same_tally tally
line_beside tally table BadHeader number = same_tally tally
line_beside tally table Malformed number = same_tally tally

stage_beside : (tally : Tally) (stage : Stage) (table : Table) (line : Line) (number : ℕ) → Beside tally (stage_tally tally stage table line number)
unfolding stage_tally
stage_beside tally Opening table line number = same_tally tally
stage_beside tally Running table line number = line_beside tally table line number
stage_beside tally Over table line number = same_tally tally

-- what a line leaves and adds besides the rows
pub record Moves (session : Session) (tally : Tally) (line : List ℕ) : Type 0 where
  pub lines : (tally_behind session tally line).lines ≡ tally.lines + counted line
  pub largest : (tally_behind session tally line).largest ≡ max tally.largest (opened_objects line)
  pub printed : (tally_behind session tally line).printed ≡ tally.printed
  pub full : length (tally_behind session tally line).objects ≡ length tally.objects

pub line_moves : (session : Session) (tally : Tally) (line : List ℕ) → Moves session tally line
line_moves session tally line =
    split (begins_with letter_L line)
    (λ header.
    record {
      lines = rw header (omega arith);
      largest = rw header (larger tally.largest _ ∙ ap (max tally.largest) (header_opens line header));
      printed = rw header refl;
      full = rw header refl;
    })
    (λ other.
    let number = returned_in (react_of session (read_line line)).answer in
    let beside = stage_beside (one_line tally) session.stage session.table (read_line line) number in
    record {
      lines = rw other beside.lines;
      largest = rw other (beside.largest ∙ omega (arith, other_opens line other));
      printed = rw other beside.printed;
      full = rw other beside.full;
    })

-- the enter that a line finished
module _ (measure : Measure) (chosen : Chosen) (counts : Counts measure chosen) where
  -- the rows have room for one more
  abbrev Room : Tally → Type 0
  Room tally = (length tally.objects ≡ object_limit) × (measured measure tally < most_lines)

  step_adds : (tally : Tally) (table : Table) (thread : ℕ) → Room tally
      → measured measure (step_tally tally table thread (reply_returned (step table thread).reply))
      ≡ measured measure tally + one_if (line_enters chosen table (Step thread))
  unfolding line_enters way_finished finishes_enter
  step_adds tally table thread (full, room) =
      split (step_enters table thread)
      (λ enters. let known = finishes table thread enters in rw enters (counts.enter tally _ _ known.numbered known.some_way full room))
      (λ none. rw none (counts.none tally _ ∙ omega arith))

  line_adds : (tally : Tally) (table : Table) (line : Line) → Room tally
      → measured measure (line_tally tally table line (returned_in (run_of table line).answer))
      ≡ measured measure tally + one_if (line_enters chosen table line)
  unfolding line_tally line_enters run_of
  line_adds tally table (Header threads objects reserved) room = omega arith
  line_adds tally table (Begin operation thread object limit) room = omega arith
  line_adds tally table (Step thread) room =
      ap (λ (number : ℕ). measured measure (step_tally tally table thread number)) (answer_returned (reply_returned (step table thread).reply) _ _ _ _)
      ∙ step_adds tally table thread room
  line_adds tally table Tick room = omega arith
  line_adds tally table BadHeader room = omega arith
  line_adds tally table Malformed room = omega arith

  stage_adds : (tally : Tally) (stage : Stage) (table : Table) (line : Line) → Room tally
      → measured measure (stage_tally tally stage table line (returned_in (react_at_stage stage table line).answer))
      ≡ measured measure tally + one_if (stage_enters chosen stage table line)
  unfolding stage_tally stage_enters react_at_stage
  stage_adds tally Opening table line room = omega arith
  stage_adds tally Running table line room = line_adds tally table line room
  stage_adds tally Over table line room = omega arith

  pub here_adds : (session : Session) (tally : Tally) (line : List ℕ) → length tally.objects ≡ object_limit
      → measured measure tally + counted line ≤ most_lines
      → measured measure (tally_behind session tally line) ≡ measured measure tally + one_if (enters_here chosen session line)
  here_adds session tally line full room =
      split (begins_with letter_L line) (λ header. rw header (omega arith))
      (λ other.
      let few = rw other at room in
      rw other (stage_adds (one_line tally) session.stage session.table (read_line line) (full, omega (arith, few))))
