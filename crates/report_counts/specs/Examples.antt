-- Examples of what the report counts and prints (document 02, L4).
use Rattle.std.specs.Prelude.{ℕ, ◌≡◌, true, false, List, [], ◌∷◌, ◌++◌}
use Rattle.lock_word.specs.Write.{free_word, anonymous_word, flat_word, reserved_word, fat_word}
use Rattle.lock_table.specs.declared.operation.Operation.TheVariants.{Enter, Exit}
use Rattle.lock_table.specs.declared.phase.Phase.TheVariants.{Look, Store, GoIn, Check, Try}
use Rattle.lock_rules.specs.declared.event.Event.TheVariants.{Step}
use Rattle.replay_lines.specs.Cutting.{lines_of}
use Rattle.replay_lines.specs.declared.reading.Line.TheVariants.{Header, BadHeader, Malformed}
use Rattle.replay_text.specs.Row.{row_text}
use Rattle.replay_text.specs.declared.answer.Answer.TheVariants.{Silent, Alone}
use Rattle.replay_text.specs.declared.row.Figures.{Figures}
use Rattle.report_tally.specs.Way.{finishes_enter, way_of}
use Rattle.report_tally.specs.Tally.{fresh_tally, no_figures}
use Rattle.report_tally.specs.declared.way.Way.TheVariants.{Anonymous, Reserved, Free, Nested, Monitor}
use Rattle.program_state.specs.State.{no_schedule}
use Rattle.program_state.specs.Take.{take_line, closing_text, closed_state, state_over}
use Rattle.program_state.specs.declared.state.State.{State}
use Rattle.report_counts.specs.Enters.{lines_counted, largest_objects}
use Rattle.report_counts.specs.Report.{report_of, tally_of, enters_of, any}

pub record WayExamples : Type 0 where
  -- phase 1, by the word
  pub free : way_of Look free_word ≡ Free
  pub nested : way_of Look (flat_word 1 0) ≡ Nested
  pub anonymous : way_of Look anonymous_word ≡ Anonymous
  -- phase 2, and the monitor's phases whatever the word: 4, 6 on a flat word of the thread's own, 7 on a free word
  pub stored : way_of Store (reserved_word 1 0) ≡ Reserved
  pub gone_in : way_of GoIn (fat_word 1) ≡ Monitor
  pub checked : way_of Check (flat_word 1 63) ≡ Monitor
  pub tried : way_of Try free_word ≡ Monitor
  -- a step of an enter that returned 1; one that was refused with 19; one of an exit
  pub finished : finishes_enter (Step 1) Enter 1 ≡ true
  pub too_deep : finishes_enter (Step 1) Enter 19 ≡ false
  pub left : finishes_enter (Step 1) Exit 1 ≡ false

-- `E 1 1` and `S 1`: thread 1 enters object 1
abbrev pub enter_one : List ℕ
enter_one = 69 ∷ 32 ∷ 49 ∷ 32 ∷ 49 ∷ 10 ∷ 83 ∷ 32 ∷ 49 ∷ 10 ∷ []

-- `L 1 2 0`, `E 1 2` and `S 1`: of two objects thread 1 enters the second, whose word is free
abbrev pub second_of_two : List ℕ
second_of_two = 76 ∷ 32 ∷ 49 ∷ 32 ∷ 50 ∷ 32 ∷ 48 ∷ 10 ∷ 69 ∷ 32 ∷ 49 ∷ 32 ∷ 50 ∷ 10 ∷ 83 ∷ 32 ∷ 49 ∷ 10 ∷ []

-- `Lx`, and the enter of object 1 under it
abbrev pub under_bad : List ℕ
under_bad = 76 ∷ 120 ∷ 10 ∷ enter_one

-- `L 1 1 1`, and the enter of object 1, whose word is anonymous
abbrev pub only_one : List ℕ
only_one = 76 ∷ 32 ∷ 49 ∷ 32 ∷ 49 ∷ 32 ∷ 49 ∷ 10 ∷ enter_one

-- three schedules in one input
abbrev pub three : List ℕ
three = second_of_two ++ (under_bad ++ only_one)

-- this many enters by anonymous reservation and this many by a free word, and none in any other way
abbrev pub anonymous_and_free : ℕ → ℕ → Figures
anonymous_and_free anonymous free = record { anonymous = anonymous; reserved = 0; free = free; nested = 0; monitor = 0 }

pub record InputExamples : Type 0 where
  -- a row for each of two objects and one for all; the lines under the bad header add nothing
  pub printed : report_of three
      ≡ (row_text 1 (anonymous_and_free 1 0) ++ row_text 2 (anonymous_and_free 0 1)) ++ row_text 0 (anonymous_and_free 1 1)
  -- three headers, and six other lines
  pub lines : (tally_of three).lines ≡ 6
  -- the same counted from the lines alone: lines, objects and enters finished
  pub lines_there : lines_counted (lines_of three) ≡ 6
  pub objects_there : largest_objects (lines_of three) ≡ 2
  pub enters_there : enters_of any three ≡ 2

-- a report that has read so many lines, with no schedule open
abbrev pub behind_lines : ℕ → State
behind_lines lines =
    record {
      reporting = true;
      session = no_schedule;
      tally = record { lines = lines; largest = 0; printed = false; all = no_figures; objects = fresh_tally.objects };
    }

pub record LimitExamples : Type 0 where
  -- line 60,000 is one that a run may hold, and line 60,001 is not; a header is no such line
  pub held : (take_line (behind_lines 59999) Malformed).answer ≡ Silent
  pub excess : (take_line (behind_lines 60000) Malformed).answer ≡ Alone 24
  pub header : (take_line (behind_lines 60000) (Header 1 1 false)).answer ≡ Silent
  pub bad_header : (take_line (behind_lines 60000) BadHeader).answer ≡ Silent
  -- 24 is printed once, ends the run and stands in place of the report
  pub again : (take_line (behind_lines 60001) Malformed).answer ≡ Silent
  pub goes_on : state_over (behind_lines 60000) ≡ false
  pub over : state_over (behind_lines 60001) ≡ true
  pub refused : closing_text (behind_lines 60001) ≡ []
  -- the report is printed at the end, and not at another one behind it
  pub ended : closing_text (behind_lines 60000) ≡ row_text 0 no_figures
  pub ended_again : closing_text (closed_state (behind_lines 60000)) ≡ []
