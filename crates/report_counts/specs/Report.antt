-- What the report promises of any input.
use Rattle.std.specs.Prelude.{ℕ, zero, suc, ◌+◌, ◌*◌, ◌-◌, ◌≤◌, ◌<◌, ◌^◌, ◌≡◌, Bool, true, List, [], ◌∷◌, eqb, get_or}
use Rattle.laws.specs.Choice.{both}
use Rattle.lock_table.specs.Limits.{object_limit}
use Rattle.replay_lines.specs.Cutting.{lines_of}
use Rattle.replay_lines.specs.Grammar.{read_line}
use Rattle.replay_text.specs.Text.{number_line}
use Rattle.replay_text.specs.Row.{figures_sum, whole_share, SharesRight}
use Rattle.replay_text.specs.declared.row.Figures.{Figures}
use Rattle.replay_parts.specs.Replay.{replay_of}
use Rattle.report_tally.specs.Tally.{most_lines, no_figures}
use Rattle.report_tally.specs.Rows.{report_text}
use Rattle.report_tally.specs.declared.way.Way.{Way}
use Rattle.report_tally.specs.declared.way.Way.TheVariants.{NoEnter, Anonymous, Reserved, Free, Nested, Monitor}
use Rattle.report_tally.specs.declared.tally.Tally.{Tally}
use Rattle.program_state.specs.State.{no_schedule, fresh_state}
use Rattle.program_state.specs.Take.{too_many_lines, take_line, program}
use Rattle.program_state.specs.declared.state.State.{State}
use Rattle.report_counts.specs.Enters.{Chosen, enters, lines_counted, largest_objects}

-- the state behind some lines
unfoldable pub state_behind : State → List (List ℕ) → State
state_behind state [] = state
state_behind state (line ∷ lines) = state_behind (take_line state (read_line line)).state lines

-- what the report of an input prints, and its tally behind the last line
abbrev pub report_of : List ℕ → List ℕ
report_of input = replay_of program (fresh_state true) input

abbrev pub tally_of : List ℕ → Tally
tally_of input = (state_behind (fresh_state true) (lines_of input)).tally

-- the enters of an input that are chosen
abbrev pub enters_of : Chosen → List ℕ → ℕ
enters_of chosen input = enters chosen no_schedule (lines_of input)

-- the row of an object
abbrev pub row_of : Tally → ℕ → Figures
row_of tally number = get_or tally.objects (number - 1) no_figures

-- the figure of a way
unfoldable pub figure_of : Way → Figures → ℕ
figure_of NoEnter figures = 0
figure_of Anonymous figures = figures.anonymous
figure_of Reserved figures = figures.reserved
figure_of Free figures = figures.free
figure_of Nested figures = figures.nested
figure_of Monitor figures = figures.monitor

-- their place among the five
unfoldable pub way_number : Way → ℕ
way_number NoEnter = 0
way_number Anonymous = 1
way_number Reserved = 2
way_number Free = 3
way_number Nested = 4
way_number Monitor = 5

abbrev pub same_way : Way → Way → Bool
same_way first second = eqb (way_number first) (way_number second)

-- the enters on an object, those of a way, both, and all
abbrev pub on : ℕ → Chosen
on number = λ object way. eqb object number

abbrev pub by_way : Way → Chosen
by_way chosen = λ object way. same_way way chosen

abbrev pub on_by_way : ℕ → Way → Chosen
on_by_way number chosen = λ object way. both (eqb object number) (same_way way chosen)

abbrev pub any : Chosen
any = λ object way. true

-- the figures of a way in the rows of the objects up to this number, added up
unfoldable pub column_sum : Way → Tally → ℕ → ℕ
column_sum way tally zero = 0
column_sum way tally (suc number) = column_sum way tally number + figure_of way (row_of tally (suc number))

-- a number that an object of some table may have
abbrev pub ObjectNumber : ℕ → Type 0
ObjectNumber number = (1 ≤ number) × (number ≤ object_limit)

-- the figures of an input with no more lines than a run may hold
pub record FiguresRight (input : List ℕ) : Type 0 where
  -- each figure is the number of enters that finished so, on its object and in all
  pub figure : (number : ℕ) → ObjectNumber number → (way : Way)
      → figure_of way (row_of (tally_of input) number) ≡ enters_of (on_by_way number way) input
  pub figure_all : (way : Way) → figure_of way (tally_of input).all ≡ enters_of (by_way way) input
  -- "The five figures add up to the enters finished"
  pub sum : (number : ℕ) → ObjectNumber number → figures_sum (row_of (tally_of input) number) ≡ enters_of (on number) input
  pub sum_all : figures_sum (tally_of input).all ≡ enters_of any input
  -- the lines of the objects add up to line 0
  pub column : (way : Way) → column_sum way (tally_of input) (tally_of input).largest ≡ figure_of way (tally_of input).all
  -- "a line per object number up to the largest N in a good header"
  pub largest : (tally_of input).largest ≡ largest_objects (lines_of input)
  pub largest_within : (tally_of input).largest ≤ object_limit
  -- each line adds at most one enter, so that "totals stay within 32 bits"
  pub most : enters_of any input ≤ lines_counted (lines_of input)
  pub narrow : whole_share * enters_of any input < 2 ^ 32

-- what the report has printed of an input: its rows, or "24 when a run has more, in place of the whole report"
pub record Printed (input printed : List ℕ) : Type 0 where
  pub rows : lines_counted (lines_of input) ≤ most_lines → printed ≡ report_text (tally_of input)
  pub too_many : most_lines < lines_counted (lines_of input) → printed ≡ number_line too_many_lines

-- THE REPORT
pub record ReportRight (input : List ℕ) : Type 0 where
  pub prints : Printed input (report_of input)
  pub counts : lines_counted (lines_of input) ≤ most_lines → FiguresRight input
  -- "each one's share of its line's five in ten-thousandths rounded down with its remainder, both 0 where no enter finished": of any row
  pub shares : (way : Way) (figures : Figures) → SharesRight (figure_of way figures) (figures_sum figures)
