-- THE REPORT: what it prints of any input, and that its figures are the enters that the input's lines finish.
use Prim.Native.Nat.{ℕ, zero, suc, ◌-◌, ◌≤◌}
use mathlib.Core.Path.{◌≡◌, refl, sym, ap, ◌∙◌}
use mathlib.Core.Bool.{Bool, true}
use mathlib.Core.List.{List}
use native.Mathlib.Omega.{arith}
use lib.Dec.{eqb}
use lib.ListN.{length-replicate, get_or-replicate}
use Rattle.laws.specs.Choice.{both}
use Rattle.lock_table.specs.Limits.{object_limit}
use Rattle.lock_table.specs.Fresh.{in_range, fresh_answer, made_by, fresh_of}
use Rattle.replay_lines.specs.Cutting.{lines_of}
use Rattle.replay_text.specs.Row.{figures_sum}
use Rattle.replay_text.specs.declared.row.Figures.{Figures}
use Rattle.replay_text.proofs.Shares.{shares_right}
use Rattle.replay_parts.specs.Replay.{replay_of}
use Rattle.replay_session.specs.Trusting.{sound_by}
use Rattle.report_tally.specs.Tally.{most_lines, no_figures, fresh_tally}
use Rattle.report_tally.specs.declared.way.Way.{Way}
use Rattle.report_tally.specs.declared.way.Way.TheVariants.{Anonymous, Reserved, Free, Nested, Monitor}
use Rattle.program_state.specs.State.{no_schedule, fresh_state}
use Rattle.report_counts.specs.Enters.{Chosen, lines_counted, largest_objects}
use Rattle.report_counts.specs.Report.{state_behind, tally_of, enters_of, row_of, figure_of, same_way, by_way, on_by_way, any, column_sum}
use Rattle.report_counts.specs.Report.{ObjectNumber, FiguresRight, ReportRight}
use Rattle.report_counts.proofs.Tallied.{each_way, Measure, measured, Counts, figure_in_all, all_counts, figure_in_row, row_counts}
use Rattle.report_counts.proofs.Running.{enters_within, Held, run_held, run_counts, closing_report, run_refused}
use Rattle.report_counts.proofs.Objects.{Fine, largest_small}
use Rattle.report_counts.proofs.Sums.{added, Splits, enters_split, five_of, five_split, rows_of, rows_split}

no_figure : (way : Way) → figure_of way no_figures ≡ 0
unfolding figure_of
no_figure = each_way (λ way. figure_of way no_figures ≡ 0) (refl, refl, refl, refl, refl, refl)

no_schedule_fine : (limit : ℕ) → Fine limit no_schedule
unfolding sound_by fresh_of fresh_answer made_by in_range
no_schedule_fine limit = record { sound = refl; typed = tt; known = omega arith }

module _ (input : List ℕ) (room : lines_counted (lines_of input) ≤ most_lines) where
  held : Held no_schedule fresh_tally (lines_of input)
  held = run_held (lines_of input) no_schedule fresh_tally (omega (arith, room))

  counted_from_none : (measure : Measure) (chosen : Chosen) → Counts measure chosen → measured measure fresh_tally ≡ 0
      → measured measure (tally_of input) ≡ enters_of chosen input
  counted_from_none measure chosen counts none =
      let full = length-replicate object_limit no_figures in
      let all = run_counts measure chosen counts (lines_of input) no_schedule fresh_tally full (omega (arith, none)) (omega (arith, room)) in
      omega (arith, all, none)

  figure_right : (number : ℕ) → ObjectNumber number → (way : Way)
      → figure_of way (row_of (tally_of input) number) ≡ enters_of (on_by_way number way) input
  figure_right number has way =
      counted_from_none (figure_in_row number way) (on_by_way number way) (row_counts number has way)
      (ap (figure_of way) (get_or-replicate object_limit (number - 1) no_figures no_figures (omega (arith, has))) ∙ no_figure way)

  figure_all_right : (way : Way) → figure_of way (tally_of input).all ≡ enters_of (by_way way) input
  figure_all_right way = counted_from_none (figure_in_all way) (by_way way) (all_counts way) (no_figure way)

  largest_right : (tally_of input).largest ≡ largest_objects (lines_of input)
  largest_right = omega (arith, held.largest)

  -- enters counted in parts, over all of the input
  all_split : (whole : Chosen) (parts : List Chosen) → Splits (tally_of input).largest whole parts
      → enters_of whole input ≡ added (λ chosen. enters_of chosen input) parts
  all_split whole parts splits =
      let limit = (tally_of input).largest in
      enters_split limit whole parts splits (lines_of input) no_schedule (no_schedule_fine limit) (omega (arith, largest_right))

  sum_right : (figures : Figures) (base : ℕ → Bool)
      → ((way : Way) → figure_of way figures ≡ enters_of (λ object finished. both (base object) (same_way finished way)) input)
      → figures_sum figures ≡ enters_of (λ object way. base object) input
  unfolding figure_of added
  sum_right figures base right =
      let all = all_split (λ object way. base object) (five_of base) (five_split (tally_of input).largest base) in
      omega (arith, all, right Anonymous, right Reserved, right Free, right Nested, right Monitor)

  column_right : (way : Way) (number : ℕ) → number ≤ object_limit
      → column_sum way (tally_of input) number ≡ added (λ chosen. enters_of chosen input) (rows_of way number)
  unfolding column_sum added rows_of
  column_right way zero few = refl
  column_right way (suc number) few =
      let before = column_right way number (omega (arith, few)) in omega (arith, before, figure_right (suc number) (omega arith, few) way)

  figures_right : FiguresRight input
  figures_right =
      let largest_within : (tally_of input).largest ≤ object_limit = omega (arith, largest_right, largest_small (lines_of input)) in
      let most = enters_within any no_schedule (lines_of input) in
      record {
        figure = figure_right;
        figure_all = figure_all_right;
        sum = λ number has. sum_right (row_of (tally_of input) number) (λ object. eqb object number) (figure_right number has);
        sum_all = sum_right (tally_of input).all (λ object. true) figure_all_right;
        column = λ way. let limit = (tally_of input).largest in
            column_right way limit largest_within
            ∙ (sym (all_split (by_way way) (rows_of way limit) (rows_split limit way)) ∙ sym (figure_all_right way));
        largest = largest_right;
        largest_within = largest_within;
        most = most;
        narrow = omega (arith, most, room);
      }

pub report_right : (input : List ℕ) → ReportRight input
unfolding replay_of
report_right input =
    record {
      prints =
          record {
            rows = λ room. let run = held input room in
                run.prints
                ∙ closing_report (state_behind (fresh_state true) (lines_of input)) run.reports run.printed (omega (arith, run.counts, room));
            too_many = λ many. run_refused (lines_of input) no_schedule fresh_tally (omega arith) (omega (arith, many));
          };
      counts = figures_right input;
      shares = λ way figures. shares_right (figure_of way figures) (figures_sum figures);
    }
