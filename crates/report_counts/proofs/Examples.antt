-- Every example holds: both sides compute to the same.
use mathlib.Core.Path.{refl}
use Rattle.laws.specs.Every.{all_up_to}
use Rattle.laws.specs.Sequence.{tabulate}
use Rattle.chains.specs.Chain.{chain_test}
use Rattle.lock_word.specs.Read.{read_word, read_flat, read_reserved}
use Rattle.lock_word.specs.Meaning.{seen_word}
use Rattle.lock_table.specs.Access.{thread_at, set_thread, object_at, set_object}
use Rattle.lock_table.specs.Fresh.{thread_given, object_given, in_range, ranks_fit, fresh_answer, made_by, first_word, fresh_of}
use Rattle.lock_table.specs.Operation.{operation_number, operation_from}
use Rattle.lock_table.specs.Parked.{chain_named, first_in}
use Rattle.lock_table.specs.Phase.{phase_number, carried_number}
use Rattle.lock_table.specs.Place.{place_within}
use Rattle.lock_gate.specs.Status.{thread_status}
use Rattle.lock_rules.specs.Rules.{enter_look, decide}
use Rattle.lock_perform.specs.Perform.{stays}
use Rattle.lock_perform.specs.State.{look_of, state_by, doing_activity, write_activity}
use Rattle.lock_soundness.specs.Sound.{word_fits, uses_phase, operation_fits, kept_fits, saves_depth, saved_fits, ticks_fit, unheld_fits, names_chain, falls_behind, unused_fits, empty_thread, empty_monitor, empty_object}
use Rattle.lock_soundness.specs.Sound.{sizes_fit, found_in, sound_of}
use Rattle.lock_work.specs.Work.{work_stays}
use Rattle.lock_engine.specs.Handle.{handle_trusting, handle}
use Rattle.lock_engine.specs.Outcome.{reply_returned}
use Rattle.lock_engine.specs.Turn.{given_ticks, action_turn, word_turn, state_turn, step_turn, open_turn, gate_turn}
use Rattle.replay_lines.specs.Cutting.{lines_of}
use Rattle.replay_lines.specs.Number.{is_digit, read_digits, read_number, read_field}
use Rattle.replay_lines.specs.Grammar.{end_line, read_step, read_begin_limit, read_begin_object, read_begin, read_header_reserved, read_header_objects, read_header, is_header, operation_of, read_line}
use Rattle.replay_session.specs.Session.{opened_by, open_by, answer_from, run_of, react_at_stage}
use Rattle.replay_text.specs.Text.{answer_text}
use Rattle.replay_parts.specs.Replay.{output_of, replay_of}
use Rattle.report_tally.specs.Rows.{rows_text, row_count, report_text}
use Rattle.report_tally.specs.Tally.{one_more, with_enter, tallied}
use Rattle.report_tally.specs.Way.{is_enter, finishes_enter, way_by_meaning, way_by_word, way_of, way_finished}
use Rattle.program_state.specs.Take.{returned_in, line_tally, stage_tally, excess_answer, take_with, closing_text, closed_state, state_over}
use Rattle.report_counts.specs.Enters.{line_enters, stage_enters, enters, lines_counted, good_objects, largest_objects}
use Rattle.report_counts.specs.Report.{state_behind}
use Rattle.report_counts.specs.Examples.{WayExamples, InputExamples, LimitExamples}

pub way_examples : WayExamples
unfolding read_word read_flat read_reserved is_enter finishes_enter way_by_meaning way_by_word way_of
way_examples =
    record {
      free = refl;
      nested = refl;
      anonymous = refl;
      stored = refl;
      gone_in = refl;
      checked = refl;
      tried = refl;
      finished = refl;
      too_deep = refl;
      left = refl;
    }

pub input_examples : InputExamples
unfolding all_up_to tabulate chain_test read_word read_flat read_reserved seen_word thread_at set_thread object_at set_object thread_given object_given in_range ranks_fit fresh_answer made_by falls_behind first_word fresh_of operation_number operation_from chain_named first_in phase_number carried_number place_within thread_status enter_look decide stays look_of state_by doing_activity write_activity word_fits uses_phase operation_fits kept_fits saves_depth saved_fits ticks_fit unheld_fits names_chain unused_fits empty_thread empty_monitor empty_object sizes_fit found_in sound_of work_stays handle_trusting handle reply_returned given_ticks action_turn word_turn state_turn step_turn open_turn gate_turn lines_of is_digit read_digits read_number read_field end_line read_step read_begin_limit read_begin_object read_begin read_header_reserved read_header_objects read_header is_header operation_of read_line opened_by open_by answer_from run_of react_at_stage one_more with_enter tallied is_enter finishes_enter way_by_meaning way_by_word way_of way_finished returned_in line_tally stage_tally take_with closing_text line_enters stage_enters enters lines_counted good_objects largest_objects state_behind answer_text output_of replay_of rows_text row_count report_text
input_examples = record { printed = refl; lines = refl; lines_there = refl; objects_there = refl; enters_there = refl }

pub limit_examples : LimitExamples
unfolding is_header excess_answer take_with closing_text closed_state state_over rows_text row_count report_text
limit_examples =
    record {
      held = refl;
      excess = refl;
      header = refl;
      bad_header = refl;
      again = refl;
      goes_on = refl;
      over = refl;
      refused = refl;
      ended = refl;
      ended_again = refl;
    }
