-- Every example of the programs holds: both sides compute to the same.
use mathlib.Core.Path.{refl}
use Rattle.laws.specs.Every.{all_up_to}
use Rattle.laws.specs.Sequence.{tabulate}
use Rattle.chains.specs.Chain.{members, in_chain, chain_test}
use Rattle.lock_word.specs.Read.{read_word, read_flat, read_reserved, fat_of}
use Rattle.lock_word.specs.Meaning.{seen_word, owned_by, kept_count, cancel_of, cancel_read, rewritten_of}
use Rattle.lock_rules.specs.Limits.{one_less, no_ticks, run_out}
use Rattle.lock_rules.specs.Numbers.{refusal_number}
use Rattle.lock_rules.specs.Rules.{decide, enter_look, enter_store, exit_owned, exit_store, cancel, go_in, wait_owned, wait_inflate, wait_give_up, wait_resume}
use Rattle.lock_table.specs.Access.{thread_at, set_thread, object_at, set_object}
use Rattle.lock_table.specs.Chain.{moved_phase, move_all, carried_of}
use Rattle.lock_table.specs.Fresh.{thread_given, object_given, in_range, ranks_fit, fresh_answer, made_by, fresh_of, first_word}
use Rattle.lock_table.specs.Ownership.{ownership_in}
use Rattle.lock_table.specs.Narrow.{narrow_of}
use Rattle.lock_table.specs.Operation.{operation_number, operation_from}
use Rattle.lock_table.specs.Phase.{phase_number, carried_number, onward_number, onward_phase}
use Rattle.lock_table.specs.Parked.{chain_named, first_in}
use Rattle.lock_table.specs.Place.{place_within}
use Rattle.lock_perform.specs.State.{state_by, look_of, store_of, cancel_of as cancelling, go_in_of, wait_activity, limit_of, write_activity, doing_activity}
use Rattle.lock_perform.specs.Perform.{word_after, stays}
use Rattle.lock_perform.specs.Queueing.{queue, place_for, first_at}
use Rattle.lock_perform.specs.Moving.{after_whole, let_out, sent_back_of, back_from}
use Rattle.lock_perform.specs.Parting.{last_behind, taken_with, passed, part_chain}
use Rattle.lock_perform.specs.ThreadSet.{thread_set}
use Rattle.sound_records.specs.Records.{reserved_for, kept_count_fits}
use Rattle.lock_soundness.specs.Sound.{sizes_fit, word_fits, uses_phase, carries_phase, operation_fits, kept_fits, saves_depth, saved_fits}
use Rattle.lock_soundness.specs.Sound.{unheld_fits, ticks_fit, found_in, names_chain, falls_behind, unused_fits, empty_thread, empty_monitor, empty_object, sound_of}
use Rattle.lock_gate.specs.Status.{thread_status}
use Rattle.lock_work.specs.Waiters.{runs_out, waiter_after}
use Rattle.lock_work.specs.Tick.{handing, hand_if_free, tick_object, tick_to}
use Rattle.lock_work.specs.Work.{work_stays, work_done}
use Rattle.lock_engine.specs.Outcome.{reply_returned, reply_woken}
use Rattle.lock_engine.specs.Turn.{given_ticks, action_turn, word_turn, state_turn, step_turn, open_turn, gate_turn}
use Rattle.lock_engine.specs.Handle.{handle_trusting, handle}
use Rattle.replay_lines.specs.Cutting.{lines_of}
use Rattle.replay_lines.specs.Number.{is_digit, read_digits, read_number, read_field}
use Rattle.replay_lines.specs.Grammar.{end_line, read_step, read_begin_limit, read_begin_object, read_begin, read_header_reserved, read_header_objects, read_header, operation_of, read_line}
use Rattle.replay_parts.specs.Replay.{output_of, replay_of}
use Rattle.replay_session.specs.Session.{opened_by, open_by, answer_from, run_of, react_at_stage, closing_by}
use Rattle.replay_text.specs.Digits.{digit_byte, digits, places_from, places_of, decimal}
use Rattle.replay_text.specs.Text.{field_text, hexadecimal_text, answer_line, answer_text}
use Rattle.worked_outcomes.specs.Programs.{ProgramExamples}

pub program_examples : ProgramExamples
unfolding rewritten_of ownership_in wait_activity limit_of in_chain carried_of onward_phase kept_count cancel_of cancel_read store_of cancelling sent_back_of back_from reserved_for kept_count_fits narrow_of all_up_to tabulate members chain_test read_word read_flat read_reserved fat_of seen_word owned_by one_less no_ticks run_out refusal_number decide
    enter_look enter_store exit_owned exit_store cancel go_in wait_owned wait_inflate wait_give_up wait_resume thread_at set_thread object_at set_object queue place_for first_at moved_phase
    move_all thread_given object_given in_range ranks_fit fresh_answer made_by fresh_of first_word falls_behind operation_number operation_from phase_number carried_number onward_number chain_named first_in place_within state_by look_of
    go_in_of write_activity doing_activity word_after stays after_whole let_out last_behind taken_with passed part_chain thread_set sizes_fit word_fits uses_phase
    carries_phase operation_fits kept_fits saves_depth saved_fits unheld_fits ticks_fit found_in names_chain unused_fits empty_thread empty_monitor empty_object sound_of
    thread_status runs_out waiter_after handing hand_if_free tick_object tick_to work_stays work_done reply_returned reply_woken given_ticks action_turn word_turn state_turn
    step_turn open_turn gate_turn handle_trusting handle lines_of is_digit read_digits read_number read_field end_line read_step read_begin_limit read_begin_object read_begin
    read_header_reserved read_header_objects read_header operation_of read_line output_of replay_of opened_by open_by answer_from run_of react_at_stage closing_by
    digit_byte digits places_from places_of decimal field_text hexadecimal_text answer_line answer_text
program_examples =
    record {
      reserves = refl;
      cancels = refl;
      sent_back = refl;
      one_inside = refl;
      goes_in = refl;
      owned_by_second = refl;
      two_inside = refl;
      refused = refl;
      runs_out = refl;
      told = refl;
      replays = refl;
    }
