-- Every example holds: both sides compute to the same.
use mathlib.Core.Path.{refl}
use Rattle.chains.specs.Chain.{members}
use Rattle.chains.specs.Joining.{last_of, linked}
use Rattle.lock_word.specs.Read.{read_word, read_flat, read_reserved, fat_of}
use Rattle.lock_word.specs.Meaning.{owned_by}
use Rattle.laws.specs.{Sequence.tabulate, Update.update}
use Rattle.lock_table.specs.Access.{thread_at, set_thread, object_at, set_object}
use Rattle.laws.specs.Every.{all_up_to}
use Rattle.lock_table.specs.Chain.{moved_phase, move_all}
use Rattle.lock_perform.specs.Queueing.{place_for, first_at, queue}
use Rattle.lock_work.specs.Waiters.{runs_out, waiter_after}
use Rattle.lock_work.specs.Tick.{handing, hand_if_free, tick_object, tick_to}
use Rattle.lock_work.specs.Work.{work_done}
use Rattle.event_bytes.specs.Encoding.{event_from, limit_from}
use Rattle.lock_rules.specs.Limits.{one_less, no_ticks, run_out}
use Rattle.lock_table.specs.{Fresh.thread_given, Fresh.object_given, Fresh.in_range, Fresh.ranks_fit, Fresh.fresh_answer, Fresh.made_by, Fresh.fresh_returned, Fresh.first_word, Fresh.fresh_of, Operation.operation_number, Parked.chain_named}
use Rattle.lock_table.specs.Phase.{phase_number, carried_number, onward_number}
use Rattle.lock_gate.specs.Status.{thread_status}
use Rattle.lock_perform.specs.ThreadSet.{thread_set}
use Rattle.lock_perform.specs.Parting.{last_behind, taken_with, passed, part_chain}
use Rattle.lock_perform.specs.Moving.{after_whole, let_out}
use Rattle.sound_records.specs.Records.{names_chain, falls_behind, unused_fits, saves_depth, ticks_fit}
use Rattle.lock_rules.specs.Rules.{go_in, exit_go_in, exit_tell, enter_try}
use Rattle.table_bytes.specs.Reading.{enough}
use Rattle.replay_lines.specs.Number.{is_digit, read_digits, read_number, read_field}
use Rattle.replay_lines.specs.Grammar.{end_line, read_step, read_begin_limit, read_begin_object, read_begin, operation_of, read_line}
use Rattle.replay_text.specs.Digits.{digit_byte, digits, places_from, places_of, decimal}
use Rattle.replay_text.specs.Text.{field_text, hexadecimal_text, tick_line, answer_line, answer_text}
use Rattle.replay_text.specs.Row.{share, remainder, five_text, row_text}
use Rattle.worked_examples.specs.{Words.WordExamples, Records.RecordExamples, Rules.RuleExamples, Ticks.TickExamples, Ranks.RankExamples, LetOuts.LetOutExamples}
use Rattle.worked_examples.specs.{Unparks.UnparkExamples, Lines.LineExamples, Rows.RowExamples, Chains.ChainExamples}

pub word_examples : WordExamples
unfolding read_word read_flat read_reserved fat_of owned_by
word_examples =
    record {
      free = refl;
      flat = refl;
      fat = refl;
      beyond = refl;
      greatest = refl;
      count_alone = refl;
      owned = refl;
      held_only = refl;
      held_by_nobody = refl;
      reserved_in = refl;
      unreserved = refl;
    }

pub record_examples : RecordExamples
unfolding tabulate object_at thread_given object_given in_range ranks_fit fresh_answer made_by all_up_to fresh_of first_word operation_number phase_number chain_named names_chain unused_fits saves_depth thread_status thread_set enough
record_examples =
    record {
      free = refl;
      reserved = refl;
      kept_used = refl;
      kept_unused = refl;
      own_chain = refl;
      other_object = refl;
      other_chain = refl;
      parked = refl;
      handed_holder = refl;
      handed_entry = refl;
      handed_set = refl;
      joined_back = refl;
      flag_place = refl;
      holder_place = refl;
    }

pub rule_examples : RuleExamples
unfolding exit_tell enter_try
rule_examples = record { deflated = refl; inflated = refl; told = refl; flag_down = refl; finished_number = refl; parked_number = refl }

pub tick_examples : TickExamples
unfolding thread_at set_thread object_at set_object place_for first_at queue moved_phase runs_out waiter_after last_behind taken_with passed part_chain handing hand_if_free tick_object ticks_fit event_from limit_from one_less no_ticks run_out
tick_examples =
    record {
      handed = refl;
      queued = refl;
      stays = refl;
      behind = refl;
      lost = refl;
      still_held = refl;
      still_first = refl;
      in_order = refl;
      kept_ticks = refl;
      out_resuming = refl;
      out_waiting = refl;
      ran_out = refl;
      notified = refl;
      unlimited = refl;
      too_long = refl;
      longest = refl;
      busy = refl;
      untimed = refl;
      timed_bytes = refl;
      tick_bytes = refl;
    }

pub rank_examples : RankExamples
unfolding thread_at set_thread place_for first_at queue let_out thread_given object_given in_range ranks_fit fresh_answer made_by fresh_returned all_up_to fresh_of falls_behind phase_number chain_named
rank_examples =
    record {
      in_between = refl;
      before_lower = refl;
      still_first = refl;
      behind_equal = refl;
      in_front = refl;
      by_time = refl;
      in_turn = refl;
      in_turn_last = refl;
      idle_keeps = refl;
      let_out_keeps = refl;
      too_high = refl;
      unread = refl;
      size_first = refl;
      falls = refl;
      rises = refl;
    }

pub let_out_examples : LetOutExamples
unfolding thread_at set_thread place_for first_at queue moved_phase move_all phase_number carried_number onward_number thread_set last_behind taken_with passed part_chain after_whole let_out go_in exit_go_in
let_out_examples =
    record {
      first_out = refl;
      last_out = refl;
      first_left = refl;
      behind = refl;
      nobody_contends = refl;
      unparked = refl;
      leaving = refl;
      told_held = refl;
      told_free = refl;
      goes_in = refl;
    }

pub unpark_examples : UnparkExamples
unfolding thread_at set_thread object_at set_object place_for first_at queue moved_phase move_all phase_number carried_number onward_number thread_set last_behind taken_with passed part_chain after_whole let_out runs_out waiter_after handing hand_if_free tick_object tick_to work_done
unpark_examples =
    record {
      first_bit = refl;
      last_bit = refl;
      contending = refl;
      waiting = refl;
      inflating = refl;
      telling = refl;
      notifying = refl;
      notifying_all = refl;
      free = refl;
      held = refl;
      both = refl;
    }

pub line_examples : LineExamples
unfolding is_digit read_digits read_number read_field end_line read_step read_begin_limit read_begin_object read_begin operation_of read_line digit_byte digits places_from places_of decimal field_text hexadecimal_text tick_line answer_line answer_text
line_examples =
    record {
      step = refl;
      unended = refl;
      leading_zero = refl;
      tab = refl;
      largest = refl;
      too_large = refl;
      timed = refl;
      tick = refl;
      tick_spaced = refl;
      word = refl;
      set = refl;
      answer = refl;
      ticked = refl;
      tick_refused = refl;
    }

pub row_examples : RowExamples
unfolding digit_byte digits places_from places_of decimal field_text share remainder five_text row_text
row_examples = record { thirds = refl; nothing = refl; largest = refl }

pub chain_examples : ChainExamples
unfolding update members last_of linked
chain_examples = record { first = refl; second = refl; whole = refl }
