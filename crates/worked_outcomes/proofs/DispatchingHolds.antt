-- Every example of the dispatcher holds: both sides compute to the same.
use mathlib.Core.Path.{refl}
use Rattle.laws.specs.Every.{all_up_to}
use Rattle.laws.specs.Sequence.{tabulate}
use Rattle.chains.specs.Chain.{members, chain_test}
use Rattle.lock_word.specs.Read.{read_word, read_flat, read_reserved, fat_of}
use Rattle.lock_word.specs.Meaning.{seen_word}
use Rattle.lock_rules.specs.Numbers.{refusal_number}
use Rattle.lock_rules.specs.Rules.{decide, enter_look, enter_check, exit_owned, exit_test}
use Rattle.lock_table.specs.Access.{thread_at, set_thread, object_at, set_object}
use Rattle.lock_table.specs.Fresh.{thread_given, object_given, in_range, ranks_fit, fresh_answer, made_by, fresh_of, first_word}
use Rattle.lock_table.specs.Operation.{operation_number, operation_from}
use Rattle.lock_table.specs.Phase.{phase_number, carried_number}
use Rattle.lock_table.specs.Parked.{chain_named, first_in}
use Rattle.lock_table.specs.Place.{place_within}
use Rattle.lock_perform.specs.State.{state_by, look_of, write_activity, doing_activity}
use Rattle.lock_perform.specs.Perform.{word_after, stays}
use Rattle.lock_soundness.specs.Sound.{sizes_fit, word_fits, uses_phase, carries_phase, operation_fits, kept_fits, saves_depth, saved_fits}
use Rattle.lock_soundness.specs.Sound.{unheld_fits, ticks_fit, found_in, names_chain, falls_behind, unused_fits, empty_thread, empty_monitor, empty_object, sound_of}
use Rattle.event_bytes.specs.Answer.{packed_of}
use Rattle.lock_gate.specs.Status.{thread_status}
use Rattle.lock_work.specs.Work.{work_stays}
use Rattle.lock_engine.specs.Outcome.{reply_returned, reply_woken}
use Rattle.lock_engine.specs.Turn.{given_ticks, action_turn, word_turn, state_turn, step_turn, open_turn, gate_turn}
use Rattle.lock_engine.specs.Handle.{handle_trusting, handle}
use Rattle.round_robin.specs.Dispatch.{turn, turns, run}
use Rattle.dispatch_rules.specs.Script.{begins, script_known}
use Rattle.dispatch_rules.specs.Dispatch.{operations_left, run_answered, trace_entry, traced}
use Rattle.worked_outcomes.specs.Dispatching.{DispatchExamples}

pub dispatch_examples : DispatchExamples
unfolding all_up_to tabulate members chain_test read_word read_flat read_reserved fat_of seen_word refusal_number decide enter_look enter_check exit_owned exit_test
    thread_at set_thread object_at set_object thread_given object_given in_range ranks_fit fresh_answer made_by fresh_of first_word falls_behind operation_number operation_from phase_number carried_number chain_named first_in place_within
    state_by look_of write_activity doing_activity word_after stays sizes_fit word_fits uses_phase carries_phase operation_fits kept_fits saves_depth saved_fits
    unheld_fits ticks_fit found_in names_chain unused_fits empty_thread empty_monitor empty_object sound_of packed_of thread_status work_stays reply_returned reply_woken
    given_ticks action_turn word_turn state_turn step_turn open_turn gate_turn handle_trusting handle turn turns run begins script_known operations_left run_answered trace_entry traced
dispatch_examples =
    record {
      no_rule = refl;
      no_rule_is_none = refl;
      not_owner = refl;
      not_owner_is_one = refl;
      entered = refl;
      moved = refl;
      going_on = refl;
      moved_again = refl;
      trace = refl;
    }
