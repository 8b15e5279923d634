-- Every example holds: both sides compute to the same.
use mathlib.Core.Path.{refl}
use Rattle.lock_word.specs.Read.{read_word, read_reserved}
use Rattle.laws.specs.Every.{all_up_to}
use Rattle.laws.specs.Sequence.{tabulate}
use Rattle.lock_rules.specs.Numbers.{refusal_number}
use Rattle.lock_table.specs.Access.{thread_at, object_at, set_object}
use Rattle.lock_table.specs.Fresh.{first_word, thread_given, object_given, in_range, ranks_fit, fresh_answer, made_by, fresh_of}
use Rattle.lock_table.specs.Phase.{phase_number}
use Rattle.lock_engine.specs.Outcome.{reply_returned, reply_woken}
use Rattle.event_bytes.specs.Answer.{packed_of}
use Rattle.dispatch_rules.specs.Dispatch.{dispatch_returned}
use Rattle.table_questions.specs.Questions.{kind_number, named_thread, holder_blocks, owner_blocks, entry_blocks, blocker_of}
use Rattle.lock_engine_c.specs.Calls.{reply_changes}
use Rattle.replay_session.specs.Session.{answer_from}
use Rattle.worked_outcomes.specs.Outcomes.{OutcomeExamples}

pub outcome_examples : OutcomeExamples
unfolding all_up_to tabulate thread_at object_at set_object first_word thread_given object_given in_range ranks_fit fresh_answer made_by fresh_of phase_number refusal_number reply_returned reply_woken packed_of reply_changes dispatch_returned answer_from kind_number named_thread read_word read_reserved
    holder_blocks owner_blocks entry_blocks blocker_of
outcome_examples =
    record {
      stored = refl;
      kept = λ refusal. refl;
      answered = refl;
      ran = λ table. refl;
      run_refused = λ table. refl;
      reserved_kind = refl;
      reserved_named = refl;
      no_lock_word = refl;
      enter_kept = refl;
      exit_kept = refl;
      holder_kept = refl;
      printed = λ outcome thread object. refl;
      printed_there = refl;
      ticked = λ outcome. refl;
      tick_refused = λ outcome. refl;
    }
