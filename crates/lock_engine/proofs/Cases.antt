-- All nine cases of document 01 hold of the definitions, by computing them.
use mathlib.Core.Path.{refl}
use mathlib.Core.List.{List, [], ◌∷◌, ◌++◌}
use Rattle.laws.specs.{Sequence.tabulate, Every.all_up_to}
use Rattle.chains.specs.Chain.{members, chain_test}
use Rattle.lock_word.specs.Read.{read_word, read_flat, read_reserved, fat_of}
use Rattle.lock_word.specs.Cases.{Case, AllHold, word_cases}
use Rattle.lock_word.proofs.Cases.{word_cases_hold}
use Rattle.lock_rules.specs.Rules.{decide, enter_look, exit_owned, go_in, go_in_again}
use Rattle.lock_table.specs.Access.{thread_at, set_thread, object_at, set_object}
use Rattle.lock_table.specs.Fresh.{thread_given, object_given, in_range, ranks_fit, fresh_answer, made_by, fresh_of, refusal_returned, fresh_returned, first_word}
use Rattle.lock_table.specs.Operation.{operation_number}
use Rattle.lock_table.specs.Phase.{phase_number, carried_number}
use Rattle.lock_table.specs.Parked.{chain_named, first_in}
use Rattle.lock_perform.specs.State.{state_by, look_of, go_in_of, write_activity, doing_activity}
use Rattle.lock_word.specs.Meaning.{seen_word}
use Rattle.lock_perform.specs.Perform.{word_after, stays}
use Rattle.lock_soundness.specs.Sound.{sizes_fit, word_fits, uses_phase, carries_phase, operation_fits, kept_fits, saves_depth, saved_fits}
use Rattle.lock_soundness.specs.Sound.{unheld_fits, ticks_fit, found_in, names_chain, falls_behind, unused_fits, empty_thread, empty_monitor, empty_object, sound_of}
use Rattle.lock_engine.specs.Outcome.{reply_returned}
use Rattle.lock_engine.specs.Turn.{action_turn, word_turn, state_turn, step_turn, open_turn, gate_turn}
use Rattle.lock_gate.specs.Status.{thread_status}
use Rattle.lock_work.specs.Work.{work_stays}
use Rattle.lock_engine.specs.Handle.{handle_trusting, handle}
use Rattle.lock_engine.specs.Cases.{engine_cases, NineCases}

both_hold : (rows more : List Case) → AllHold rows → AllHold more → AllHold (rows ++ more)
both_hold [] more p q = q
both_hold (row ∷ rows) more p q = (p.0, both_hold rows more p.1 q)

engine_cases_hold : AllHold engine_cases
unfolding all_up_to members chain_test read_word read_flat read_reserved fat_of decide enter_look exit_owned go_in go_in_again thread_at set_thread object_at
    set_object thread_given object_given in_range ranks_fit fresh_answer made_by fresh_of tabulate refusal_returned fresh_returned first_word operation_number phase_number carried_number state_by look_of go_in_of write_activity doing_activity seen_word
    word_after sizes_fit word_fits uses_phase carries_phase operation_fits kept_fits saves_depth saved_fits unheld_fits ticks_fit chain_named first_in found_in
    names_chain falls_behind empty_thread empty_monitor empty_object unused_fits sound_of reply_returned thread_status action_turn word_turn state_turn step_turn open_turn gate_turn
    handle_trusting handle stays work_stays
engine_cases_hold = (
  (refl, refl, refl, refl),
  (
    (refl, refl, refl, refl),
    (refl, (refl, ((refl, refl, refl, refl), ((refl, refl, refl, refl), ((refl, refl, refl, refl), tt))))),
  ),
)

pub cases_hold : NineCases
cases_hold = (both_hold word_cases engine_cases word_cases_hold engine_cases_hold, refl)
