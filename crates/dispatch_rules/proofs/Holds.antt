-- The examples hold: the definitions compute them.
use mathlib.Core.Path.{refl}
use Rattle.laws.specs.Every.{all_up_to}
use Rattle.lock_rules.specs.Numbers.{refusal_number}
use Rattle.event_bytes.specs.Answer.{packed_of}
use Rattle.lock_engine.specs.Outcome.{reply_returned, reply_woken}
use Rattle.dispatch_rules.specs.Script.{script_known}
use Rattle.dispatch_rules.specs.Dispatch.{dispatch_returned, trace_entry}
use Rattle.dispatch_rules.specs.Examples.{Examples}

pub examples_hold : Examples
unfolding script_known all_up_to refusal_number dispatch_returned trace_entry packed_of reply_returned reply_woken
examples_hold =
    record {
      counts = λ scripts thread world. refl;
      steps = (refl, refl, refl);
      park_ends = refl;
      refusal_goes_on = refl;
      sound_first = refl;
      quantum_second = refl;
      scripts_third = refl;
      numbers = (refl, refl, refl, refl);
      quanta = (refl, refl, refl, refl);
      at_end = refl;
      past_end = refl;
      too_long = refl;
      half_lent = refl;
      timed_wait_unknown = refl;
      object_unknown = refl;
      entry = refl;
    }
