-- An event that is refused has not finished.
use mathlib.Core.Logic.{◌≢◌}
use native.Mathlib.Omega.{arith}
use Rattle.lock_rules.specs.Numbers.{refusal_number}
use Rattle.lock_rules.specs.declared.event.Refusal.{Refusal}
use Rattle.lock_rules.proofs.RefusalNumbers.{of_gate}
use Rattle.report_tally.specs.Way.{finished_number}

pub refusal_other : (refusal : Refusal) → refusal_number refusal ≢ finished_number
refusal_other refusal is = omega (arith, is, (of_gate refusal).high)
