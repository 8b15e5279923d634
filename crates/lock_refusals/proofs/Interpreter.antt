-- A refused event carries no set, so a refusal that takes nobody out of an interpreter's run queue leaves it as it is.
use Prim.Native.Nat.{ℕ, ◌≤◌}
use mathlib.Core.Path.{◌≡◌, refl, ap, ◌∙◌}
use mathlib.Core.Bool.{Bool, false}
use native.Mathlib.Omega.{arith}
use lib.Dec.{eqb}
use borrow.Author.Tests.{ne_eqb}
use Rattle.laws.specs.Choice.{either}
use Rattle.laws.proofs.Choice.{both_no}
use Rattle.lock_rules.specs.Numbers.{first_refusal}
use Rattle.lock_rules.specs.RunQueue.{own_event, goes_out, own_queued}
use Rattle.lock_rules.specs.declared.event.Event.{Event}
use Rattle.lock_rules.specs.declared.event.Event.TheVariants.{Begin, Step, Tick}
use Rattle.lock_perform.specs.ThreadSet.{has_thread}
use Rattle.lock_perform.proofs.ThreadSets.{has_none}
use Rattle.lock_engine.specs.Handle.{handle}
use Rattle.lock_refusals.specs.Demand.{returned}
use Rattle.lock_refusals.specs.Interpreter.{RefusedCarryNone, RefusalsKeepQueue}
use Rattle.lock_refusals.proofs.Steps.{event_ended}

pub refused_carry_none : RefusedCarryNone
refused_carry_none table typed event = (event_ended table typed event).nobody

own_kept : (event : Event) (number n : ℕ) (was : Bool) → first_refusal ≤ number → goes_out number ≡ false → own_queued event number was n ≡ was
unfolding own_queued own_event
own_kept (Begin operation thread object limit) number n was high stays = rw (ne_eqb number 0 (λ e. omega (arith, e, high)), both_no (eqb n thread)) refl
own_kept (Step thread) number n was high stays = rw (stays, both_no (eqb n thread)) refl
own_kept Tick number n was high stays = refl

pub refusals_keep_queue : RefusalsKeepQueue
refusals_keep_queue table typed event queue high stays n =
    let outcome = handle table event in
    let nobody : has_thread outcome.unparked n ≡ false = ap (λ (set : ℕ). has_thread set n) (refused_carry_none table typed event high) ∙ has_none n in
    ap (λ (named : Bool). either named (own_queued event (returned outcome) (queue n) n)) nobody ∙ own_kept event (returned outcome) n (queue n) high stays
