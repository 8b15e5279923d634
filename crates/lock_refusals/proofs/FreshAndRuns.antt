-- Demand 1 of a fresh table and of a run of the dispatcher: refused with the first refusal that applies, and then nothing is made or changed.
use Prim.Native.Nat.{◌≤◌}
use mathlib.Core.Path.{◌≡◌, refl}
use mathlib.Core.Logic.{inl, inr}
use mathlib.Core.Bool.{Bool, true, false, not}
use mathlib.Core.List.{[], ◌∷◌}
use native.Mathlib.Omega.{arith}
use Rattle.laws.specs.Choice.{pick, both, either, within}
use Rattle.lock_rules.specs.Numbers.{first_refusal, refusal_number}
use Rattle.lock_table.specs.Limits.{thread_limit, object_limit}
use Rattle.lock_table.specs.Fresh.{in_range, ranks_fit, fresh_answer, made_by, fresh_of, refusal_returned, fresh_returned}
use Rattle.lock_table.specs.declared.fresh_table.{FreshRequest.FreshRequest, FreshRefusal.FreshRefusal}
use Rattle.lock_table.specs.declared.fresh_table.FreshRefusal.TheVariants.{SizeOutOfRange, RankOutOfRange}
use Rattle.lock_table.specs.declared.record.Table.{Table}
use Rattle.std.specs.Prelude.{Result, Ok, Err}
use Rattle.lock_soundness.specs.Sound.{sound_of}
use Rattle.round_robin.specs.Dispatch.{still}
use Rattle.dispatch_rules.specs.Dispatch.{quantum_limit, scripts_known, first_answer, dispatch_returned, run_answered}
use Rattle.dispatch_rules.specs.Claims.{given_world}
use Rattle.lock_refusals.specs.Rows.{row, RefusedByFirst}
use Rattle.lock_refusals.specs.Demand.{FreshDemand, DispatchDemand}
use Rattle.lock_refusals.proofs.Rows.{refused_by_first}

-- what a request comes to, by whether T and N are in range and the ranks fit
fresh_by : (request : FreshRequest) (threads objects ranks : Bool)
    → let answer : Result (Unit {0}) FreshRefusal = pick (not (both threads objects)) (Err SizeOutOfRange) (pick (not ranks) (Err RankOutOfRange) (Ok tt)) in
    let made : Result Table FreshRefusal = made_by answer request in
    let number = fresh_returned made in
    RefusedByFirst (row 22 (either (not threads) (not objects)) ∷ row 27 (not ranks) ∷ []) number
    × (first_refusal ≤ number → (refusal : FreshRefusal) × (made ≡ Err refusal))
unfolding fresh_returned refusal_returned made_by
fresh_by request true true true = (refused_by_first _ 0 (inl (omega arith)) refl refl, λ high. absurd (omega (arith, high)))
fresh_by request true true false = (refused_by_first _ 27 (inr (omega arith)) refl refl, λ high. (RankOutOfRange, refl))
fresh_by request true false ranks = (refused_by_first _ 22 (inr (omega arith)) refl refl, λ high. (SizeOutOfRange, refl))
fresh_by request false objects ranks = (refused_by_first _ 22 (inr (omega arith)) refl refl, λ high. (SizeOutOfRange, refl))

pub fresh_demand : FreshDemand
unfolding fresh_of fresh_answer in_range
fresh_demand request =
    fresh_by request (within 1 thread_limit request.threads) (within 1 object_limit request.objects) (ranks_fit request)

pub dispatch_demand : DispatchDemand
unfolding dispatch_returned run_answered refusal_number
dispatch_demand given table =
    at (sound_of table) (within 1 quantum_limit given.quantum) (scripts_known given.scripts given.lent table given.cursors)
  where
    at : (issound isquantum areknown : Bool)
        → let answer = first_answer issound isquantum areknown in
        let world = given_world given table in
        let number = dispatch_returned answer in
        RefusedByFirst (row 11 (not issound) ∷ row 25 (not isquantum) ∷ row 26 (not areknown) ∷ []) number
        × (first_refusal ≤ number → run_answered answer given.scripts given.quantum world ≡ still world)
    at false isquantum areknown = (refused_by_first _ 11 (inr (omega arith)) refl refl, λ high. refl)
    at true false areknown = (refused_by_first _ 25 (inr (omega arith)) refl refl, λ high. refl)
    at true true false = (refused_by_first _ 26 (inr (omega arith)) refl refl, λ high. refl)
    at true true true = (refused_by_first _ 0 (inl (omega arith)) refl refl, λ high. absurd (omega (arith, high)))
