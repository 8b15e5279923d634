-- A table of the code is well typed: a function that has one by value owns it, and what is owned has the lengths and the ranges of its type.
use Prim.Native.Nat.{ℕ, zero, suc, ◌≤◌, ◌<◌, ◌-◌}
use mathlib.Core.List.{List, [], ◌∷◌}
use lib.Dec.{eqb, ltb}
use lib.ListN.{get_or}
use native.Mathlib.Omega.{arith}
use mir.Val.{Val}
use denote.RattleType.{RattleType}
use denote.Laws.{Is}
use denote.Shadow.{shadow}
use denote.Array.{each}
use Rattle.laws.proofs.Choice.{by_test}
use Rattle.lock_table.specs.{Limits.object_limit, Record.no_object, Access.object_at, WellTyped.WellTyped}
use Rattle.lock_word.specs.Depth.{depth_limit}
use Rattle.lock_table.specs.declared.record.{ObjectRecord.ObjectRecord, Table.Table}
use Rattle.lock_table.specs.contracts.record.ObjectRecord.{the_row as object_row}
use Rattle.lock_table.specs.contracts.record.Table.{the_row as table_row}

-- what holds of every element that is owned, and of the one that stands for those past the end, holds wherever the array is read
element_owned : (R : RattleType) (Fact : R.Denot → Type 0) → ((x : R.Denot) (vs : List Val) → Is R x vs → Fact x)
    → (xs : List R.Denot) (us : List Val) → shadow (each R.Denot R.own_val xs us)
    → (i : ℕ) (past : R.Denot) → Fact past → Fact (get_or xs i past)
element_owned R Fact holds [] us owned i past fine = fine
element_owned R Fact holds (x ∷ xs) [] owned i past fine = absurd owned
element_owned R Fact holds (x ∷ xs) (u ∷ us) owned zero past fine = holds x (u ∷ []) owned.0
element_owned R Fact holds (x ∷ xs) (u ∷ us) owned (suc i) past fine = element_owned R Fact holds xs us owned.1 i past fine

abbrev DepthFits : ObjectRecord → Type 0
DepthFits object = object.monitor.depth ≤ depth_limit

object_depth : (object : ObjectRecord) (vs : List Val) → Is object_row object vs → DepthFits object
object_depth object vs owned =
    let monitor = owned.1.1.1.0 in
    let depth : object.monitor.depth < 65536 = monitor.1.1.0.1 in
    omega arith

pub owned_well_typed : (table : Table) (vs : List Val) → Is table_row table vs → WellTyped table
unfolding object_at
owned_well_typed table vs owned =
    let arrays = owned.1.1.1.1 in
    let objects = arrays.1.0 in
    record {
      threads = arrays.0.1.0.1;
      objects = objects.1.0.1;
      depths = λ o.
          by_test DepthFits (eqb o 0) (λ none. omega arith)
          (λ some. by_test DepthFits (ltb object_limit o) (λ past. omega arith)
          (λ inside. element_owned object_row DepthFits object_depth table.objects objects.0 objects.1.1 (o - 1) no_object (omega arith)));
    }
