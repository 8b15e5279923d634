-- What represents a sound table with lists is well typed.
use Prim.Native.Nat.{ℕ, ◌≤◌}
use mathlib.Core.Path.{◌≡◌, sym, subst}
use mathlib.Core.Logic.{◌≢◌, ◌⊎◌, inl, inr}
use mathlib.Core.Bool.{Bool, true, false}
use native.Mathlib.Omega.{arith}
use lib.Dec.{leb}
use Rattle.laws.proofs.Choice.{equal?, AtMost, at_most}
use Rattle.lock_rules.proofs.Tables.{ListTable}
use Rattle.lock_rules.proofs.{ListSound.SoundTable}
use Rattle.lock_word.specs.Depth.{depth_limit}
use Rattle.lock_table.specs.{Access.object_at, WellTyped.WellTyped}
use Rattle.lock_table.specs.declared.record.{ObjectRecord.ObjectRecord, Table.Table}
use Rattle.lock_records.proofs.{Represents.Represents}

abbrev DepthFits : ObjectRecord → Type 0
DepthFits object = object.monitor.depth ≤ depth_limit

none_fits : (t : Table) → DepthFits (object_at t 0)
unfolding object_at
none_fits t = omega arith

pub represented_well_typed : (threads objects : ℕ) (t : Table) (lists : ListTable) → Represents threads objects t lists → SoundTable threads objects lists → WellTyped t
represented_well_typed threads objects t lists represents sound =
    record { threads = represents.written.full; objects = represents.objects_full; depths = λ o. at o (equal? o 0) (leb o objects) (at_most o objects) }
  where
    at : (o : ℕ) → (o ≡ 0) ⊎ (o ≢ 0) → (used : Bool) → AtMost used o objects → DepthFits (object_at t o)
    at o (inl none) used is = subst (λ (n : ℕ). DepthFits (object_at t n)) (sym none) (none_fits t)
    at o (inr some) true inside = subst DepthFits (sym (represents.object_is o (omega (arith, some)) inside)) (sound.sound o).deep
    at o (inr some) false past = subst DepthFits (sym (represents.object_past o past)) (omega arith)
