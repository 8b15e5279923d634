-- How deep the monitors are. Document 01 gives the depth as 0 to 65,535, but not among the clauses of "Sound means": the code's 16 bits see to it.
use Prim.Native.Nat.{◌≤◌}
use Rattle.lock_word.specs.Depth.{depth_limit}
use Rattle.lock_table.specs.Access.{object_at}
use Rattle.lock_table.specs.declared.record.Table.{Table}
use Rattle.lock_soundness.proofs.Reading.{Each}

-- no monitor of the table is deeper: true of every table of the code by its width, and not asked by the test
abbrev pub DepthsFit : Table → Type 0
DepthsFit t = Each t.objectcount (λ o. (object_at t o).monitor.depth ≤ depth_limit)
