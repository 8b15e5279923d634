-- The record that was tested decides, or those before it do; none is left at the end.
use Prim.Native.Nat.{◌-◌}
use mathlib.Core.Path.{refl}
use Rattle.laws.proofs.Every.{all_step, all_end}
use Rattle.table_bytes.proofs.Rows.{numbers_at}
use Rattle.table_bytes.proofs.records.all_known.Goals as goal

pub loop-place-init : goal.loop-place-init
loop-place-init g c = refl

pub returns-then-not-is_known : goal.returns-then-not-is_known
returns-then-not-is_known g c =
    simp (
      c.loop-place.invariant,
      all_step c.loop-place-test.true,
      ← numbers_at g.T.Stored.layout _ c.args.start (c.loop-place.place - 1) c.stored_at.result.now c.args.bytes.now g.met.T.Stored.sized c.stored_at.ensures,
      ← c.is_known.ensures,
      c.if-not-is_known.true,
    )

pub loop-place-preserved : goal.loop-place-preserved
loop-place-preserved g c =
    simp (
      c.loop-place.invariant,
      all_step c.loop-place-test.true,
      ← numbers_at g.T.Stored.layout _ c.args.start (c.loop-place.place - 1) c.stored_at.result.now c.args.bytes.now g.met.T.Stored.sized c.stored_at.ensures,
      ← c.is_known.ensures,
      c.if-not-is_known.false,
    )

pub returns : goal.returns
returns g c = simp (c.loop-place.invariant, all_end c.loop-place-test.false)
