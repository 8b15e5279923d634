-- What the engine writes of an effect is the effect performed: where it leaves the chains alone, both records as they are; else, after the work on
-- the chains, both with what the work gave them.
use Prim.Native.Nat.{ℕ}
use mathlib.Core.Path.{◌≡◌, refl, sym, ap}
use mathlib.Core.Bool.{true}
use Rattle.laws.specs.Choice.{pick}
use Rattle.laws.proofs.Choice.{by_test}
use Rattle.lock_rules.specs.declared.Effect.{Effect}
use Rattle.lock_table.specs.Access.{thread_at}
use Rattle.lock_table.specs.declared.record.{ThreadRecord.ThreadRecord, ObjectRecord.ObjectRecord, Table.Table}
use Rattle.lock_perform.specs.State.{write_thread}
use Rattle.lock_perform.specs.Moving.{CarriedOut, carry_out}
use Rattle.lock_perform.specs.Perform.{object_after, stays, settled}
use Rattle.lock_perform.proofs.Performed.{write_back, perform_of}
use Rattle.lock_perform.proofs.Staying.{stays_carried}

module _ (t : Table) (n o : ℕ) (object : ObjectRecord) (effect : Effect) where
  abbrev own : ThreadRecord
  own = write_thread n o effect.state (thread_at t n)

  abbrev after : ObjectRecord
  after = object_after n o object effect

  abbrev carried : CarriedOut
  carried = carry_out t after.monitor effect.work n o

  left_alone : stays effect.work ≡ true → carried ≡ record { table = t; monitor = after.monitor; unparked = 0 }
  left_alone = stays_carried t after.monitor n o effect.work

  pub settled_performs : settled t n o own after effect.work ≡ perform_of t n o object effect
  settled_performs =
      by_test (λ (written : Table). written ≡ write_back carried n o own after) (stays effect.work)
      (λ stay. sym (ap (λ (x : CarriedOut). write_back x n o own after) (left_alone stay))) (λ more. refl)

  -- and it names the same: where the chains are left alone, nobody
  pub settled_names : pick (stays effect.work) 0 carried.unparked ≡ carried.unparked
  settled_names =
      by_test (λ (set : ℕ). set ≡ carried.unparked) (stays effect.work) (λ stay. sym (ap (λ (x : CarriedOut). x.unparked) (left_alone stay))) (λ more. refl)
