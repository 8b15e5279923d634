-- Which numbers are no operation's.
use Prim.Native.Nat.{ℕ, ◌≤◌}
use mathlib.Core.Path.{◌≡◌}
use native.Mathlib.Omega.{arith}
use borrow.Author.Tests.{ne_eqb}
use Rattle.lock_table.specs.Operation.{operation_from}
use Rattle.lock_table.specs.declared.operation.Operation.TheVariants.{Idle as NoOperation}

-- the operations are 1 to 6
pub no_operation : (number : ℕ) → 7 ≤ number → operation_from number ≡ NoOperation
unfolding operation_from
no_operation number high =
    rw (
      ne_eqb number 1 (λ is. omega (arith, is, high)),
      ne_eqb number 2 (λ is. omega (arith, is, high)),
      ne_eqb number 3 (λ is. omega (arith, is, high)),
      ne_eqb number 4 (λ is. omega (arith, is, high)),
      ne_eqb number 5 (λ is. omega (arith, is, high)),
      ne_eqb number 6 (λ is. omega (arith, is, high)),
    )
