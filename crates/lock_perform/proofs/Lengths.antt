-- The length of a chain that a loop counts: of an empty one, and with one more thread passed.
use Prim.Native.Nat.{ℕ, ◌+◌, ◌-◌, ◌<◌}
use mathlib.Core.Path.{◌≡◌, refl, ap, ◌∙◌}
use mathlib.Core.Logic.{◌≢◌}
use native.Mathlib.Omega.{arith}
use lib.ListN.{length}
use borrow.Author.Tests.{ne_eqb}
use Rattle.chains.specs.Chain.{chain_length}
use Rattle.chains.proofs.Listed.{members_none}
use Rattle.chains.proofs.Turn.{chain_length_step}
use Rattle.lock_table.specs.Access.{next_of}
use Rattle.lock_table.specs.declared.record.Table.{Table}

pub length_none : (fuel : ℕ) (next : ℕ → ℕ) → chain_length fuel next 0 ≡ 0
length_none fuel next = ap length (members_none fuel next)

pub one_more : (t : Table) (passed at first : ℕ) → passed < 32 → at ≢ 0
    → chain_length 32 (next_of t) first ≡ passed + chain_length (32 - passed) (next_of t) at
    → chain_length 32 (next_of t) first ≡ passed + 1 + chain_length (32 - (passed + 1)) (next_of t) (next_of t at)
one_more t passed at first small some so_far =
    let left : 32 - passed - 1 ≡ 32 - (passed + 1) = omega arith in
    let turn : chain_length (32 - passed) (next_of t) at ≡ 1 + chain_length (32 - (passed + 1)) (next_of t) (next_of t at) =
    chain_length_step (omega arith) (next_of t) at ∙ rw (ne_eqb at 0 some, left) refl in
    omega (arith, so_far, turn)
