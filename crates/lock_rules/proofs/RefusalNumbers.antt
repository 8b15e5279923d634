-- The numbers of the refusals before any rule: they are refusals, fit a byte, and are not those of a rule that leaves its thread idle.
use Prim.Native.Nat.{ℕ, ◌≤◌, ◌<◌}
use mathlib.Core.Logic.{◌≢◌}
use native.Mathlib.Omega.{arith}
use Rattle.lock_rules.specs.Numbers.{first_refusal, refusal_number, returned_of}
use Rattle.lock_rules.specs.declared.Answer.TheVariants.{NotOwner, TooDeep}
use Rattle.lock_rules.specs.declared.event.Refusal.{Refusal}
use Rattle.lock_rules.specs.declared.event.Refusal.TheVariants.{NotSound, NoSuchThread, NoSuchObject, NotIdle, ThreadIdle, ThreadParked}
use Rattle.lock_rules.specs.declared.event.Refusal.TheVariants.{NoSuchOperation, LimitOutOfRange}

pub record OfGate (number : ℕ) : Type 0 where
  pub high : first_refusal ≤ number
  pub small : number < 256
  pub owner : number ≢ returned_of NotOwner
  pub shallow : number ≢ returned_of TooDeep

pub of_gate : (refusal : Refusal) → OfGate (refusal_number refusal)
unfolding refusal_number
of_gate NotSound = record { high = omega arith; small = omega arith; owner = omega arith; shallow = omega arith }
of_gate NoSuchThread = record { high = omega arith; small = omega arith; owner = omega arith; shallow = omega arith }
of_gate NoSuchObject = record { high = omega arith; small = omega arith; owner = omega arith; shallow = omega arith }
of_gate NotIdle = record { high = omega arith; small = omega arith; owner = omega arith; shallow = omega arith }
of_gate ThreadIdle = record { high = omega arith; small = omega arith; owner = omega arith; shallow = omega arith }
of_gate ThreadParked = record { high = omega arith; small = omega arith; owner = omega arith; shallow = omega arith }
of_gate NoSuchOperation = record { high = omega arith; small = omega arith; owner = omega arith; shallow = omega arith }
of_gate LimitOutOfRange = record { high = omega arith; small = omega arith; owner = omega arith; shallow = omega arith }
