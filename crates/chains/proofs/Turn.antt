-- One turn of each walk, and its end, for the loops of the code that count the fuel down.
use Prim.Native.Nat.{ℕ, suc, ◌+◌, ◌-◌, ◌≤◌, ◌<◌}
use mathlib.Core.Path.{◌≡◌, refl, ap}
use mathlib.Core.Bool.{Bool, true, false}
use mathlib.Core.List.{[], ◌∷◌}
use native.Mathlib.Omega.{arith}
use lib.Dec.{eqb}
use lib.ListN.{length}
use Rattle.laws.specs.Choice.{pick}
use Rattle.chains.specs.Chain.{members, chain_length, chain_test}

-- what a loop's test says of the fuel, taken and left
one_left : {fuel : ℕ} → 0 < fuel → fuel ≡ suc (fuel - 1)
one_left h = omega arith

none_left : {fuel : ℕ} → fuel ≤ 0 → fuel ≡ 0
none_left h = omega arith

-- the walk that collects the members
pub members_step : {fuel : ℕ} → 0 < fuel → (next : ℕ → ℕ) (first : ℕ)
    → members fuel next first ≡ pick (eqb first 0) [] (first ∷ members (fuel - 1) next (next first))
unfolding members
members_step h next first = ap (λ (k : ℕ). members k next first) (one_left h)

pub members_end : {fuel : ℕ} → fuel ≤ 0 → (next : ℕ → ℕ) (first : ℕ) → members fuel next first ≡ []
unfolding members
members_end h next first = ap (λ (k : ℕ). members k next first) (none_left h)

-- the walk that counts them
pub chain_length_step : {fuel : ℕ} → 0 < fuel → (next : ℕ → ℕ) (first : ℕ)
    → chain_length fuel next first ≡ pick (eqb first 0) 0 (1 + chain_length (fuel - 1) next (next first))
chain_length_step {fuel} h next first = rw (members_step h next first) (at (eqb first 0))
  where
    at : (b : Bool) → length (pick b [] (first ∷ members (fuel - 1) next (next first))) ≡ pick b 0 (1 + chain_length (fuel - 1) next (next first))
    at true = refl
    at false = omega arith

pub chain_length_end : {fuel : ℕ} → fuel ≤ 0 → (next : ℕ → ℕ) (first : ℕ) → chain_length fuel next first ≡ 0
chain_length_end h next first = ap length (members_end h next first)

-- the walk that tests each thread
pub chain_test_step : {fuel : ℕ} → 0 < fuel → (next : ℕ → ℕ) (ok : ℕ → Bool) (first : ℕ)
    → chain_test fuel next ok first ≡ pick (eqb first 0) true (pick (ok first) (chain_test (fuel - 1) next ok (next first)) false)
unfolding chain_test
chain_test_step h next ok first = ap (λ (k : ℕ). chain_test k next ok first) (one_left h)

pub chain_test_end : {fuel : ℕ} → fuel ≤ 0 → (next : ℕ → ℕ) (ok : ℕ → Bool) (first : ℕ) → chain_test fuel next ok first ≡ eqb first 0
unfolding chain_test
chain_test_end h next ok first = ap (λ (k : ℕ). chain_test k next ok first) (none_left h)
