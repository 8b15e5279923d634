-- The place of a number's record in its array.
use Prim.Native.Nat.{ℕ, ◌-◌, ◌≤◌, ◌<◌}
use mathlib.Core.Path.{◌≡◌, sym}
use mathlib.Core.Logic.{◌≢◌, ◌⊎◌, inl, inr}
use mathlib.Core.Bool.{Bool, true, false}
use native.Mathlib.Omega.{arith}
use lib.Dec.{eqb, ltb, leb}
use borrow.Author.Tests.{ne_eqb, le-ltb, le-leb, leb-true, leb-false}
use Rattle.laws.specs.Choice.{pick, within}
use Rattle.laws.proofs.Choice.{equal?, Equal, equal, Below, below, split, both_first, both_second, false≢true}
use Rattle.lock_table.specs.Place.{place_within}

-- a number that has a record, or none
abbrev pub Has : ℕ → ℕ → Type 0
Has limit number = (number ≢ 0) × (number ≤ limit)

abbrev pub Lacks : ℕ → ℕ → Type 0
Lacks limit number = (number ≡ 0) ⊎ (limit < number)

pub has? : (limit number : ℕ) → Has limit number ⊎ Lacks limit number
has? limit number = at (equal? number 0) (ltb limit number) (below limit number)
  where
    at : (number ≡ 0) ⊎ (number ≢ 0) → (past : Bool) → Below past limit number → Has limit number ⊎ Lacks limit number
    at (inl none) past b = inr (inl none)
    at (inr some) true b = inr (inr b)
    at (inr some) false b = inl (some, b)

pub place_has : (limit number : ℕ) → Has limit number → place_within limit number ≡ number - 1
unfolding place_within
place_has limit number (some, high) = simp (ne_eqb number 0 some, le-ltb limit number high)

-- the same by a test
pub number_some : (limit number : ℕ) → within 1 limit number ≡ true → number ≢ 0
number_some limit number inside = let some = leb-true 1 number (both_first (leb 1 number) _ inside) in λ none. omega (arith, some, none)

pub number_high : (limit number : ℕ) → within 1 limit number ≡ true → number ≤ limit
number_high limit number inside = leb-true number limit (both_second (leb 1 number) _ inside)

pub number_past : (limit number : ℕ) → number ≢ 0 → within 1 limit number ≡ false → limit < number
number_past limit number some outside =
    split (leb number limit) (λ high. false≢true (sym (rw (le-leb 1 number (omega (arith, some)), high) at outside))) (λ high. leb-false number limit high)

-- any number's place is one of the array's
pub place_inside : (limit number : ℕ) → 0 < limit → place_within limit number < limit
unfolding place_within
place_inside limit number real = at (eqb number 0) (equal number 0) (ltb limit number) (below limit number)
  where
    at : (none : Bool) → Equal none number 0 → (past : Bool) → Below past limit number → pick none 0 (pick past 0 (number - 1)) < limit
    at true e past b = real
    at false e true b = real
    at false e false b = omega (arith, b, e)
