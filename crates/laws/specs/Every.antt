-- A test of a whole range.
use Rattle.std.specs.Prelude.{ℕ, zero, suc, ◌-◌, Bool, true, false}
use Rattle.laws.specs.Choice.{pick}

-- the test passes at each of 1 to n
unfoldable pub all_up_to : ℕ → (ℕ → Bool) → Bool
all_up_to zero test = true
all_up_to (suc n) test = pick (test (suc n)) (all_up_to n test) false

-- the test passes at each of the n places from 0 on
abbrev pub all_below : ℕ → (ℕ → Bool) → Bool
all_below n test = all_up_to n (λ i. test (i - 1))
